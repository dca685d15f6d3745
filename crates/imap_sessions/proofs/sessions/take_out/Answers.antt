use Rattle.std.proofs.Common.{not, eqb, rules}
use Rattle.std.proofs.lemmas.Fn.{filter_same}
use Rattle.imap_sessions.proofs.sessions.take_out.Goals as goal

pub returns-clause-items : goal.returns-clause-items
returns-clause-items c = filter_same _ (λ e. not (eqb e.0 c.args.number)) _ (λ x b f' h. (search rules, search rules)) _ _ c.retain.ensures.filtered
