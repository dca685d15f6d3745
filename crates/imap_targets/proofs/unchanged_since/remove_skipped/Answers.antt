use Rattle.std.proofs.Common.{not, rules}
use Rattle.std.proofs.lemmas.Fn.{filter_same}
use Rattle.imap_targets.specs.UnchangedSince.{is_skipped}
use Rattle.imap_targets.specs.declared.message_numbers.Numbered.{Numbered}
use Rattle.imap_targets.proofs.unchanged_since.remove_skipped.Goals as goal

pub returns : goal.returns
returns c = filter_same _ (λ (m : Numbered). not (is_skipped c.args.since c.args.rows.now m)) _ (λ x b f' h. search rules) _ _ c.retain.ensures.filtered
