use Rattle.std.proofs.Common.{◌≤◌, length, sym, subst}
use Rattle.imap_names.proofs.LetterLaws.{path_within}
use Rattle.imap_names.proofs.letters.path_in.Goals as goal

pub returns-clause-len : goal.returns-clause-len
returns-clause-len c = subst (λ z. length z ≤ length c.args.text.now) (sym c.parts_of.ensures.path) (path_within c.args.text.now)
