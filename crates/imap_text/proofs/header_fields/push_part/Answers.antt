use Rattle.std.proofs.Common.{List, ℕ, ◌++◌, ap, ◌∙◌}
use Rattle.std.specs.List.{concat}
use Rattle.imap_text.proofs.Chosen.{concat-last}
use Rattle.imap_text.proofs.header_fields.push_part.Goals as goal

pub returns-in_ok-push : goal.returns-in_ok-push
returns-in_ok-push c =
    ap concat c.in_ok-push.ensures.items ∙ concat-last c.args.parts.now.items _ ∙ ap (λ (l : List ℕ). concat c.args.parts.now.items ++ l) c.in_ok-slice.ensures
