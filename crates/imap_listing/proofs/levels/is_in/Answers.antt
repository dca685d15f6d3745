use Rattle.std.proofs.Common.{◌≡◌, Some, subst, sym, ◌∙◌}
use Rattle.std.specs.Prelude.{◌↔◌, ◌⊎◌}
use Rattle.imap_names.proofs.FrontLaws.{split_last}
use Rattle.imap_listing.specs.Texts.{Text, IsBelow}
use Rattle.imap_listing.proofs.Hierarchy.{above_parts}
use Rattle.imap_listing.proofs.Order.{same_texts}
use Rattle.imap_listing.proofs.levels.is_in.Goals as goal

pub returns-in-Some : goal.returns-in-Some
returns-in-Some c = λ t n.
    let above = c.in-Some.above in
    let parts = split_last c.args.name.now (Some (above, c.in-Some.field-0-1)) c.in-Some.ensures.cases in
    let same : above.now ≡ c.args.folder.now = same_texts above.now c.args.folder.now (sym c.eq.ensures ∙ t) in
    subst (λ (z : Text). IsBelow n c.args.name.now ↔ ((z ≡ n) ⊎ IsBelow n z)) same (above_parts c.args.name.now above.now c.in-Some.field-0-1.now n parts.0 parts.1)
