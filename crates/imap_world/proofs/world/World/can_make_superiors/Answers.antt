use Rattle.std.proofs.Common.{◌≡◌, Some, None, drop, sym, ap, ◌∙◌}
use Rattle.imap_names.specs.Name.{superior}
use Rattle.imap_names.proofs.MovedLaws.{superior_is_tail}
use Rattle.imap_world.specs.Stored.{world_of}
use Rattle.imap_world.specs.Tree.{inherited}
use Rattle.imap_world.proofs.Limited.{has_parts, is_above_ok, superiors_ok}
use Rattle.imap_world.proofs.world.World.can_make_superiors.Goals as goal

pub can_make-requires : goal.can_make-requires
can_make-requires c =
    let name = c.args.name.now in
    let above : superior name ≡ Some c.in-Some.above = ap superior (sym c.as_ref.ensures.name) ∙ sym c.superior.ensures ∙ c.in-Some.is in
    (superior_is_tail name c.in-Some.above above).parts

pub returns-in-Some : goal.returns-in-Some
returns-in-Some c =
    let world = world_of c.args.self.now in
    let name = c.args.name.now in
    let above : superior name ≡ Some c.in-Some.above = ap superior (sym c.as_ref.ensures.name) ∙ sym c.superior.ensures ∙ c.in-Some.is in
    λ owner.
    let acl = inherited world.mailboxes owner (drop 1 name) in
    c.can_make.ensures acl ∙ sym (superiors_ok world owner name (has_parts name c.as_ref.ensures.valid) ∙ ap (is_above_ok world acl) above)

pub returns-in-None : goal.returns-in-None
returns-in-None c =
    let world = world_of c.args.self.now in
    let name = c.args.name.now in
    let none : superior name ≡ None = ap superior (sym c.as_ref.ensures.name) ∙ sym c.superior.ensures ∙ c.in-None.is in
    λ owner.
    sym (superiors_ok world owner name (has_parts name c.as_ref.ensures.valid) ∙ ap (is_above_ok world (inherited world.mailboxes owner (drop 1 name))) none)
