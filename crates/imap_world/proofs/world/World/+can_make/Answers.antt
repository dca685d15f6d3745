use Rattle.std.proofs.Common.{◌≡◌, Some, false, rules, sym, ◌∙◌}
use Rattle.std.specs.Prelude.{◌==◌}
use Rattle.std.specs.FinMap as map
use Rattle.imap_world.specs.Stored.{world_of}
use Rattle.imap_world.specs.World.{epoch, max_validity}
use Rattle.imap_world.proofs.Limited.{made_by_superior}
use Rattle.imap_world.proofs.world.World.+can_make.Goals as goal

pub returns-in-Some : goal.returns-in-Some
returns-in-Some t c =
    let world = world_of c.args.self.now in
    let name = c.args.name.now in
    let absent : map.contains_key world.mailboxes name ≡ false = search rules in
    let left : (epoch world.epochs name == max_validity) ≡ false = search rules in
    λ acl. c.can_make.ensures acl ∙ made_by_superior world acl name c.requires (Some c.in-Some.above) (sym c.superior.ensures ∙ c.in-Some.is) absent left
