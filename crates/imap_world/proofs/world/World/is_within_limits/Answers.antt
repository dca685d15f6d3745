use Rattle.std.proofs.Common.{◌&&◌, sym, ap, ◌∙◌}
use Rattle.std.specs.Result.{is_ok}
use Rattle.imap_world.specs.Moving.{arrivals}
use Rattle.imap_world.specs.Stored.{world_of}
use Rattle.imap_world.proofs.Limited.{arrivals_ok}
use Rattle.imap_world.proofs.world.World.is_within_limits.Goals as goal

pub returns-then-can_make_superiors : goal.returns-then-can_make_superiors
returns-then-can_make_superiors c =
    let world = world_of c.args.self.now in
    let old = c.args.old.now in
    let new = c.args.new.now in
    λ owner. c.can_all_arrive.ensures ∙ sym (arrivals_ok world old new) ∙ ap (λ b. b && is_ok (arrivals world old new)) (sym c.if-can_make_superiors.true ∙ c.can_make_superiors.ensures owner)

pub returns-else-can_make_superiors : goal.returns-else-can_make_superiors
returns-else-can_make_superiors c =
    let world = world_of c.args.self.now in
    λ owner. c.if-can_make_superiors.false ∙ ap (λ b. b && is_ok (arrivals world c.args.old.now c.args.new.now)) (sym c.if-can_make_superiors.false ∙ c.can_make_superiors.ensures owner)
