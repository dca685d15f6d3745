use Rattle.std.proofs.Common.{◌≡◌, ◌+◌, ◌++◌, Ok, drop, ap, ◌∙◌}
use Rattle.imap_world.specs.Effects.{writes_of, writes_then}
use Rattle.imap_world.specs.Stored.{world_of}
use Rattle.imap_world.proofs.Resolved.{this_effect, with_writes}
use Rattle.imap_world.proofs.world.World.resolve_each.Goals as goal

pub loop-effect-preserved : goal.loop-effect-preserved
loop-effect-preserved c =
    let world = world_of c.args.self.now in
    let cut = this_effect c.args.effects.now c.loop-effect.effect-index c.effect-item.result c.loop-effect-test.true c.effect-item.is in
    let appended : c.append.new.self ≡ c.loop-effect.change ++ c.in-Ok.writes = c.in_ok-append-in-Ok.ensures in
    ap (λ ws. writes_then (Ok ws) (writes_of (drop (c.loop-effect.effect-index + 1) c.args.effects.now) world)) appended
    ∙ with_writes world c.args.effects.now c.loop-effect.effect-index c.effect-item.result cut c.loop-effect.change c.loop-effect.invariant c.in-Ok.writes c.in-Ok.ensures
