use Rattle.std.proofs.Common.{◌≡◌, Ok, sym, subst}
use Rattle.imap_world.specs.Effects.{writes_of}
use Rattle.imap_world.specs.Ready.{IsCurrent}
use Rattle.imap_world.specs.Stored.{world_of}
use Rattle.imap_world.proofs.Resolved.{found}
use Rattle.imap_world.proofs.world.World.prepare.Goals as goal

pub returns-clause-ready : goal.returns-clause-ready
returns-clause-ready c =
    let world = world_of c.args.self.now in
    let change = c.in_ok-change.change in
    let effects = c.args.effects.now in
    let writes : writes_of effects world ≡ Ok change = found change (writes_of effects world) c.in_ok-change.ensures.change in
    record {
      room = c.in_ok-make_room.ensures.room;
      current = subst (IsCurrent change) (sym c.make_room.ensures.unchanged) (effects, c.requires, writes);
    }
