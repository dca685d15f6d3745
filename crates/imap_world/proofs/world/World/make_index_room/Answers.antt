use Rattle.imap_world.proofs.world.World.make_index_room.Goals as goal

pub invariant_of-self : goal.invariant_of-self
invariant_of-self c = (c.self.invariant.0, c.self.invariant.1, c.make_index_room.ensures _ c.self.invariant.2)
