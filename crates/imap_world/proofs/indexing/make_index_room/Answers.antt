use Rattle.imap_world.proofs.indexing.make_index_room.Goals as goal

pub loop-write-init : goal.loop-write-init
loop-write-init c = c.reserve.ensures

pub loop-write-preserved : goal.loop-write-preserved
loop-write-preserved c = λ lists index. c.make_room_for_lists.ensures lists (c.loop-write.invariant lists index)

pub returns-in_err-make_room_for_lists : goal.returns-in_err-make_room_for_lists
returns-in_err-make_room_for_lists c = λ lists index. c.make_room_for_lists.ensures lists (c.loop-write.invariant lists index)
