use Rattle.imap_world.proofs.indexing.make_room_for_row.Goals as goal

pub returns-in_err-reserve_in_tree : goal.returns-in_err-reserve_in_tree
returns-in_err-reserve_in_tree c = λ lists index. c.reserve_in_tree.ensures lists (c.reserve.ensures lists index)

pub returns : goal.returns
returns c = λ lists index. c.reserve_entries.ensures lists (c.reserve_in_tree.ensures lists (c.reserve.ensures lists index))
