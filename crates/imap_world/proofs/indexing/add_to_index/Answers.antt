use Rattle.imap_world.proofs.indexing.add_to_index.Goals as goal

pub returns : goal.returns
returns c = λ lists absent index. c.add.ensures lists absent (c.reserve_entries.ensures lists (c.reserve_in_tree.ensures lists index))
