use Rattle.imap_name_map.proofs.RenameLaws.{sorted_front, moved_all}
use Rattle.imap_name_map.proofs.moves.move_run.Goals as goal

pub start_among-place-requires-clause-sorted : goal.start_among-place-requires-clause-sorted
start_among-place-requires-clause-sorted g c =
    sorted_front c.args.entries.now c.run_to_back-count.new.entries c.put_names_from.new.entries c.args.names.items c.args.old.now c.args.new.now c.run_to_back-count.result c.requires.sorted c.run_to_back-count.ensures.items c.run_to_back-count.ensures.count c.requires.names c.put_names_from.ensures.items

pub returns-clause-items : goal.returns-clause-items
returns-clause-items g c =
    moved_all c.args.entries.now c.run_to_back-count.new.entries c.put_names_from.new.entries c.from_back.new.entries c.args.names.items c.args.old.now c.args.new.now c.run_to_back-count.result c.start_among-place.result
    c.run_to_back-count.ensures.items c.run_to_back-count.ensures.count c.requires.names c.put_names_from.ensures.items c.start_among-place.ensures.place c.start_among-place.ensures.within c.from_back.ensures.items
