use Rattle.imap_name_map.proofs.RenameLaws.{put_back, run_length, run_order'}
use Rattle.imap_name_map.proofs.moves.run_to_back.Goals as goal

pub to_back-requires-clause-order : goal.to_back-requires-clause-order
to_back-requires-clause-order g c = run_order' c.args.entries.now c.args.top.now c.start_of-start.result c.end_of-end.result c.start_of-start.ensures.place c.end_of-end.ensures.place

pub returns-clause-items : goal.returns-clause-items
returns-clause-items g c = put_back c.args.entries.now c.to_back.new.entries c.args.top.now c.start_of-start.result c.end_of-end.result c.requires c.start_of-start.ensures.place c.end_of-end.ensures.place c.to_back.ensures.items

pub returns-clause-count : goal.returns-clause-count
returns-clause-count g c = run_length c.args.entries.now c.args.top.now c.start_of-start.result c.end_of-end.result c.requires c.start_of-start.ensures.place c.end_of-end.ensures.place c.end_of-end.ensures.within
