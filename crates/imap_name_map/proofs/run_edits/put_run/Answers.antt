use Rattle.std.proofs.Common.{◌∙◌}
use Rattle.imap_name_map.proofs.RunInserts.{others_within, back_sorted, others_within_still, front_sorted, run_put}
use Rattle.imap_name_map.proofs.run_edits.put_run.Goals as goal

pub put_all_from-requires-clause-within : goal.put_all_from-requires-clause-within
put_all_from-requires-clause-within g c =
    others_within c.args.top.now c.args.entries.now.items c.run_to_end-others.new.entries.items c.run_to_end-others.new.entries.items c.args.more.items c.run_to_end-others.result c.requires.sorted c.run_to_end-others.ensures.items c.run_to_end-others.ensures.others

pub put_all_from-requires-clause-sorted : goal.put_all_from-requires-clause-sorted
put_all_from-requires-clause-sorted g c =
    back_sorted c.args.top.now c.args.entries.now.items c.run_to_end-others.new.entries.items c.run_to_end-others.new.entries.items c.args.more.items c.run_to_end-others.result c.requires.sorted c.run_to_end-others.ensures.items c.run_to_end-others.ensures.others

pub run_from_end-requires-clause-within : goal.run_from_end-requires-clause-within
run_from_end-requires-clause-within g c =
    others_within_still c.args.top.now c.args.entries.now.items c.run_to_end-others.new.entries.items c.put_all_from.new.entries.items c.args.more.items c.run_to_end-others.result c.requires.sorted c.run_to_end-others.ensures.items c.run_to_end-others.ensures.others c.put_all_from.ensures.items

pub run_from_end-requires-clause-sorted : goal.run_from_end-requires-clause-sorted
run_from_end-requires-clause-sorted g c =
    front_sorted c.args.top.now c.args.entries.now.items c.run_to_end-others.new.entries.items c.put_all_from.new.entries.items c.args.more.items c.run_to_end-others.result c.requires.sorted c.run_to_end-others.ensures.items c.run_to_end-others.ensures.others c.put_all_from.ensures.items

pub returns-clause-items : goal.returns-clause-items
returns-clause-items g c =
    c.run_from_end.ensures.items
    ∙ run_put c.args.top.now c.args.entries.now.items c.run_to_end-others.new.entries.items c.put_all_from.new.entries.items c.args.more.items c.run_to_end-others.result c.requires.sorted c.run_to_end-others.ensures.items c.run_to_end-others.ensures.others c.put_all_from.ensures.items
