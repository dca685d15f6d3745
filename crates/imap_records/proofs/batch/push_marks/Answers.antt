use Rattle.std.proofs.Common.{rules, ◌<◌, map}
use Rattle.imap_modseq.specs.Numbers.{max_events}
use Rattle.imap_records.specs.Steps.{below_of}
use Rattle.imap_records.proofs.Lists.{mark_done}
use Rattle.imap_records.proofs.batch.push_marks.Goals as goal

pub loop-change-preserved : goal.loop-change-preserved
loop-change-preserved c =
    let l = c.loop-change in
    let low : l.at < max_events = search rules in
    mark_done c.args.user.now c.args.own.now l.change-index l.at _ (map below_of l.changes.items) (map below_of c.push_mark.new.changes.items) _ c.loop-change-test.true low c.in_ok-push_mark.ensures l.invariant
