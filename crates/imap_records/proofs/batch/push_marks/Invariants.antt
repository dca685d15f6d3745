use Rattle.std.proofs.Common.{◌≡◌, ◌++◌, ◌-◌, map, drop, take}
use Rattle.imap_modseq.specs.Numbers.{max_events}
use Rattle.imap_records.specs.Steps.{below_of, mark_steps}
use Rattle.imap_records.proofs.batch.push_marks.Given as goal

abbrev pub invariant-loop-change : goal.invariant-loop-change
invariant-loop-change l = map below_of l.changes.items ++ mark_steps l.user l.at (take (max_events - l.at) (drop l.change-index l.own)) ≡ map below_of l.fn.changes.items ++ mark_steps l.user l.place (take (max_events - l.place) l.own)
