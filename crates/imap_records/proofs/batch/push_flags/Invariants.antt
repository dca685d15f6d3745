use Rattle.std.specs.List.{AllByRecursion}
use Rattle.imap_records.specs.Values.{IsNewMark}
use Rattle.std.proofs.Common.{◌≡◌, ◌++◌, ◌+◌, map, drop}
use Rattle.imap_batch.specs.Batch.{flag_count}
use Rattle.imap_batch.specs.Entered.{flags_from}
use Rattle.imap_records.specs.Steps.{below_of, flag_step}
use Rattle.imap_records.proofs.batch.push_flags.Given as goal

abbrev pub invariant-loop-mark : goal.invariant-loop-mark
invariant-loop-mark l = record {
  rows : map below_of l.changes.items ++ map flag_step (flags_from l.at (drop l.mark-index l.marks)) ≡ map below_of l.fn.changes.items ++ map flag_step (flags_from l.place l.marks);
  place : l.at + flag_count (drop l.mark-index l.marks) ≡ l.place + flag_count l.marks;
  valid : AllByRecursion IsNewMark (drop l.mark-index l.marks) → AllByRecursion IsNewMark l.marks;
}
