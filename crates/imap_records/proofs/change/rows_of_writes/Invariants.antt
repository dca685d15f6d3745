use Rattle.std.specs.List.{AllByRecursion}
use Rattle.imap_records.specs.Values.{WriteHasValues}
use Rattle.std.proofs.Common.{◌≡◌, ◌++◌, drop}
use Rattle.imap_records.specs.Bounds.{AreBounded, AreNamed}
use Rattle.imap_records.specs.Steps.{steps_in, steps_of}
use Rattle.imap_records.proofs.change.rows_of_writes.Given as goal

abbrev pub invariant-loop-write : goal.invariant-loop-write
invariant-loop-write l = record {
  rows : steps_in l.changes.items ++ steps_of (drop l.write-index l.writes) ≡ steps_of l.writes;
  valid : AreNamed (drop l.write-index l.writes) → AreNamed l.writes;
  bounded : AreBounded (drop l.write-index l.writes);
  values : AllByRecursion WriteHasValues (drop l.write-index l.writes) → AllByRecursion WriteHasValues l.writes;
}
