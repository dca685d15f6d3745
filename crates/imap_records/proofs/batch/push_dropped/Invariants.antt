use Rattle.std.proofs.Common.{◌≡◌, ◌++◌, ◌<◌, ℕ, map, drop}
use Rattle.std.specs.List.{AllByRecursion}
use Rattle.imap_modseq.specs.Numbers.{max_events}
use Rattle.imap_records.specs.Steps.{below_of, drop_step}
use Rattle.imap_records.proofs.batch.push_dropped.Given as goal

abbrev pub invariant-loop-place : goal.invariant-loop-place
invariant-loop-place l = record {
  rows : map below_of l.changes.items ++ map (drop_step l.user) (drop l.place-index l.places) ≡ map below_of l.fn.changes.items ++ map (drop_step l.user) l.places;
  small : AllByRecursion (λ (p : ℕ). p < max_events) (drop l.place-index l.places);
}
