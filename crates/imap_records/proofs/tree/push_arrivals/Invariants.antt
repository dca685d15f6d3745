use Rattle.std.proofs.Common.{◌≡◌, ◌++◌, ℕ, drop}
use Rattle.std.specs.List.{AllByRecursion}
use Rattle.imap_names.specs.Name.{Name}
use Rattle.imap_names.specs.Valid.{IsName}
use Rattle.imap_tables.specs.Stored.{IsShort}
use Rattle.imap_records.specs.Steps.{arrival_steps, steps_in}
use Rattle.imap_records.proofs.tree.push_arrivals.Given as goal

abbrev pub invariant-loop-arrival : goal.invariant-loop-arrival
invariant-loop-arrival l = record {
  rows : steps_in l.changes.items ++ arrival_steps l.old l.new (drop l.arrival-index l.arrivals) ≡ steps_in l.fn.changes.items ++ arrival_steps l.old l.new l.arrivals;
  valid : AllByRecursion (λ (a : Name × ℕ). IsName a.0) (drop l.arrival-index l.arrivals) → AllByRecursion (λ (a : Name × ℕ). IsName a.0) l.arrivals;
  values : AllByRecursion (λ (a : Name × ℕ). IsShort a.1) (drop l.arrival-index l.arrivals) → AllByRecursion (λ (a : Name × ℕ). IsShort a.1) l.arrivals;
}
