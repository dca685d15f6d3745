use Rattle.std.proofs.Common.{◌≤◌, drop}
use Rattle.std.specs.Prelude.{◌↔◌}
use Rattle.imap_mailbox.specs.Summary.{Rises}
use Rattle.imap_mailbox.proofs.restored.rise_below.Given as goal

abbrev pub invariant-loop-place : goal.invariant-loop-place
invariant-loop-place l = record {
  rest : Rises l.low l.shared (drop l.place-index l.places) ↔ Rises 0 l.shared l.places;
  within : l.low ≤ l.shared;
}
