use Rattle.std.proofs.Common.{◌≡◌, ◌≤◌, take}
use Rattle.std.specs.Vec.{vec_capacity}
use Rattle.imap_sessions.specs.Sessions.{max_sessions}
use Rattle.imap_sessions.proofs.sessions.copy_entries.Given as goal

abbrev pub invariant-loop-number : goal.invariant-loop-number
invariant-loop-number l = record {
  items : l.copy.items ≡ take l.number-index l.entries;
  room : max_sessions ≤ vec_capacity l.copy;
}
