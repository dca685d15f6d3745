use Rattle.std.proofs.Common.{◌≡◌, ◌≤◌, ◌++◌, drop, length, vec_len}
use Rattle.std.specs.Vec.{vec_capacity}
use Rattle.imap_mailbox.specs.Lent.{row_uids}
use Rattle.imap_session.proofs.uids.uids_of.Given as goal

abbrev pub invariant-loop-place : goal.invariant-loop-place
invariant-loop-place l = record {
  list : l.uids.items ++ row_uids (drop l.place l.rows) ≡ row_uids l.rows;
  count : vec_len l.uids ≡ l.place;
  room : length l.rows ≤ vec_capacity l.uids;
}
