use Rattle.std.proofs.Common.{◌≡◌, ◌+◌, ◌≤◌, ◌++◌, drop, length}
use Rattle.std.specs.Prelude.{vec_len}
use Rattle.std.specs.Vec.{vec_capacity}
use Rattle.imap_mailbox.specs.Expunging.{gone_at, uids_there}
use Rattle.imap_mailbox.proofs.expunging.push_gone.Given as goal

abbrev pub invariant-loop-uid : goal.invariant-loop-uid
invariant-loop-uid l = record {
  items : l.gone.items ++ gone_at l.next (uids_there (drop l.uid-index l.uids) l.messages) ≡ l.fn.gone.items ++ gone_at l.place (uids_there l.uids l.messages);
  next : l.next + length (uids_there (drop l.uid-index l.uids) l.messages) ≡ l.place + length (uids_there l.uids l.messages);
  most : l.next ≤ l.place + l.uid-index;
  len : vec_len l.gone ≤ vec_len l.fn.gone + l.uid-index;
  capacity : vec_capacity l.gone ≡ vec_capacity l.fn.gone;
}
