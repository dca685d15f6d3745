use Rattle.std.proofs.Common.{◌≡◌, ◌++◌, ◌+◌, map, drop}
use Rattle.imap_mailbox.specs.Expunging.{gone_at}
use Rattle.imap_records.specs.Steps.{below_of, gone_step}
use Rattle.imap_records.proofs.batch.push_gone.Given as goal

abbrev pub invariant-loop-uid : goal.invariant-loop-uid
invariant-loop-uid l = record {
  rows : map below_of l.changes.items ++ map gone_step (gone_at l.at (drop l.uid-index l.uids)) ≡ map below_of l.fn.changes.items ++ map gone_step (gone_at l.place l.uids);
  place : l.at ≡ l.place + l.uid-index;
}
