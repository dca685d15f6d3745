use Rattle.std.proofs.Common.{◌≤◌, drop}
use Rattle.imap_mailbox.specs.Expunging.{without_all}
use Rattle.imap_mailbox.proofs.Summing.{AreSoFar}
use Rattle.imap_mailbox.proofs.totals.Totals.of_uids.Given as goal

abbrev pub invariant-loop-uid : goal.invariant-loop-uid
invariant-loop-uid l = record {
  far : AreSoFar (without_all l.uids l.messages) (without_all (drop l.uid-index l.uids) l.messages) l.totals;
  most : l.totals.deleted ≤ l.uid-index;
}
