use Rattle.std.proofs.Common.{◌≡◌, drop}
use Rattle.imap_mailbox.specs.Summary.{uids_in}
use Rattle.imap_batch.specs.Batch.{are_known}
use Rattle.imap_batch.proofs.resolving.are_known.Given as goal

abbrev pub invariant-loop-uid : goal.invariant-loop-uid
invariant-loop-uid l =
    are_known l.low (drop l.uid-index l.uids) (uids_in l.mailbox.messages) ≡ are_known 0 l.uids (uids_in l.mailbox.messages)
