use Rattle.std.proofs.Common.{◌≡◌, ◌++◌, drop, filter}
use Rattle.imap_mailbox.specs.Lent.{gone_after_number}
use Rattle.imap_mailbox.specs.Order.{uids_gone}
use Rattle.imap_resync.specs.UidSet.{includes}
use Rattle.imap_resync.proofs.vanished.gone_uids.Given as goal

abbrev pub invariant-loop-place : goal.invariant-loop-place
invariant-loop-place l =
    l.found.items ++ filter (includes l.uids) (uids_gone (drop l.place l.gone))
    ≡ filter (includes l.uids) (uids_gone (gone_after_number l.since l.gone))
