use Rattle.std.proofs.Common.{◌≡◌, ◌++◌, ◌-◌, length, drop, take}
use Rattle.imap_modseq.specs.Numbers.{max_events}
use Rattle.imap_mailbox.specs.Held.{summary_in}
use Rattle.imap_mailbox.specs.Own.{own_at}
use Rattle.imap_batch.specs.Batch.{dropped_from}
use Rattle.imap_batch.proofs.resolving.push_dropped.Given as goal

abbrev pub invariant-loop-change : goal.invariant-loop-change
invariant-loop-change l =
    l.dropped.items ++ dropped_from l.before (own_at (summary_in l.mailbox).own l.user) (take (max_events - l.at) (drop l.change-index l.changes))
    ≡ l.fn.dropped.items ++ dropped_from l.before (own_at (summary_in l.mailbox).own l.user) (take (max_events - length (own_at (summary_in l.mailbox).own l.user).befores) l.changes)
