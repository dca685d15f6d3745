use Rattle.std.proofs.Common.{◌-◌}
use Rattle.imap_mailbox.proofs.Since.{IsCut}
use Rattle.imap_resync.proofs.vanished.count_until.Given as goal

abbrev pub decreases-loop-low : goal.decreases-loop-low
decreases-loop-low l = l.high - l.low

abbrev pub invariant-loop-low : goal.invariant-loop-low
invariant-loop-low l = IsCut l.number l.gone l.low l.high
