use Rattle.std.proofs.Common.{◌-◌}
use Rattle.imap_mailbox.proofs.Since.{IsCut}
use Rattle.imap_mailbox.proofs.gone.GoneUids.count_until.Given as goal

abbrev pub decreases-loop-low : goal.decreases-loop-low
decreases-loop-low l = l.high - l.low

abbrev pub invariant-loop-low : goal.invariant-loop-low
invariant-loop-low l = IsCut l.number l.self l.low l.high
