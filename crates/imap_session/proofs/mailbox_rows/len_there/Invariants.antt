use Rattle.std.proofs.Common.{◌-◌, ◌≤◌, length}
use Rattle.imap_session.proofs.mailbox_rows.len_there.Given as goal

abbrev pub invariant-loop-len : goal.invariant-loop-len
invariant-loop-len l = l.len ≤ length l.known.list - l.place

abbrev pub decreases-loop-len : goal.decreases-loop-len
decreases-loop-len l = l.len
