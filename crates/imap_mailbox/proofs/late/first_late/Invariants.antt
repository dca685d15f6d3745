use Rattle.std.proofs.Common.{◌≤◌, length}
use Rattle.imap_mailbox.proofs.late.first_late.Given as goal

abbrev pub invariant-loop-look : goal.invariant-loop-look
invariant-loop-look l = l.first ≤ length l.own.own.befores
