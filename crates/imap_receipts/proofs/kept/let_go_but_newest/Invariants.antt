use Rattle.std.specs.Prelude.{◌≡◌}
use Rattle.std.specs.VecDeque.{deque_len}
use Rattle.imap_receipts.specs.Keeping.{but_newest}
use Rattle.imap_receipts.proofs.kept.let_go_but_newest.Given as goal

abbrev pub invariant-loop-receipts : goal.invariant-loop-receipts
invariant-loop-receipts l = but_newest l.base l.receipts.items ≡ but_newest l.base l.fn.receipts.items

abbrev pub decreases-loop-receipts : goal.decreases-loop-receipts
decreases-loop-receipts l = deque_len l.receipts
