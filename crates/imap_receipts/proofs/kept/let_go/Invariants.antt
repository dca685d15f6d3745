use Rattle.std.specs.Prelude.{◌≡◌, ◌≤◌}
use Rattle.std.specs.VecDeque.{deque_capacity, deque_len}
use Rattle.imap_receipts.specs.Keeping.{from_base}
use Rattle.imap_receipts.proofs.kept.let_go.Given as goal

abbrev pub invariant-loop-receipts : goal.invariant-loop-receipts
invariant-loop-receipts l =
    (from_base l.base l.receipts.items ≡ from_base l.base l.fn.receipts.items)
    × (deque_len l.receipts ≤ deque_len l.fn.receipts)
    × (deque_capacity l.receipts ≡ deque_capacity l.fn.receipts)

abbrev pub decreases-loop-receipts : goal.decreases-loop-receipts
decreases-loop-receipts l = deque_len l.receipts
