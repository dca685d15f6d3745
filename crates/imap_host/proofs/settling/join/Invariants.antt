use Rattle.std.proofs.Common.{◌≡◌, ◌+◌, ◌≤◌, sum_by, vec_len}
use Rattle.std.specs.VecDeque.{deque_len}
use Rattle.imap_host.proofs.settling.join.Given as goal

abbrev pub invariant-loop-seat : goal.invariant-loop-seat
invariant-loop-seat g l =
    (l.all.parts + deque_len l.seat-iterator.rest ≡ l.fn.rest.parts + vec_len l.fn.seats)
    × (l.all.amount + sum_by (λ s. s.share.amount) l.seat-iterator.rest.items
    ≡ l.fn.rest.amount + sum_by (λ s. s.share.amount) l.fn.seats.items)
    × (l.all.parts ≤ g.L.Ledger.parts)
