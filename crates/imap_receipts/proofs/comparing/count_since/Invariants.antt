use Rattle.std.proofs.Common.{map}
use Rattle.std.specs.VecDeque.Iter.{deque_iter_rest}
use Rattle.imap_hall.specs.Hall.{journal_entry}
use Rattle.imap_receipts.specs.Settling.{since}
use Rattle.imap_receipts.proofs.Counted.{IsCounted}
use Rattle.imap_receipts.proofs.comparing.count_since.Given as goal

abbrev pub invariant-loop-kept : goal.invariant-loop-kept
invariant-loop-kept l =
    IsCounted l.before (map journal_entry l.entries) l.session (since l.before l.receipts.items)
    (since l.before (deque_iter_rest l.kept-iterator)) l.last l.count
