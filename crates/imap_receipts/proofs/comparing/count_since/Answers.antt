use Rattle.std.proofs.Common.{map, refl, sym, true≢false}
use Rattle.std.specs.VecDeque.Iter.{deque_iter_rest}
use Rattle.imap_hall.specs.Hall.{journal_entry}
use Rattle.imap_receipts.specs.Settling.{since}
use Rattle.imap_receipts.proofs.Counted.{counted_new, counted_old, not_entry, not_rising}
use Rattle.imap_receipts.proofs.comparing.count_since.Goals as goal

pub loop-kept-preserved-then-place-before : goal.loop-kept-preserved-then-place-before
loop-kept-preserved-then-place-before c =
    counted_old c.args.before (map journal_entry c.args.entries.now) c.args.session.now (since c.args.before c.args.receipts.now.items) c.loop-kept.last c.loop-kept.count
    (deque_iter_rest c.loop-kept.kept-iterator) c.in-Some.kept.now (deque_iter_rest c.next.new.self) c.receipt.result.now c.receipt.ensures c.in-Some.ensures.steps c.loop-kept.invariant c.if-place-before.true

pub loop-kept-preserved : goal.loop-kept-preserved
loop-kept-preserved c =
    counted_new c.args.before (map journal_entry c.args.entries.now) c.args.session.now (since c.args.before c.args.receipts.now.items) c.loop-kept.last c.loop-kept.count
    (deque_iter_rest c.loop-kept.kept-iterator) c.in-Some.kept.now (deque_iter_rest c.next.new.self) c.receipt.result.now c.receipt.ensures c.in-Some.ensures.steps c.loop-kept.invariant c.if-place-before.false c.if-place-last.false
    (c.if-not-is_of_entry.ensures.0 refl)

pub returns-then-place-last-clause-unsettled : goal.returns-then-place-last-clause-unsettled
returns-then-place-last-clause-unsettled c = λ _ settled.
    not_rising c.args.before (map journal_entry c.args.entries.now) c.args.session.now (since c.args.before c.args.receipts.now.items) c.loop-kept.last c.loop-kept.count
    (deque_iter_rest c.loop-kept.kept-iterator) c.in-Some.kept.now (deque_iter_rest c.next.new.self) c.receipt.result.now c.receipt.ensures c.in-Some.ensures.steps c.loop-kept.invariant c.if-place-before.false c.if-place-last.true settled.rising

pub returns-then-not-is_of_entry-clause-unsettled : goal.returns-then-not-is_of_entry-clause-unsettled
returns-then-not-is_of_entry-clause-unsettled c = λ _ settled.
    not_entry c.args.before (map journal_entry c.args.entries.now) c.args.session.now (since c.args.before c.args.receipts.now.items) c.loop-kept.last c.loop-kept.count
    (deque_iter_rest c.loop-kept.kept-iterator) c.in-Some.kept.now (deque_iter_rest c.next.new.self) c.receipt.result.now c.receipt.ensures c.in-Some.ensures.steps c.loop-kept.invariant c.if-place-before.false
    (λ is. absurd (true≢false (sym (c.if-not-is_of_entry.ensures.1 is)))) settled.entries
