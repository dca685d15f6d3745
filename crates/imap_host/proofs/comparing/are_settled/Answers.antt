use Rattle.std.proofs.Common.{◌+◌, arith, drop, map}
use Rattle.imap_serve.specs.Hall.{journal_entry}
use Rattle.imap_host.specs.Seats.{notes_of}
use Rattle.imap_host.proofs.Passed.{passed_more, seat_left}
use Rattle.imap_host.proofs.comparing.are_settled.Goals as goal

pub loop-seat-preserved : goal.loop-seat-preserved
loop-seat-preserved g c =
    let more = passed_more c.args.before (map journal_entry c.args.entries.now) (map notes_of c.args.seats.now) (map notes_of (drop c.loop-seat.seat-index c.args.seats.now)) c.loop-seat.left c.loop-seat.base
    (notes_of c.seat-item.result) (map notes_of (drop (c.loop-seat.seat-index + 1) c.args.seats.now))
    (seat_left c.args.seats.now c.loop-seat.seat-index c.seat-item.result c.loop-seat-test.true c.seat-item.is) c.loop-seat.invariant
    c.in-Some.count c.in-Some.ensures.settled c.in-Some.ensures.count c.if-count-left.true in
    let last = more.last in
    record { number = more.number; each = more.each; last = grind (arith, last) }
