use Rattle.std.proofs.Common.{drop, map}
use Rattle.imap_serve.specs.Hall.{journal_entry}
use Rattle.imap_host.specs.Seats.{notes_of}
use Rattle.imap_host.proofs.Passed.{IsPassed}
use Rattle.imap_host.proofs.comparing.are_settled.Given as goal

abbrev pub invariant-loop-seat : goal.invariant-loop-seat
invariant-loop-seat g l =
    IsPassed l.before (map journal_entry l.entries) (map notes_of l.seats) (map notes_of (drop l.seat-index l.seats)) l.left l.base
