use Rattle.std.proofs.Common.{Err, refl, arith}
use Rattle.std.proofs.lemmas.List.Sorted.{searched}
use Rattle.imap_mailbox.proofs.Finding.{up}
use Rattle.imap_batch.proofs.Untouched.{none_before, none_from}
use Rattle.imap_batch.proofs.planned.first_from.Goals as goal

pub returns-in-Ok : goal.returns-in-Ok
returns-in-Ok c = λ uid le lt. absurd (omega (arith, le, lt))

pub returns-then-place-uids : goal.returns-then-place-uids
returns-then-place-uids c =
    λ uid le lt.
    let uids = c.args.uids.now in
    let is = searched uids c.args.low (Err c.in-Err.place) c.in-Err.ensures.position (λ i j le lt. up c.requires.0 c.requires.1 uids i j 0 c.requires.2 le lt) in
    none_before c.args.low c.in-Err.place _ uid uids c.requires is.1 (omega (arith, c.if-place-uids.true)) refl le lt

pub returns-else-place-uids : goal.returns-else-place-uids
returns-else-place-uids c =
    λ uid le lt.
    let uids = c.args.uids.now in
    let is = searched uids c.args.low (Err c.in-Err.place) c.in-Err.ensures.position (λ i j le lt. up c.requires.0 c.requires.1 uids i j 0 c.requires.2 le lt) in
    none_from c.args.low c.in-Err.place uid uids is.1 (omega (arith, c.if-place-uids.false)) le
