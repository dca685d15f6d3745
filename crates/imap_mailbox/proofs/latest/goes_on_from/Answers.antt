use Rattle.std.proofs.Common.{ltb, false, get_or, arith}
use Rattle.std.proofs.lemmas.Bool.{leb-true}
use Rattle.std.proofs.lemmas.List.Sums.{prefix_len-le-length}
use Rattle.imap_mailbox.specs.declared.kept_change.KeptChange.{KeptChange}
use Rattle.imap_mailbox.proofs.TableOfLast.{goes_high}
use Rattle.imap_mailbox.proofs.latest.goes_on_from.Goals as goal

pub returns-then-place-table : goal.returns-then-place-table
returns-then-place-table c =
    λ is. omega (arith, c.if-place-table.true, prefix_len-le-length (λ (l : KeptChange). ltb l.uid c.args.uid) c.args.table.now)

pub returns-else-place-table : goal.returns-else-place-table
returns-else-place-table c =
    λ is.
    let none : KeptChange = record { place = 0; before = 0; uid = 0; seen = false } in
    goes_high c.args.uid c.args.table.now c.args.place none (omega (arith, c.requires, c.if-place-table.false))
    (leb-true c.args.uid (get_or c.args.table.now c.args.place none).uid is)
