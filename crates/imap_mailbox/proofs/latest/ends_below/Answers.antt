use Rattle.std.proofs.Common.{◌-◌, false, get_or, arith}
use Rattle.std.proofs.lemmas.Bool.{ltb-true}
use Rattle.imap_mailbox.specs.declared.kept_change.KeptChange.{KeptChange}
use Rattle.imap_mailbox.proofs.TableOfLast.{ends_low}
use Rattle.imap_mailbox.proofs.latest.ends_below.Goals as goal

pub returns-else-place-eq0 : goal.returns-else-place-eq0
returns-else-place-eq0 c =
    λ is.
    let none : KeptChange = record { place = 0; before = 0; uid = 0; seen = false } in
    let less = ltb-true (get_or c.args.table.now (c.args.place - 1) none).uid c.args.uid is in
    let more = ends_low c.args.uid c.args.table.now (c.args.place - 1) none c.requires.rising (omega (arith, c.requires.within, c.if-place-eq0.false)) less in
    omega (arith, more)
