use Rattle.std.proofs.Common.{◌∙◌, length, sym, arith}
use Rattle.std.proofs.lemmas.Bool.{leb-true}
use Rattle.imap_mailbox.proofs.ExpungedAll.{among_between}
use Rattle.imap_mailbox.proofs.expunging.Rising.is_between.Goals.{then-place-self, else-place-self}
use Rattle.imap_mailbox.proofs.expunging.Rising.is_between.Goals as goal

pub returns-then-ends_below : goal.returns-then-ends_below
returns-then-ends_below c = λ is.
    elim c.if-place-self.branch [
      | then-place-self w ↦ among_between c.args.uid c.args.self.now c.args.place (w.ends_below.ensures (sym w.value-is ∙ c.if-ends_below.true)) (c.goes_on_above.ensures is)
      | else-place-self w ↦ absurd (omega (arith, leb-true c.args.place (length c.self.inside.uids.now) (sym w.value-is ∙ c.if-ends_below.true), w.if-place-self.false))
    ]
