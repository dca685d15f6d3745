use Rattle.std.proofs.Common.{ℕ, ◌-◌, ◌<◌, List, length, get_or, ap, subst, arith}
use Rattle.std.proofs.lemmas.Bool.{ltb-true}
use Rattle.imap_mailbox.proofs.ExpungedAll.{low_before}
use Rattle.imap_mailbox.proofs.expunging.Rising.ends_below.Goals as goal

pub returns-then-place-eq0 : goal.returns-then-place-eq0
returns-then-place-eq0 c = λ is k lt. absurd (omega (arith, c.if-place-eq0.true, lt))

pub returns-else-place-eq0 : goal.returns-else-place-eq0
returns-else-place-eq0 c = λ is.
    let uids = c.self.inside.uids.now in
    let within = ap length c.self.view_is in
    subst (λ (us : List ℕ). (k : ℕ) → k < c.args.place → get_or us k 0 < c.args.uid) c.self.view_is
    (low_before c.args.uid uids c.args.place c.self.invariant (omega (arith, c.requires, within)) (ltb-true (get_or uids (c.args.place - 1) 0) c.args.uid is))
