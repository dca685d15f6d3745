use Rattle.std.proofs.Common.{ℕ, ◌<◌, ◌≤◌, List, length, get_or, ap, subst, arith}
use Rattle.std.proofs.lemmas.Bool.{ltb-true}
use Rattle.imap_mailbox.proofs.ExpungedAll.{high_from}
use Rattle.imap_mailbox.proofs.expunging.Rising.goes_on_above.Goals as goal

pub returns-then-place-self : goal.returns-then-place-self
returns-then-place-self c = λ is k le lt. let all = ap length c.self.view_is in absurd (omega (arith, c.if-place-self.true, all, le, lt))

pub returns-else-place-self : goal.returns-else-place-self
returns-else-place-self c = λ is.
    let uids = c.self.inside.uids.now in
    subst (λ (us : List ℕ). (k : ℕ) → c.args.place ≤ k → k < length us → c.args.uid < get_or us k 0) c.self.view_is
    (high_from c.args.uid uids c.args.place c.self.invariant (ltb-true c.args.uid (get_or uids c.args.place 0) is))
