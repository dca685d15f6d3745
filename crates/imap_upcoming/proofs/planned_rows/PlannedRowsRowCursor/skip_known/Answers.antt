use Rattle.std.proofs.Common.{◌≡◌, ◌+◌, ◌-◌, get_or, refl, ap, subst, ◌∙◌, arith}
use Rattle.imap_batch.specs.Untouched.{IsRunTo}
use Rattle.imap_upcoming.proofs.Running.{is_known_run}
use Rattle.imap_upcoming.proofs.planned_rows.PlannedRowsRowCursor.skip_known.Goals as goal

pub returns-then-skip_untouched-clause-known : goal.returns-then-skip_untouched-clause-known
returns-then-skip_untouched-clause-known c =
    let same = c.loop-len.invariant.rows ∙ c.self.view_is in
    let known = c.args.known.now.list in
    let k = c.uid-last.result in
    let run = subst (IsRunTo c.args.number k c.loop-len.len) same (c.if-skip_untouched.ensures.run refl) in
    let place : (c.args.place + c.loop-len.len) - 1 ≡ c.args.place + (c.loop-len.len - 1) = omega (arith, c.loop-len-test.true) in
    is_known_run c.args.number _ _ c.args.place c.loop-len.len k known c.args.self.now k c.requires.agree c.len.ensures.valid run
    (c.uid-last.ensures ∙ ap (λ i. get_or known i k) place) refl
