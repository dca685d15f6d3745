use Rattle.std.proofs.Common.{◌-◌, ◌++◌, drop, sym, ap, subst, ◌∙◌, arith}
use Rattle.imap_batch.specs.Planned.{added_by}
use Rattle.imap_batch.specs.Untouched.{IsRunTo}
use Rattle.imap_batch.proofs.Untouched.{fewer, run_to, run_until, skipped, IsRun}
use Rattle.imap_batch.proofs.planned.Planned.skip_untouched.Goals as goal

pub untouched_end-requires-clause-rising : goal.untouched_end-requires-clause-rising
untouched_end-requires-clause-rising c = (_, _, c.self.invariant.order.1.uids)

pub returns-clause-run : goal.returns-clause-run
returns-clause-run c =
    λ ok.
    let p = c.self.inside in
    let end = c.untouched_end in
    let run : IsRun p.marks p.expunged.now p.rows p.place c.args.len =
    fewer p.marks p.expunged.now p.rows p.place (end.result - p.place) c.args.len (omega (arith, c.if-untouched_end-end.false))
    (run_until p.marks p.expunged.now p.rows p.place end.result end.ensures.after end.ensures.within end.ensures.left) in
    subst (IsRunTo c.args.number c.args.last c.args.len) c.self.view_is
    (run_to p.marks p.expunged.now (added_by p.added) p.rows p.place c.args.len c.args.number c.args.last run (omega (arith, c.if-len-eq0.false))
    (λ i r from to is. c.skip_unchanged.ensures.low i r from (omega (arith, to, c.if-skip_unchanged-end.false)) is) (λ row at. sym (c.uid.ensures row at) ∙ c.if-uid-last.false))

pub returns-clause-skipped : goal.returns-clause-skipped
returns-clause-skipped c =
    λ ok.
    let p = c.self.inside in
    let end = c.untouched_end in
    let run : IsRun p.marks p.expunged.now p.rows p.place c.args.len =
    fewer p.marks p.expunged.now p.rows p.place (end.result - p.place) c.args.len (omega (arith, c.if-untouched_end-end.false))
    (run_until p.marks p.expunged.now p.rows p.place end.result end.ensures.after end.ensures.within end.ensures.left) in
    ap (λ rows. rows ++ added_by p.added) c.first_left-place.ensures.rows ∙ skipped p.marks p.expunged.now (added_by p.added) p.rows p.place c.args.len run ∙ ap (drop c.args.len) c.self.view_is
