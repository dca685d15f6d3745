use Rattle.std.proofs.Common.{◌-◌, length, ap, arith}
use Rattle.imap_batch.specs.Planned.{added_by}
use Rattle.imap_batch.proofs.Untouched.{planned_length, run_until}
use Rattle.imap_batch.proofs.planned.Planned.untouched_len.Goals as goal

pub untouched_end-end-requires-clause-rising : goal.untouched_end-end-requires-clause-rising
untouched_end-end-requires-clause-rising c = (_, _, c.self.invariant.order.1.uids)

pub returns-then-number-self : goal.returns-then-number-self
returns-then-number-self c =
    let p = c.self.inside in
    let end = c.untouched_end-end in
    let run = run_until p.marks p.expunged.now p.rows p.place end.result end.ensures.after end.ensures.within end.ensures.left in
    omega (arith, ap length c.self.view_is, planned_length p.marks p.expunged.now (added_by p.added) p.rows p.place (end.result - p.place) run)

pub returns : goal.returns
returns c =
    let p = c.self.inside in
    let end = c.untouched_end-end in
    let run = run_until p.marks p.expunged.now p.rows p.place end.result end.ensures.after end.ensures.within end.ensures.left in
    let within = c.skip_unchanged.ensures.within in
    omega (arith, within, ap length c.self.view_is, planned_length p.marks p.expunged.now (added_by p.added) p.rows p.place (end.result - p.place) run)
