use Rattle.std.proofs.Common.{◌<◌, length, arith}
use Rattle.imap_print.proofs.Runs.{run_goes_on, run_ends}
use Rattle.imap_print.proofs.printing.numbers.push_runs.Goals as goal
use Rattle.imap_print.proofs.printing.numbers.push_runs.Goals.{then-not-goes_on+in_ok-push_range+in_ok-push, else-not-goes_on}

pub loop-next-preserved : goal.loop-next-preserved
loop-next-preserved c =
    let at = c.loop-next.next-index in
    let rest = c.args.rest.now in
    let fits = c.type_inv.rest at in
    let lt : at < length rest = omega arith in
    elim c.if-not-goes_on.branch [
      | then-not-goes_on+in_ok-push_range+in_ok-push w ↦
          record {
            small = rw w.last-is (omega arith);
            left =
                rw (w.out-is, w.first-is, w.last-is)
                (run_ends c.loop-next.out.items w.push_range.new.out.items _ _ c.loop-next.first c.loop-next.last rest at lt w.if-not-goes_on.ensures w.in_ok-push_range.ensures w.in_ok-push.ensures.items c.loop-next.invariant.left);
          }
      | else-not-goes_on w ↦
          record {
            small = rw w.last-is (omega arith);
            left = rw (w.out-is, w.first-is, w.last-is) (run_goes_on c.loop-next.out.items _ c.loop-next.first c.loop-next.last rest at lt w.if-not-goes_on.ensures c.loop-next.invariant.left);
          }
    ]
