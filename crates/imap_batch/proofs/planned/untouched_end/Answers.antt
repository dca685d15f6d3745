use Rattle.std.proofs.Common.{arith}
use Rattle.imap_batch.proofs.Untouched.{uids_up}
use Rattle.imap_batch.proofs.planned.untouched_end.Goals as goal

pub returns-then-is_marked-clause-left : goal.returns-then-is_marked-clause-left
returns-then-is_marked-clause-left c = record {
  unmarked = λ i r from to is. absurd (omega (arith, from, to));
  staying = λ i r from to is. absurd (omega (arith, from, to));
}

pub returns-then-marked-gone-clause-left : goal.returns-then-marked-gone-clause-left
returns-then-marked-gone-clause-left c =
    let within = c.end_before-marked.ensures.within in
    record {
      unmarked = λ i r from to is. c.first_mark.ensures r.uid (c.end_before-marked.ensures.below i r from to is);
      staying = λ i r from to is.
          c.first_from.ensures r.uid (uids_up c.args.rows.now c.args.place i r c.uid-uid.result c.requires.rising from (omega (arith, to, within)) c.uid-uid.ensures is)
          (c.end_before-gone.ensures.below i r from (omega (arith, to, c.if-marked-gone.true)) is);
    }

pub returns-else-marked-gone-clause-left : goal.returns-else-marked-gone-clause-left
returns-else-marked-gone-clause-left c =
    let within = c.end_before-gone.ensures.within in
    record {
      unmarked = λ i r from to is. c.first_mark.ensures r.uid (c.end_before-marked.ensures.below i r from (omega (arith, to, c.if-marked-gone.false)) is);
      staying = λ i r from to is.
          c.first_from.ensures r.uid (uids_up c.args.rows.now c.args.place i r c.uid-uid.result c.requires.rising from (omega (arith, to, within)) c.uid-uid.ensures is)
          (c.end_before-gone.ensures.below i r from to is);
    }
