use Rattle.std.proofs.Common.{◌+◌, ◌++◌, arith, take, drop}
use Rattle.imap_lex.specs.declared.frame.Frame.TheVariants as frame
use Rattle.imap_lex.specs.declared.place.Turn.TheVariants.{On, Continue, Ended, Hangup}
use Rattle.imap_lex.proofs.Turns.{IsTail-nil, tail_within, more_within, turn_within, turn_here, frame_here, hung_up_here}
use Rattle.imap_lex.proofs.reading.read_on.Goals as goal
use Rattle.imap_lex.proofs.reading.read_on.Goals.{in-On, in-Continue+in_ok-push-in-Continue}

pub overflow_add-result : goal.overflow_add-result
overflow_add-result c =
    let within = more_within c.loop-at.line.now c.args.line.now c.args.piece.now c.loop-at.at c.loop-at.invariant.line c.loop-at.invariant.within in
    omega arith

pub returns-in-Unended-clause-stands : goal.returns-in-Unended-clause-stands
returns-in-Unended-clause-stands c = (c.in-Unended.ensures.stands, more_within c.loop-at.line.now c.args.line.now c.args.piece.now c.loop-at.at c.loop-at.invariant.line c.loop-at.invariant.within)

pub returns-clause-stands : goal.returns-clause-stands
returns-clause-stands c =
    let within = tail_within c.loop-at.line.now c.args.line.now c.args.piece.now c.loop-at.at c.loop-at.invariant.line c.loop-at.invariant.within in
    (c.loop-at.invariant.stands, omega arith)

pub returns-in-Ended-clause-outcome : goal.returns-in-Ended-clause-outcome
returns-in-Ended-clause-outcome c = λ limit octets.
    let at = c.loop-at.at in
    let here = octets ++ take at c.args.piece.now in
    turn_here limit octets c.args.line.now c.args.piece.now c.loop-at.line.now at c.loop-at.place c.loop-at.frames.items _ (c.loop-at.invariant.told limit octets) c.in-Turn.len (Ended c.in-Ended.end) (rw c.in-Ended.is at (c.in-Turn.ensures.outcome limit here))

pub returns-in-Hangup-clause-outcome : goal.returns-in-Hangup-clause-outcome
returns-in-Hangup-clause-outcome c = λ limit octets.
    let at = c.loop-at.at in
    let xs = c.args.piece.now in
    let line = c.loop-at.line.now in
    let told = c.loop-at.invariant.told limit octets in
    let step = rw c.in-Hangup.is at (c.in-Turn.ensures.outcome limit (octets ++ take at xs)) in
    hung_up_here limit octets c.args.line.now xs line at c.loop-at.place c.loop-at.frames.items _ told (drop (at + c.in-Turn.len) xs) _ c.in_ok-push-in-Hangup.ensures.items
    (turn_here limit octets c.args.line.now xs line at c.loop-at.place c.loop-at.frames.items _ told c.in-Turn.len Hangup step)

pub loop-at-preserved : goal.loop-at-preserved
loop-at-preserved c =
    let at = c.loop-at.at in
    let len = c.in-Turn.len in
    let xs = c.args.piece.now in
    let line = c.loop-at.line.now in
    let place = c.loop-at.place in
    let within = turn_within xs at len c.loop-at.invariant.within c.in-Turn.ensures.within.1 in
    elim c.match-turn.branch [
      | in-On w ↦ record {
        stands = rw w.place-is (rw w.in-On.is at c.in-Turn.ensures.stands);
        within = within;
        line = IsTail-nil (c.args.line.now ++ take (at + len) xs);
        told = λ limit octets.
            let step = rw w.in-On.is at (c.in-Turn.ensures.outcome limit (octets ++ take at xs)) in
            rw (w.frames-is, w.place-is) (turn_here limit octets c.args.line.now xs line at place c.loop-at.frames.items _ (c.loop-at.invariant.told limit octets) len (On w.in-On.next) step);
      }
      | in-Continue+in_ok-push-in-Continue w ↦ record {
        stands = rw w.place-is (rw w.in-Continue.is at c.in-Turn.ensures.stands);
        within = within;
        line = IsTail-nil (c.args.line.now ++ take (at + len) xs);
        told = λ limit octets.
            let told = c.loop-at.invariant.told limit octets in
            let step = rw w.in-Continue.is at (c.in-Turn.ensures.outcome limit (octets ++ take at xs)) in
            rw (w.frames-is, w.place-is) (frame_here limit octets c.args.line.now xs line at place c.loop-at.frames.items _ told frame.Continue _ (drop (at + len) xs) _ w.in_ok-push-in-Continue.ensures.items
            (turn_here limit octets c.args.line.now xs line at place c.loop-at.frames.items _ told len (Continue w.in-Continue.next) step));
      }
    ]
