use Rattle.imap_structure.proofs.Split.{ends_at_last, ends_before_part, later_shorter, read_on}
use Rattle.imap_structure.proofs.parts.split_part.Goals as goal

pub loop-line-smaller : goal.loop-line-smaller
loop-line-smaller c = later_shorter c.loop-line.rest.now c.in-Some.line.now c.in-Some.later.now c.in-Some.ensures

pub loop-line-preserved : goal.loop-line-preserved
loop-line-preserved c =
    read_on c.args.boundary.now c.args.octets.now c.loop-line.rest.now c.in-Some.line.now c.in-Some.later.now
    c.loop-line.invariant c.in-Some.ensures c.in-None.ensures

pub returns-in-Part : goal.returns-in-Part
returns-in-Part c =
    ends_before_part c.args.boundary.now c.args.octets.now c.loop-line.rest.now c.in-Some.line.now c.in-Some.later.now c.without_end-part.result.now
    c.loop-line.invariant c.in-Some.ensures c.in-Part.ensures c.without_end-part.ensures

pub returns-in-End : goal.returns-in-End
returns-in-End c =
    ends_at_last c.args.boundary.now c.args.octets.now c.loop-line.rest.now c.in-Some.line.now c.in-Some.later.now c.without_end-part.result.now
    c.loop-line.invariant c.in-Some.ensures c.in-End.ensures c.without_end-part.ensures
