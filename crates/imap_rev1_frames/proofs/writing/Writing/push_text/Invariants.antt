use Rattle.std.proofs.Common.{length}
use Rattle.imap_rev1_frames.specs.Writing.{GoesOn}
use Rattle.imap_rev1_frames.proofs.writing.Writing.push_text.Given as goal

abbrev pub invariant-loop-octet : goal.invariant-loop-octet
invariant-loop-octet l = GoesOn l.text l.rest l.fn.self l.self

abbrev pub decreases-loop-octet : goal.decreases-loop-octet
decreases-loop-octet l = length l.rest
