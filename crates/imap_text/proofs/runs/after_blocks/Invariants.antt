use Rattle.std.proofs.Common.{length}
use Rattle.imap_text.specs.Runs.{FollowsAscii}
use Rattle.imap_text.proofs.runs.after_blocks.Given as goal

abbrev pub invariant-loop-block : goal.invariant-loop-block
invariant-loop-block l = FollowsAscii l.octets l.rest

abbrev pub decreases-loop-block : goal.decreases-loop-block
decreases-loop-block l = length l.rest
