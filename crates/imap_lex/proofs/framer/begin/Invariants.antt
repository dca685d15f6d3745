use Rattle.std.proofs.Common.{◌≡◌, length}
use Rattle.imap_lex.specs.Framing.{awaiting, start, after, run}
use Rattle.imap_lex.proofs.framer.begin.Given as goal

abbrev pub invariant-loop-frames : goal.invariant-loop-frames
invariant-loop-frames l =
    after l.frames.items (run (awaiting l.max_octets (start l.max_octets)) l.rest) ≡ run (awaiting l.max_octets (start l.max_octets)) l.piece

abbrev pub decreases-loop-frames : goal.decreases-loop-frames
decreases-loop-frames l = length l.rest
