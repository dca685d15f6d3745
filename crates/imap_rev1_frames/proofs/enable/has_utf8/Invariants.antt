use Rattle.std.proofs.Common.{◌≡◌, length}
use Rattle.imap_rev1_frames.specs.Enable.{has_utf8}
use Rattle.imap_rev1_frames.proofs.enable.has_utf8.Given as goal

abbrev pub decreases-loop-later : goal.decreases-loop-later
decreases-loop-later l = length l.rest

abbrev pub invariant-loop-later : goal.invariant-loop-later
invariant-loop-later l = has_utf8 l.rest ≡ has_utf8 l.octets
