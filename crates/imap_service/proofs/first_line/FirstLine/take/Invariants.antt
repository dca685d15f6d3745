use Rattle.std.proofs.Common.{◌≡◌, length}
use Rattle.imap_service.specs.FirstLine.{after_octets}
use Rattle.imap_service.proofs.first_line.FirstLine.take.Given as goal

abbrev pub invariant-loop-rest : goal.invariant-loop-rest
invariant-loop-rest l = after_octets l.self l.rest ≡ after_octets l.fn.self l.octets

abbrev pub decreases-loop-rest : goal.decreases-loop-rest
decreases-loop-rest l = length l.rest
