use Rattle.std.proofs.Common.{◌≡◌, ◌++◌, None, drop}
use Rattle.imap_rev1_frames.specs.Part.{numbers_from}
use Rattle.imap_rev1_frames.proofs.part.numbers_from.Given as goal

abbrev pub invariant-loop-octet : goal.invariant-loop-octet
invariant-loop-octet l = l.numbers.items ++ numbers_from l.begun (drop l.octet-index l.octets) ≡ numbers_from None l.octets
