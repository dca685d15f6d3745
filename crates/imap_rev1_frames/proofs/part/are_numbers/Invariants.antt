use Rattle.std.proofs.Common.{◌≡◌, None, drop}
use Rattle.imap_rev1_frames.specs.Part.{are_numbers}
use Rattle.imap_rev1_frames.proofs.part.are_numbers.Given as goal

abbrev pub invariant-loop-octet : goal.invariant-loop-octet
invariant-loop-octet l = are_numbers l.begun (drop l.octet-index l.octets) ≡ are_numbers None l.octets
