use Rattle.std.proofs.Common.{◌≡◌, ◌<◌, ◌^◌, None, drop}
use Rattle.std.specs.Prelude.{IfSome}
use Rattle.imap_query.specs.Sections.{part_ends}
use Rattle.imap_query.proofs.section.part_ends.Given as goal

abbrev pub invariant-loop-octet : goal.invariant-loop-octet
invariant-loop-octet l = (part_ends l.number (drop l.octet-index l.octets) ≡ part_ends None l.octets) × IfSome l.number (λ n. n < 2 ^ 32)
