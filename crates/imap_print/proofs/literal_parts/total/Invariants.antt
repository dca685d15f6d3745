use Rattle.std.proofs.Common.{◌≡◌, ◌+◌, drop, length}
use Rattle.std.specs.List.{concat}
use Rattle.imap_print.proofs.literal_parts.total.Given as goal

abbrev pub invariant-loop-part : goal.invariant-loop-part
invariant-loop-part l = l.len + length (concat (drop l.part-index l.parts)) ≡ length (concat l.parts)
