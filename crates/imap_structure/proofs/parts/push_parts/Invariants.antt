use Rattle.std.proofs.Common.{◌≡◌, ◌++◌, [], ◌+◌, map, length, cond}
use Rattle.imap_text.specs.Lines.{lines}
use Rattle.imap_structure.specs.Parts.{further_parts, parts_within}
use Rattle.imap_structure.proofs.parts.push_parts.Given as goal

abbrev pub invariant-loop-is_last : goal.invariant-loop-is_last
invariant-loop-is_last l =
    map (λ part. part.now) l.parts.items ++ further_parts l.boundary l.is_last l.rest ≡ map (λ part. part.now) l.initial.parts.items ++ parts_within l.boundary (lines l.octets) []

abbrev pub decreases-loop-is_last : goal.decreases-loop-is_last
decreases-loop-is_last l = cond l.is_last 0 (length l.rest + 1)
