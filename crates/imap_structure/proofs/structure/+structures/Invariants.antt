use Rattle.std.proofs.Common.{◌≡◌, ◌++◌, ◌+◌, ◌*◌, drop, map, flat_map}
use Rattle.imap_structure.specs.Structure.{structure_text}
use Rattle.imap_structure.proofs.structure.+structures.Given as goal

abbrev pub decreases-push_part : goal.decreases-push_part
decreases-push_part l = 4 * l.depth

abbrev pub decreases-push_parts : goal.decreases-push_parts
decreases-push_parts l = 4 * l.depth + 1

abbrev pub decreases-push_inner_structure : goal.decreases-push_inner_structure
decreases-push_inner_structure l = 4 * l.depth + 1

abbrev pub decreases-push_multipart : goal.decreases-push_multipart
decreases-push_multipart l = 4 * l.depth + 2

abbrev pub decreases-push_message : goal.decreases-push_message
decreases-push_message l = 4 * l.depth + 2

abbrev pub decreases-push_entity : goal.decreases-push_entity
decreases-push_entity l = 4 * l.depth + 3

abbrev pub invariant-push_parts-loop-part : goal.invariant-push_parts-loop-part
invariant-push_parts-loop-part l =
    l.out.items ++ flat_map (structure_text l.extended l.depth l.in_digest) (map (λ part. part.now) (drop l.part-index l.parts)) ≡ l.initial.out.items ++ flat_map (structure_text l.extended l.depth l.in_digest) (map (λ part. part.now) l.initial.parts)
