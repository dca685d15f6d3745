use Rattle.std.proofs.Common.{◌≡◌, map, drop}
use Rattle.imap_structure.specs.Numbered.{nth}
use Rattle.imap_structure.proofs.numbered.nth.Given as goal

abbrev pub invariant-loop-part : goal.invariant-loop-part
invariant-loop-part l = nth (map (λ part. part.now) (drop l.part-index l.parts)) l.left ≡ nth (map (λ part. part.now) l.parts) l.number
