use Rattle.std.proofs.Common.{◌≡◌, length}
use Rattle.imap_text.specs.Lines.{lines}
use Rattle.imap_structure.specs.Parts.{parts_before}
use Rattle.imap_structure.proofs.parts.after_preamble.Given as goal

abbrev pub invariant-loop-line : goal.invariant-loop-line
invariant-loop-line l = parts_before l.boundary (lines l.body) ≡ parts_before l.boundary (lines l.rest)

abbrev pub decreases-loop-line : goal.decreases-loop-line
decreases-loop-line l = length l.rest
