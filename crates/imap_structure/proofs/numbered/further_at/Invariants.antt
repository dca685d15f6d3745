use Rattle.std.proofs.Common.{◌≡◌, drop}
use Rattle.imap_structure.specs.Numbered.{further_at}
use Rattle.imap_structure.proofs.numbered.further_at.Given as goal

abbrev pub invariant-loop-number : goal.invariant-loop-number
invariant-loop-number l = further_at l.place (drop l.number-index l.numbers) ≡ further_at l.initial.place l.numbers
