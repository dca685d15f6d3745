use Rattle.std.proofs.Common.{◌≡◌, drop}
use Rattle.imap_print.specs.Sets.{rise_above}
use Rattle.imap_print.proofs.numbering.rise_above_zero.Given as goal

abbrev pub invariant-loop-number : goal.invariant-loop-number
invariant-loop-number l = rise_above l.low (drop l.number-index l.numbers) ≡ rise_above 0 l.numbers
