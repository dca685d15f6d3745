use Rattle.std.proofs.Common.{◌≡◌, ◌++◌, drop}
use Rattle.imap_print.specs.Pieces.{octets_of}
use Rattle.imap_rev1.specs.Rev1.{numbers_text}
use Rattle.imap_rev1.proofs.telling.push_numbers.Given as goal

abbrev pub invariant-loop-number : goal.invariant-loop-number
invariant-loop-number l = octets_of l.out ++ numbers_text (drop l.number-index l.numbers) ≡ octets_of l.initial.out ++ numbers_text l.numbers
