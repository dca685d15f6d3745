use Rattle.std.proofs.Common.{◌≡◌, ◌++◌, decimal, drop, map}
use Rattle.imap_print.specs.Pieces.{octets_of}
use Rattle.imap_print.specs.Words.{before_each}
use Rattle.imap_rev1.proofs.parts.push_further_numbers.Given as goal

abbrev pub invariant-loop-number : goal.invariant-loop-number
invariant-loop-number l =
    octets_of l.out ++ before_each 46 (map decimal (drop l.number-index l.numbers)) ≡ octets_of l.initial.out ++ before_each 46 (map decimal l.numbers)
