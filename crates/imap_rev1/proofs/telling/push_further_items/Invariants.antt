use Rattle.std.proofs.Common.{◌≡◌, ◌++◌, drop}
use Rattle.imap_print.specs.Pieces.{octets_of}
use Rattle.imap_print.specs.Words.{before_each}
use Rattle.imap_rev1.specs.Rev1.{items_words}
use Rattle.imap_rev1.proofs.telling.push_further_items.Given as goal

abbrev pub invariant-loop-value : goal.invariant-loop-value
invariant-loop-value l =
    octets_of l.out ++ before_each 32 (items_words l.rest (drop l.value-index l.values)) ≡ octets_of l.initial.out ++ before_each 32 (items_words l.asked l.values)
