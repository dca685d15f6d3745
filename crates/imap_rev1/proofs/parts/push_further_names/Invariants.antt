use Rattle.std.proofs.Common.{◌≡◌, ◌++◌, drop, map}
use Rattle.imap_print.specs.Pieces.{octets_of}
use Rattle.imap_print.specs.Strings.{name_text}
use Rattle.imap_print.specs.Words.{before_each}
use Rattle.imap_rev1.proofs.parts.push_further_names.Given as goal

abbrev pub invariant-loop-name : goal.invariant-loop-name
invariant-loop-name l =
    octets_of l.out ++ before_each 32 (map name_text (drop l.name-index l.names)) ≡ octets_of l.initial.out ++ before_each 32 (map name_text l.names)
