use Rattle.std.proofs.Common.{◌≡◌, ◌++◌, drop, map}
use Rattle.imap_print.specs.Words.{before_each}
use Rattle.imap_print.specs.Strings.{name_text}
use Rattle.imap_print.proofs.printing.strings.push_further_names.Given as goal

abbrev pub invariant-loop-name : goal.invariant-loop-name
invariant-loop-name l = l.out.items ++ before_each 32 (map name_text (drop l.name-index l.names)) ≡ l.initial.out.items ++ before_each 32 (map name_text l.names)
