use Rattle.std.proofs.Common.{◌≡◌, ◌++◌, drop, map}
use Rattle.imap_print.specs.Words.{before_each}
use Rattle.imap_print.specs.Mailboxes.{value_text}
use Rattle.imap_print.proofs.printing.mailboxes.push_further_values.Given as goal

abbrev pub invariant-loop-value : goal.invariant-loop-value
invariant-loop-value l = l.out.items ++ before_each 32 (map value_text (drop l.value-index l.values)) ≡ l.initial.out.items ++ before_each 32 (map value_text l.values)
