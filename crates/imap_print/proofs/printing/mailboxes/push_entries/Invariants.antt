use Rattle.std.proofs.Common.{◌≡◌, ◌++◌, drop}
use Rattle.imap_print.specs.Mailboxes.{entries_text}
use Rattle.imap_print.proofs.printing.mailboxes.push_entries.Given as goal

abbrev pub invariant-loop-entry : goal.invariant-loop-entry
invariant-loop-entry l = l.out.items ++ entries_text (drop l.entry-index l.entries) ≡ l.initial.out.items ++ entries_text l.entries
