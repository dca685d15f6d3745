use Rattle.imap_changes.proofs.Told.{AreLinesTo}
use Rattle.imap_changes.proofs.store_lines.store_lines.Given as goal

abbrev pub invariant-loop-message : goal.invariant-loop-message
invariant-loop-message l = AreLinesTo l.silent l.condstore l.highest l.messages l.message-index l.before l.lines.items
