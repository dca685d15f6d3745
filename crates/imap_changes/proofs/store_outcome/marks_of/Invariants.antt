use Rattle.std.proofs.Common.{◌≡◌, ◌++◌, drop}
use Rattle.imap_changes.specs.Store.{marks_of}
use Rattle.imap_changes.proofs.store_outcome.marks_of.Given as goal

abbrev pub invariant-loop-message : goal.invariant-loop-message
invariant-loop-message l = l.marks.items ++ marks_of (drop l.message-index l.messages) ≡ marks_of l.messages
