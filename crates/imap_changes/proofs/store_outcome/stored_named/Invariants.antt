use Rattle.imap_rights.specs.Rights.{bits}
use Rattle.imap_targets.specs.State.{selection_of}
use Rattle.imap_changes.proofs.Gathered.{IsGathered}
use Rattle.imap_changes.proofs.store_outcome.stored_named.Given as goal

abbrev pub invariant-loop-message : goal.invariant-loop-message
invariant-loop-message l = IsGathered (bits l.rights) l.spec (selection_of l.selected) l.rows l.messages l.message-index l.stored.items
