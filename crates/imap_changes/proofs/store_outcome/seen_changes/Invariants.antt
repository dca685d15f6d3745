use Rattle.imap_changes.specs.declared.store_outcome.StoreOutcome.{StoreOutcome}
use Rattle.imap_changes.proofs.Told.{AreCounted}
use Rattle.imap_changes.proofs.store_outcome.seen_changes.Given as goal

abbrev pub invariant-loop-message : goal.invariant-loop-message
invariant-loop-message l = AreCounted (λ (m : StoreOutcome). m.seen_changes) l.messages l.message-index l.count
