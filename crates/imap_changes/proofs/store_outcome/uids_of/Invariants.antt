use Rattle.std.proofs.Common.{◌≡◌, ◌++◌, drop, map}
use Rattle.imap_changes.specs.declared.store_outcome.StoreOutcome.{StoreOutcome}
use Rattle.imap_changes.proofs.store_outcome.uids_of.Given as goal

abbrev pub invariant-loop-message : goal.invariant-loop-message
invariant-loop-message l = l.uids.items ++ map (λ (m : StoreOutcome). m.uid) (drop l.message-index l.messages) ≡ map (λ (m : StoreOutcome). m.uid) l.messages
