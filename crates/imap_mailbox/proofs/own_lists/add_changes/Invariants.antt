use Rattle.std.proofs.Common.{take}
use Rattle.imap_mailbox.specs.Held.{lists}
use Rattle.imap_mailbox.specs.Parts.{AreInPlace}
use Rattle.imap_mailbox.specs.Restored.{FitAll}
use Rattle.imap_mailbox.proofs.own_lists.add_changes.Given as goal

abbrev pub invariant-loop-change : goal.invariant-loop-change
invariant-loop-change l = record {
  placed : AreInPlace l.shared (take l.change-index l.changes) (lists l.own);
  fit : FitAll l.next l.shared (lists l.own);
}
