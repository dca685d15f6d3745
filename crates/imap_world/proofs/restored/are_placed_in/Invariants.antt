use Rattle.std.proofs.Common.{drop}
use Rattle.imap_world.specs.Mailbox.{plain_all}
use Rattle.imap_world.specs.Restored.{IsPlaced}
use Rattle.imap_world.proofs.Placed.{IsWalked}
use Rattle.imap_world.proofs.restored.are_placed_in.Given as goal

abbrev pub invariant-loop-entry : goal.invariant-loop-entry
invariant-loop-entry l = IsWalked (λ q v. IsPlaced (plain_all l.mailboxes.map) l.epochs.map q v.validity) l.entries (drop l.entry-index l.entries)
