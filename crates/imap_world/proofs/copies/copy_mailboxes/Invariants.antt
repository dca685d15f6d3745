use Rattle.std.proofs.Common.{◌+◌, ◌≤◌, drop, length}
use Rattle.imap_world.proofs.Copied.{IsCopiedTo}
use Rattle.imap_world.proofs.copies.copy_mailboxes.Given as goal

abbrev pub invariant-loop-entry : goal.invariant-loop-entry
invariant-loop-entry l = record {
  copied : IsCopiedTo l.mailboxes.map l.copy.map (drop l.entry-index l.entries);
  room : length l.entries ≤ l.entry-index + l.copy.spare;
}
