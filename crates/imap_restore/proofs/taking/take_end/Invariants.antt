use Rattle.std.proofs.Common.{length, reverse}
use Rattle.imap_restore.specs.Parts.{LeavesOthers, below}
use Rattle.imap_restore.proofs.Zipped.{HasRead}
use Rattle.imap_restore.proofs.taking.take_end.Given as goal

abbrev pub invariant-rows : goal.invariant-rows
invariant-rows g l = record {
  read : HasRead g.T.Restore.is_for (below g.T.Restore.mailbox l.fn.id (reverse l.fn.rows.items)) (below g.T.Restore.mailbox l.fn.id (reverse l.rows.items)) l.items.items;
  left : LeavesOthers g.T.Restore.mailbox l.fn.id l.fn.rows.items l.rows.items;
}

abbrev pub decreases-rows : goal.decreases-rows
decreases-rows g l = length l.rows.items
