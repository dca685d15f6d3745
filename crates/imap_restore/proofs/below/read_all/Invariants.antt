use Rattle.std.proofs.Common.{drop}
use Rattle.imap_restore.proofs.Zipped.{HasRead}
use Rattle.imap_restore.proofs.below.read_all.Given as goal

abbrev pub invariant-rows : goal.invariant-rows
invariant-rows g l = HasRead g.T.Restore.is_for l.fn.rows (drop l.row-index l.fn.rows) l.items.items
