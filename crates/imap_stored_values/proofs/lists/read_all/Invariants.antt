use Rattle.std.proofs.Common.{drop}
use Rattle.imap_stored_values.proofs.Zipped.{HasRead}
use Rattle.imap_stored_values.proofs.lists.read_all.Given as goal

abbrev pub invariant-rows : goal.invariant-rows
invariant-rows g l = HasRead g.R.Listed.keeps l.fn.rows (drop l.row-index l.fn.rows) l.items.items
