use Rattle.std.proofs.Common.{◌≡◌, ◌++◌, drop, map}
use Rattle.imap_tables.specs.Rows.{text_row}
use Rattle.imap_tables.proofs.finding.texts_of.Given as goal

abbrev pub invariant-rows : goal.invariant-rows
invariant-rows l = map text_row l.texts.items ++ drop l.row-index l.rows ≡ l.rows
