use Rattle.std.proofs.Common.{drop}
use Rattle.sqlite.specs.Order.{Row}
use Rattle.sqlite_rules.specs.Lists.{Has}
use Rattle.imap_sql_keeper.specs.Adopting.{IsVersion}
use Rattle.imap_sql_keeper.proofs.adopting.have_version.Given as goal

-- those that say the version are still to come
abbrev pub invariant-rows : goal.invariant-rows
invariant-rows l = (row : Row) → Has l.fn.rows row → IsVersion l.fn.version row → Has (drop l.row-index l.fn.rows) row
