-- What the rows of `meta` say.
use Rattle.std.proofs.Common.{◌≡◌, ℕ, List, map, subst, sym}
use Rattle.std.proofs.lemmas.List.Sorted.{IsPermutation-sym}
use Rattle.sqlite.specs.Order.{Row}
use Rattle.sqlite.specs.Tree.{Trees}
use Rattle.sqlite_rules.specs.Lists.{Has}
use Rattle.sqlite_rules.proofs.ProbeLemmas.{has_mapped, mapped_has}
use Rattle.imap_tables.specs.Reading.{AreRead, shown_at}
use Rattle.imap_tables.specs.Stored.{ShowsMeta}
use Rattle.imap_restore.proofs.Listed.{has_moved}
use Rattle.imap_restore.specs.Holding.{MetaShows}
use Rattle.imap_sql_keeper.specs.Adopting.{IsVersion, SaysVersion}

module _ (db : Trees) (rows : List Row) (read : AreRead 7 db rows) (version : ℕ) where
  from_read : (row : Row) → Has rows row → (was : Row) × Has (db 14) was × (row ≡ shown_at 7 was)
  from_read row h = has_mapped (shown_at 7) (db 14) row (has_moved rows (map (shown_at 7) (db 14)) (IsPermutation-sym (map (shown_at 7) (db 14)) rows read) row h)

  pub says : (row : Row) × Has rows row × IsVersion version row → SaysVersion version db
  says it = let was = from_read it.0 it.1 in (was.0, was.1, subst (IsVersion version) was.2 it.2)

  pub said : SaysVersion version db → (row : Row) × Has rows row × IsVersion version row
  said it = (shown_at 7 it.0, has_moved (map (shown_at 7) (db 14)) rows read (shown_at 7 it.0) (mapped_has (shown_at 7) (db 14) it.0 it.1), it.2)

  pub shows : MetaShows db → (row : Row) → Has rows row → ShowsMeta row
  shows all row h = let was = from_read row h in subst ShowsMeta (sym was.2) (all was.0 was.1)
