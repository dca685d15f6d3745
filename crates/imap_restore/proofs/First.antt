-- A store of the first version, as it is read.
use Rattle.std.proofs.Common.{◌≡◌, inl, inr, Bool, true, ◌&&◌, not, List, [], ◌∷◌, ◌++◌, drop, refl, sym, subst}
use Rattle.std.specs.List.{AllByRecursion, list_all}
use Rattle.std.proofs.lemmas.Bool.{and_from, and_parts}
use Rattle.sqlite.specs.Effect.{IsDatabase}
use Rattle.sqlite.specs.Order.{Row}
use Rattle.sqlite.specs.Table.{Table}
use Rattle.sqlite.specs.Tree.{Trees}
use Rattle.sqlite_rules.specs.Lists.{Has}
use Rattle.sqlite_rules.proofs.ListLemmas.{all_has}
use Rattle.sqlite_schema.specs.Rules.{are_typed, clashes, guards, has_computed, passes}
use Rattle.sqlite_schema.specs.declared.schema.Constraint.TheVariants.{Datatype, Unique}
use Rattle.imap_message_tables.specs.Adopting.{first_of}
use Rattle.imap_message_tables.specs.Copying.{AreRowsFor}
use Rattle.imap_restore.specs.Holding.{AreKeptRows, AreRowsOf, HoldFirst}
use Rattle.imap_restore.proofs.Shown.{all_show}
use Rattle.imap_restore.proofs.TableRows.{Rows, message_is, message_rows}
use Rattle.imap_tables.specs.Contents.{AllShow, AreStored}
use Rattle.imap_tables.specs.Tables.{added_indexes, body_table, keyword_table, message2_table, store_indexes, store_tables}
use Rattle.imap_tables.specs.Texts.{first_schema}
use Rattle.imap_tables.specs.declared.tables.StoredTables.{StoredTables}
use Rattle.imap_world.specs.World.{World}

-- ---- its rows keep what the second version asks

all_more : {X : Type 0} (p : X → Bool) (xs ys : List X) → list_all p xs ≡ true → list_all p ys ≡ true → list_all p (xs ++ ys) ≡ true
all_more p [] ys a b = b
all_more p (x ∷ xs) ys a b = let both = and_parts (p x) (list_all p xs) a in and_from (p x) (list_all p (xs ++ ys)) both.0 (all_more p xs ys both.1 b)

-- the table keeps its rows, and no index that was added is its own
record StaysIn (db : Trees) (table : Table) : Type 0 where
  pub there : first_of db table.tree ≡ db table.tree
  pub alone : (rows : List Row) (row : Row) → list_all (λ i. not (guards i table && clashes i.order i.columns rows row)) added_indexes ≡ true

stays : (db : Trees) (table : Table) → first_of db table.tree ≡ db table.tree → ((rows : List Row) (row : Row) → list_all (λ i. not (guards i table && clashes i.order i.columns rows row)) added_indexes ≡ true) → StaysIn db table
stays db table there alone = record { there = there; alone = alone }

-- a statement holds of each table, if it does of those of the first version, and of the three
of_tables : (db : Trees) (P : Table → Type 0) → ((table : Table) → Has first_schema.tables table → StaysIn db table → P table) → P message2_table → P body_table → P keyword_table → (table : Table) → Has store_tables table → P table
of_tables db P first head body word table (inl e) = subst P (sym e) (first _ (inl refl) (stays db _ refl (λ rows row. refl)))
of_tables db P first head body word table (inr (inl e)) = subst P (sym e) (first _ (inr (inl refl)) (stays db _ refl (λ rows row. refl)))
of_tables db P first head body word table (inr (inr (inl e))) = subst P (sym e) (first _ (inr (inr (inl refl))) (stays db _ refl (λ rows row. refl)))
of_tables db P first head body word table (inr (inr (inr (inl e)))) = subst P (sym e) (first _ (inr (inr (inr (inl refl)))) (stays db _ refl (λ rows row. refl)))
of_tables db P first head body word table (inr (inr (inr (inr (inl e))))) = subst P (sym e) (first _ (inr (inr (inr (inr (inl refl))))) (stays db _ refl (λ rows row. refl)))
of_tables db P first head body word table (inr (inr (inr (inr (inr (inl e)))))) = subst P (sym e) (first _ (inr (inr (inr (inr (inr (inl refl)))))) (stays db _ refl (λ rows row. refl)))
of_tables db P first head body word table (inr (inr (inr (inr (inr (inr (inl e))))))) = subst P (sym e) (first _ (inr (inr (inr (inr (inr (inr (inl refl))))))) (stays db _ refl (λ rows row. refl)))
of_tables db P first head body word table (inr (inr (inr (inr (inr (inr (inr (inl e)))))))) = subst P (sym e) (first _ (inr (inr (inr (inr (inr (inr (inr (inl refl)))))))) (stays db _ refl (λ rows row. refl)))
of_tables db P first head body word table (inr (inr (inr (inr (inr (inr (inr (inr (inl e))))))))) = subst P (sym e) head
of_tables db P first head body word table (inr (inr (inr (inr (inr (inr (inr (inr (inr (inl e)))))))))) = subst P (sym e) body
of_tables db P first head body word table (inr (inr (inr (inr (inr (inr (inr (inr (inr (inr (inl e))))))))))) = subst P (sym e) word
of_tables db P first head body word table (inr (inr (inr (inr (inr (inr (inr (inr (inr (inr (inr none))))))))))) = absurd none

module _ (db : Trees) (is : IsDatabase (record { schema = first_schema; trees = db })) where
  typed_first : (table : Table) → Has first_schema.tables table → (row : Row) → Has (db table.tree) row → are_typed table.key 0 table.columns (drop 1 row) ≡ true
  typed_first table listed row h =
      (and_parts _ (has_computed table row)
      (all_has (λ r. passes Datatype first_schema db table r ≡ true) (db table.tree) row
      (all_has (λ (t : Table). AllByRecursion (λ r. passes Datatype first_schema db t r ≡ true) (db t.tree)) first_schema.tables table (is.obeys.rules Datatype) listed) h)).0

  alone_first : (table : Table) → Has first_schema.tables table → StaysIn db table → (row : Row) → Has (db table.tree) row → list_all (λ i. not (guards i table && clashes i.order i.columns (db table.tree) row)) store_indexes ≡ true
  alone_first table listed it row h =
      all_more (λ i. not (guards i table && clashes i.order i.columns (db table.tree) row)) first_schema.indexes added_indexes
      (all_has (λ r. passes Unique first_schema db table r ≡ true) (db table.tree) row
      (all_has (λ (t : Table). AllByRecursion (λ r. passes Unique first_schema db t r ≡ true) (db t.tree)) first_schema.tables table (is.obeys.rules Unique) listed) h) (it.alone (db table.tree) row)

  first_kept : AreKeptRows (first_of db)
  first_kept = record {
    typed = of_tables db (λ table. (row : Row) → Has (first_of db table.tree) row → are_typed table.key 0 table.columns (drop 1 row) ≡ true)
        (λ table listed it row h. typed_first table listed row (subst (λ (l : List Row). Has l row) it.there h))
        (λ row none. absurd none) (λ row none. absurd none) (λ row none. absurd none);
    unique = of_tables db (λ table. (row : Row) → Has (first_of db table.tree) row → list_all (λ i. not (guards i table && clashes i.order i.columns (first_of db table.tree) row)) store_indexes ≡ true)
        (λ table listed it. subst (λ (l : List Row). (row : Row) → Has l row → list_all (λ i. not (guards i table && clashes i.order i.columns l row)) store_indexes ≡ true) (sym it.there) (alone_first table listed it))
        (λ row none. absurd none) (λ row none. absurd none) (λ row none. absurd none);
  }

  -- ---- what is read of them

  module _ (t : StoredTables) (stored : AreStored db t) where
    pub first_rows : AreRowsOf (first_of db) t
    first_rows = record {
      obeyed = first_kept;
      blank = (refl, (refl, (refl, tt)));
      stored = record {
        mailboxes = record { rows = stored.mailboxes.rows; all = stored.mailboxes.all; read = stored.mailboxes.read };
        entries = record { rows = stored.entries.rows; all = stored.entries.all; read = stored.entries.read };
        messages = record { rows = stored.messages.rows; all = stored.messages.all; read = stored.messages.read };
        gone = record { rows = stored.gone.rows; all = stored.gone.all; read = stored.gone.read };
        marks = record { rows = stored.marks.rows; all = stored.marks.all; read = stored.marks.read };
        epochs = record { rows = stored.epochs.rows; all = stored.epochs.all; read = stored.epochs.read };
        subscriptions = record { rows = stored.subscriptions.rows; all = stored.subscriptions.all; read = stored.subscriptions.read };
        meta = record { rows = stored.meta.rows; all = stored.meta.all; read = stored.meta.read };
      };
    }

    -- the messages are those that stand in one row each
    pub first_messages : AreRowsFor (db 4) t.messages.items
    first_messages =
        let b : Rows (first_of db) = record { t = t; are = first_rows } in
        record {
          sound = λ row h. let x = (message_rows (first_of db) b).to row h in (x.0.rowid, x.0, x.1, message_is (first_of db) b row h x.0 x.2);
          complete = λ m h. let r = (message_rows (first_of db) b).from m h in (m.rowid, subst (λ (row : Row). Has (db 4) row) (message_is (first_of db) b r.0 r.1 m r.2) r.1);
        }

-- tables that hold a world can be read
pub first_shown : (db : Trees) (world : World) → HoldFirst db world → AllShow db
first_shown db world h =
    let s = all_show (first_of db) world h.0 h.2 in
    record {
      mailboxes = s.mailboxes;
      entries = s.entries;
      messages = s.messages;
      gone = s.gone;
      marks = s.marks;
      epochs = s.epochs;
      subscriptions = s.subscriptions;
      meta = s.meta;
    }
