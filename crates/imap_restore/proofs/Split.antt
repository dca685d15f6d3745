-- A world that is read of three tables of messages.
use Rattle.std.proofs.Common.{◌≡◌, inl, inr, ℕ, List, [], refl, sym, ap, subst}
use Rattle.std.specs.Prelude.{◌↔◌}
use Rattle.sqlite.specs.Order.{Row, column}
use Rattle.sqlite.specs.Table.{Table}
use Rattle.sqlite.specs.Tree.{Trees}
use Rattle.sqlite_rules.specs.Lists.{Has}
use Rattle.imap_message_tables.specs.OneTable.{AreTablesOf, FitNone, IsJoinOf, IsReadInOne}
use Rattle.imap_message_tables.specs.Split.{IsSplit}
use Rattle.imap_message_tables.specs.Unique.{AreInOrder}
use Rattle.imap_message_tables.proofs.Fitting.{fits_one}
use Rattle.imap_message_tables.proofs.Indexed.{indexes_key}
use Rattle.imap_message_tables.proofs.Places.{ne}
use Rattle.imap_message_tables.proofs.Shown.{split_shows}
use Rattle.imap_records.proofs.OneWorld.{stand_for_one}
use Rattle.imap_records.specs.Standing.{AreRows, Child, IsUnder, StandFor, tree_of}
use Rattle.imap_records.specs.Standing.{entries, messages, gone, marks}
use Rattle.imap_restore.specs.Holding.{AreRowsOf, AreSplitRowsOf, Hold, HoldSplit, MetaShows, Stand}
use Rattle.imap_restore.proofs.Orderly.{read_apart}
use Rattle.imap_restore.proofs.Shown.{all_show}
use Rattle.imap_restore.proofs.SplitRows.{apart_of, in_order, of_each, split_kept, unique_kept}
use Rattle.imap_tables.specs.Contents.{AllAddedShow, AllShow, AreAddedApart}
use Rattle.imap_tables.specs.Reading.{shown_at}
use Rattle.imap_tables.specs.Rows.{AreApart, IsOrderly, IsRowOf}
use Rattle.imap_tables.specs.Stored.{IsMessage}
use Rattle.imap_tables.specs.Tables.{acl_table, body_table, epoch_table, gone_table, keyword_table, mailbox_table, mark_table, message2_table, message_table, meta_table, store_tables, sub_table}
use Rattle.imap_tables.specs.declared.tables.AddedTables.{AddedTables}
use Rattle.imap_tables.specs.declared.tables.StoredTables.{StoredTables}
use Rattle.imap_world.specs.World.{World}

-- ---- tables with the same rows stand for the same world

rows_alike : (a b : List Row) (Is : Row → Type 0) → ((row : Row) → Has a row ↔ Has b row) → AreRows a Is → AreRows b Is
rows_alike a b Is same are = record {
  sound = λ row h. are.sound row ((same row).1 h);
  complete = λ values is. let it = are.complete values is in (it.0, (same _).0 it.1);
}

pub stand_alike : (one other : Trees) (world : World) → ((table : Table) → Has store_tables table → (row : Row) → Has (one table.tree) row ↔ Has (other table.tree) row) → StandFor one world → StandFor other world
stand_alike one other world same s = record {
  id = s.id;
  kept = s.kept;
  apart = s.apart;
  named = s.named;
  found = s.found;
  mailboxes = λ row. (λ h. (s.mailboxes row).0 ((same mailbox_table (inl refl) row).1 h), λ is. (same mailbox_table (inl refl) row).0 ((s.mailboxes row).1 is));
  below = below;
  epochs = rows_alike (one 10) (other 10) _ (same epoch_table (inr (inr (inr (inr (inr (inl refl))))))) s.epochs;
  subscriptions = rows_alike (one 12) (other 12) _ (same sub_table (inr (inr (inr (inr (inr (inr (inl refl)))))))) s.subscriptions;
}
  where
    below : (child : Child) → AreRows (other (tree_of child)) (IsUnder world s.id s.kept child)
    below entries = rows_alike (one 2) (other 2) _ (same acl_table (inr (inl refl))) (s.below entries)
    below messages = rows_alike (one 4) (other 4) _ (same message_table (inr (inr (inl refl)))) (s.below messages)
    below gone = rows_alike (one 6) (other 6) _ (same gone_table (inr (inr (inr (inl refl))))) (s.below gone)
    below marks = rows_alike (one 8) (other 8) _ (same mark_table (inr (inr (inr (inr (inl refl)))))) (s.below marks)

-- the one table that fits stands for the world
pub stand_in : (db one : Trees) (world : World) → IsSplit db one → (other : Trees) × IsSplit db other × Stand other world → Stand one world
stand_in db one world split (other, fits, s) = record { stands = stand_alike other one world (fits_one db other one fits split) s.stands; values = s.values; sound = s.sound; kept = s.kept }

-- so of two worlds that the tables hold both are the one that it stands for
pub one_is_held : (db : Trees) (s t : World) → HoldSplit db s → HoldSplit db t → s ≡ t
one_is_held db s t h k =
    let (one, split, first) = h.0 in
    let second = stand_in db one t split k.0 in
    stand_for_one one s t first.kept second.kept first.values second.values first.stands second.stands

-- ---- order, here and there

module _ (db one : Trees) (split : IsSplit db one) where
  none_rows : (table : Table) → one table.tree ≡ [] → (row : Row) → Has (one table.tree) row → IsRowOf table row
  none_rows table none row h = absurd (subst (λ (l : List Row). Has l row) none h)

  none_apart : (tree : ℕ) → one tree ≡ [] → AreApart (one tree)
  none_apart tree none = subst AreApart (sym none) tt

  message_ok : (row : Row) → Has (one 4) row → IsRowOf message_table row
  message_ok row h = let x = (split.rows row).0 h in subst (IsRowOf message_table) (sym x.shown) ((_, refl), ((_, refl), ((_, refl), ((_, refl), ((_, refl), ((_, refl), ((_, refl), ((_, refl), refl))))))))

  -- the one table is in order where its rowids differ
  pub one_orderly : IsOrderly db → AreApart (one 4) → IsOrderly one
  one_orderly o apart = record {
    rows = of_each (λ table. (row : Row) → Has (one table.tree) row → IsRowOf table row) (λ table listed other row h. o.rows table listed row (subst (λ (l : List Row). Has l row) (split.others table listed other) h)) message_ok
        (none_rows message2_table split.blank.0) (none_rows body_table split.blank.1) (none_rows keyword_table split.blank.2);
    apart = of_each (λ table. AreApart (one table.tree)) (λ table listed other. subst AreApart (sym (split.others table listed other)) (o.apart table listed)) apart (none_apart 16 split.blank.0) (none_apart 18 split.blank.1) (none_apart 20 split.blank.2);
  }

  -- and the three tables are in order with the others
  pub all_orderly : IsOrderly one → AreInOrder db → IsOrderly db
  all_orderly o three = record {
    rows = of_each (λ table. (row : Row) → Has (db table.tree) row → IsRowOf table row) (λ table listed other row h. o.rows table listed row (subst (λ (l : List Row). Has l row) (sym (split.others table listed other)) h))
        (λ row h. absurd (subst (λ (l : List Row). Has l row) split.empty h)) (three.rows message2_table (inl refl)) (three.rows body_table (inr (inl refl))) (three.rows keyword_table (inr (inr (inl refl))));
    apart = of_each (λ table. AreApart (db table.tree)) (λ table listed other. subst AreApart (split.others table listed other) (o.apart table listed)) (subst AreApart (sym split.empty) tt)
        (three.apart message2_table (inl refl)) (three.apart body_table (inr (inl refl))) (three.apart keyword_table (inr (inr (inl refl))));
  }

  pub same_meta : one 14 ≡ db 14
  same_meta = split.others meta_table (inr (inr (inr (inr (inr (inr (inr (inl refl)))))))) (ne 14 4 refl, ne 14 16 refl, ne 14 18 refl, ne 14 20 refl)

  pub meta_there : MetaShows db → MetaShows one
  meta_there shows row h = shows row (subst (λ (l : List Row). Has l row) same_meta h)

  pub meta_here : MetaShows one → MetaShows db
  meta_here shows row h = shows row (subst (λ (l : List Row). Has l row) (sym same_meta) h)

-- all rows of tables that hold a world can be read
pub all_shown : (db : Trees) (world : World) → HoldSplit db world → AllShow db × AllAddedShow db
all_shown db world h =
    let (one, split, stand) = h.0 in
    split_shows db one split (all_show one world stand (meta_there db one split h.2))

-- ---- what is read

module _ (db : Trees) (t : StoredTables) (added : AddedTables) (are : AreSplitRowsOf db t added) (distinct : AreAddedApart added) where
  pub tables_of : AreTablesOf db t added
  tables_of =
      let order = in_order db t added are distinct in
      record { first = are.stored; three = are.three; distinct = distinct; order = order; keyed = indexes_key db (unique_kept db are.obeyed) order }

  module _ (joined : StoredTables) (it : IsReadInOne db joined) where
    pub rows_of : AreRowsOf it.one joined
    rows_of = record { obeyed = split_kept db it.one it.split are.obeyed; blank = (it.split.blank.0, (it.split.blank.1, (it.split.blank.2, tt))); stored = it.stored }

    pub hold_split : (world : World) → Hold it.one world → HoldSplit db world
    hold_split world h = ((it.one, it.split, h.0), all_orderly db it.one it.split h.1 (in_order db t added are distinct), meta_here db it.one it.split h.2)

    messages_apart : AreApart (it.one 4)
    messages_apart = let m = it.stored.messages in read_apart (shown_at 2) IsMessage _ (it.one 4) m.rows joined.messages.items (λ row. refl) (λ r x is. ap (λ v. column v 0) is.0) m.all m.read it.distinct

    pub hold_one : (world : World) → HoldSplit db world → Hold it.one world
    hold_one world h = (stand_in db it.one world it.split h.0, one_orderly db it.one it.split h.1 messages_apart, meta_there db it.one it.split h.2)

-- ---- the answers

pub split_holds : (t : StoredTables) (added : AddedTables) (joined : StoredTables) (world : World) → AreAddedApart added → IsJoinOf t added joined → ((db : Trees) → AreRowsOf db joined → Hold db world)
    → (db : Trees) → AreSplitRowsOf db t added → HoldSplit db world
split_holds t added joined world distinct join holds db are =
    let it = join db (tables_of db t added are distinct) in
    hold_split db t added are distinct joined it world (holds it.one (rows_of db t added are distinct joined it))

pub split_refused : (t : StoredTables) (added : AddedTables) (joined : StoredTables) → AreAddedApart added → IsJoinOf t added joined → ((db : Trees) (world : World) → AreRowsOf db joined → Hold db world → ⊥)
    → (db : Trees) (world : World) → AreSplitRowsOf db t added → HoldSplit db world → ⊥
split_refused t added joined distinct join never db world are h =
    let it = join db (tables_of db t added are distinct) in
    never it.one world (rows_of db t added are distinct joined it) (hold_one db t added are distinct joined it world h)

pub never_joined : (t : StoredTables) (added : AddedTables) → (AreAddedApart added → FitNone t added) → (db : Trees) (world : World) → AreSplitRowsOf db t added → HoldSplit db world → ⊥
never_joined t added none db world are h =
    let distinct = apart_of db t added are h.1 in
    none distinct db h.0.0 (tables_of db t added are distinct) h.0.1
