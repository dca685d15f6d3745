-- The tables are in order.
use Rattle.std.proofs.Common.{◌≡◌, inl, inr, ℕ, ℤ, false, List, [], ◌∷◌, map, IsPermutation, is_eq, refl, sym, ap, subst, ◌∙◌}
use Rattle.std.specs.List.{AllByRecursion, AllZip, IsDistinct}
use Rattle.std.specs.Ordering.{eq_by_cmp, int_cmp}
use Rattle.std.proofs.lemmas.Cmp.{eq_by_cmp_equiv}
use Rattle.std.proofs.lemmas.List.Sorted.{IsPermutation-map, IsPermutation-sym}
use Rattle.std.proofs.lemmas.Map.Keys.{IsDistinct-IsPermutation}
use Rattle.sqlite.specs.Order.{Row, column, value_cmp}
use Rattle.sqlite.specs.Table.{Table}
use Rattle.sqlite.specs.Tree.{Trees, rowid}
use Rattle.sqlite.specs.declared.types.Value.{Value}
use Rattle.sqlite.specs.declared.types.Value.TheVariants.{Int}
use Rattle.sqlite_rules.specs.Lists.{Has}
use Rattle.sqlite_rules.proofs.ListLemmas.{all_has}
use Rattle.sqlite_rules.proofs.ProbeLemmas.{mapped_has}
use Rattle.sqlite_value.proofs.OrderLemmas.{value_cmp_total, value_cmp-Int}
use Rattle.imap_tables.specs.Contents.{AreNumbersApart}
use Rattle.imap_tables.specs.Reading.{shown_at}
use Rattle.imap_tables.specs.Rows.{AreApart, IsOrderly, IsRowOf, are_tied}
use Rattle.imap_tables.specs.Stored.{IsEntry, IsEpoch, IsGone, IsMailbox, IsMark, IsMessage, IsMeta, IsSubscription}
use Rattle.imap_tables.specs.Tables.{acl_table, body_table, epoch_table, gone_table, keyword_table, mailbox_table, mark_table, message2_table, message_table, meta_table, store_tables, sub_table}
use Rattle.std.specs.Prelude.{string_bytes}
use Rattle.std.proofs.lemmas.Str.{IsUtf8-string_bytes}
use Rattle.imap_restore.specs.Holding.{MetaShows}
use Rattle.imap_world.specs.World.{World}
use Rattle.imap_restore.proofs.Owners.{Read}
use Rattle.imap_restore.proofs.TableRows.{entry_is, entry_rows, epoch_is, epoch_rows, gone_is, gone_rows, mailbox_is, mailbox_rows, mark_is, mark_rows, message_is, message_rows, meta_is, meta_rows, sub_is, sub_rows}

-- ---- rowids

-- the rowids of rows that were read, one by one
numbers_of : {X : Type 0} (Is : Row → X → Type 0) (id : X → ℤ) → ((r : Row) (x : X) → Is r x → column r 0 ≡ Int (id x)) → (rows : List Row) (items : List X) → AllZip Is rows items
    → map (λ r. column r 0) rows ≡ map (λ x. Int (id x)) items
numbers_of Is id at [] [] h = refl
numbers_of Is id at [] (x ∷ items) h = absurd h
numbers_of Is id at (r ∷ rows) [] h = absurd h
numbers_of Is id at (r ∷ rows) (x ∷ items) h = λ i. at r x h.0 i ∷ numbers_of Is id at rows items h.1 i

twice : {A B C : Type 0} (f : A → B) (g : B → C) (xs : List A) → map g (map f xs) ≡ map (λ x. g (f x)) xs
twice f g [] = refl
twice f g (x ∷ xs) = ap (λ more. g (f x) ∷ more) (twice f g xs)

same_test : (m n : ℤ) → eq_by_cmp int_cmp m n ≡ false → eq_by_cmp value_cmp (Int m) (Int n) ≡ false
same_test m n h = ap is_eq (value_cmp-Int m n) ∙ h

all_ints : (m : ℤ) (ns : List ℤ) → AllByRecursion (λ n. eq_by_cmp int_cmp m n ≡ false) ns → AllByRecursion (λ v. eq_by_cmp value_cmp (Int m) v ≡ false) (map Int ns)
all_ints m [] all = tt
all_ints m (n ∷ ns) all = (same_test m n all.0, all_ints m ns all.1)

ints_apart : (ns : List ℤ) → AreNumbersApart ns → IsDistinct (eq_by_cmp value_cmp) (map Int ns)
unfolding IsDistinct
ints_apart [] d = tt
ints_apart (n ∷ ns) d = (all_ints n ns d.0, ints_apart ns d.1)

rows_apart : (rows : List Row) → IsDistinct (eq_by_cmp value_cmp) (map rowid rows) → AreApart rows
unfolding IsDistinct
rows_apart [] d = tt
rows_apart (row ∷ rows) d = (
  λ other h. all_has (λ v. eq_by_cmp value_cmp (rowid row) v ≡ false) (map rowid rows) (rowid other) d.0 (mapped_has rowid rows other h),
  rows_apart rows d.1,
)

same_values : {f g : Row → Value} → ((row : Row) → f row ≡ g row) → (rows : List Row) → map f rows ≡ map g rows
same_values e [] = refl
same_values e (row ∷ rows) = λ i. e row i ∷ same_values e rows i

-- rows that were read with rowids that differ
pub read_apart : {X : Type 0} (f : Row → Row) (Is : Row → X → Type 0) (id : X → ℤ) (xs ys : List Row) (items : List X) → ((row : Row) → column (f row) 0 ≡ rowid row)
    → ((r : Row) (x : X) → Is r x → column r 0 ≡ Int (id x)) → IsPermutation (map f xs) ys → AllZip Is ys items → AreNumbersApart (map id items) → AreApart xs
read_apart f Is id xs ys items first at moved read apart =
    let numbers : map (λ r. column r 0) ys ≡ map Int (map id items) = numbers_of Is id at ys items read ∙ sym (twice id Int items) in
    let rowids : map (λ r. column r 0) (map f xs) ≡ map rowid xs = twice f (λ r. column r 0) xs ∙ same_values first xs in
    let both : IsPermutation (map rowid xs) (map Int (map id items)) =
    subst (λ l. IsPermutation l (map Int (map id items))) rowids (subst (IsPermutation (map (λ r. column r 0) (map f xs))) numbers (IsPermutation-map (λ r. column r 0) (map f xs) ys moved)) in
    rows_apart xs (IsDistinct-IsPermutation (eq_by_cmp value_cmp) (eq_by_cmp_equiv value_cmp_total).symm (map Int (map id items)) (map rowid xs) (IsPermutation-sym (map rowid xs) (map Int (map id items)) both) (ints_apart (map id items) apart))

-- and the other way round
other_test : (m n : ℤ) → eq_by_cmp value_cmp (Int m) (Int n) ≡ false → eq_by_cmp int_cmp m n ≡ false
other_test m n h = ap is_eq (sym (value_cmp-Int m n)) ∙ h

all_numbers : (m : ℤ) (ns : List ℤ) → AllByRecursion (λ v. eq_by_cmp value_cmp (Int m) v ≡ false) (map Int ns) → AllByRecursion (λ n. eq_by_cmp int_cmp m n ≡ false) ns
all_numbers m [] all = tt
all_numbers m (n ∷ ns) all = (other_test m n all.0, all_numbers m ns all.1)

numbers_apart : (ns : List ℤ) → IsDistinct (eq_by_cmp value_cmp) (map Int ns) → AreNumbersApart ns
unfolding IsDistinct
numbers_apart [] d = tt
numbers_apart (n ∷ ns) d = (all_numbers n ns d.0, numbers_apart ns d.1)

all_rowids : (row : Row) (rows : List Row) → ((other : Row) → Has rows other → are_tied row other ≡ false) → AllByRecursion (λ v. eq_by_cmp value_cmp (rowid row) v ≡ false) (map rowid rows)
all_rowids row [] all = tt
all_rowids row (r ∷ rows) all = (all r (inl refl), all_rowids row rows (λ other h. all other (inr h)))

rowids_apart : (rows : List Row) → AreApart rows → IsDistinct (eq_by_cmp value_cmp) (map rowid rows)
unfolding IsDistinct
rowids_apart [] a = tt
rowids_apart (row ∷ rows) a = (all_rowids row rows a.0, rowids_apart rows a.1)

pub apart_read : {X : Type 0} (f : Row → Row) (Is : Row → X → Type 0) (id : X → ℤ) (xs ys : List Row) (items : List X) → ((row : Row) → column (f row) 0 ≡ rowid row)
    → ((r : Row) (x : X) → Is r x → column r 0 ≡ Int (id x)) → IsPermutation (map f xs) ys → AllZip Is ys items → AreApart xs → AreNumbersApart (map id items)
apart_read f Is id xs ys items first at moved read apart =
    let numbers : map (λ r. column r 0) ys ≡ map Int (map id items) = numbers_of Is id at ys items read ∙ sym (twice id Int items) in
    let rowids : map (λ r. column r 0) (map f xs) ≡ map rowid xs = twice f (λ r. column r 0) xs ∙ same_values first xs in
    let both : IsPermutation (map rowid xs) (map Int (map id items)) =
    subst (λ l. IsPermutation l (map Int (map id items))) rowids (subst (IsPermutation (map (λ r. column r 0) (map f xs))) numbers (IsPermutation-map (λ r. column r 0) (map f xs) ys moved)) in
    numbers_apart (map id items) (IsDistinct-IsPermutation (eq_by_cmp value_cmp) (eq_by_cmp_equiv value_cmp_total).symm (map rowid xs) (map Int (map id items)) both (rowids_apart xs apart))

-- ---- the forms of rows

module _ (db : Trees) (w : World) (c : Read db w) where
  mailbox_ok : (row : Row) → Has (db 0) row → IsRowOf mailbox_table row
  mailbox_ok row h =
      let x = (mailbox_rows db c.rows).to row h in
      subst (IsRowOf mailbox_table) (sym (mailbox_is db c.rows row h x.0 x.2)) ((_, refl), (refl, ((_, refl), ((_, refl), ((_, refl), ((_, refl), ((_, refl), refl)))))))

  entry_ok : (row : Row) → Has (db 2) row → IsRowOf acl_table row
  entry_ok row h =
      let x = (entry_rows db c.rows).to row h in
      subst (IsRowOf acl_table) (sym (entry_is db c.rows row h x.0 x.2)) ((_, refl), ((_, refl), ((_, refl), ((_, refl), refl))))

  message_ok : (row : Row) → Has (db 4) row → IsRowOf message_table row
  message_ok row h =
      let x = (message_rows db c.rows).to row h in
      subst (IsRowOf message_table) (sym (message_is db c.rows row h x.0 x.2))
      ((_, refl), ((_, refl), ((_, refl), ((_, refl), ((_, refl), ((_, refl), ((_, refl), ((_, refl), refl))))))))

  gone_ok : (row : Row) → Has (db 6) row → IsRowOf gone_table row
  gone_ok row h =
      let x = (gone_rows db c.rows).to row h in
      subst (IsRowOf gone_table) (sym (gone_is db c.rows row h x.0 x.2)) ((_, refl), ((_, refl), ((_, refl), ((_, refl), refl))))

  mark_ok : (row : Row) → Has (db 8) row → IsRowOf mark_table row
  mark_ok row h =
      let x = (mark_rows db c.rows).to row h in
      subst (IsRowOf mark_table) (sym (mark_is db c.rows row h x.0 x.2))
      ((_, refl), ((_, refl), ((_, refl), ((_, refl), ((_, refl), ((_, refl), ((_, refl), refl)))))))

  epoch_ok : (row : Row) → Has (db 10) row → IsRowOf epoch_table row
  epoch_ok row h =
      let x = (epoch_rows db c.rows).to row h in
      subst (IsRowOf epoch_table) (sym (epoch_is db c.rows row h x.0 x.2)) ((_, refl), ((_, refl), ((_, refl), ((_, refl), refl))))

  sub_ok : (row : Row) → Has (db 12) row → IsRowOf sub_table row
  sub_ok row h =
      let x = (sub_rows db c.rows).to row h in
      subst (IsRowOf sub_table) (sym (sub_is db c.rows row h x.0 x.2)) ((_, refl), ((_, refl), ((_, refl), ((_, refl), refl))))

  meta_ok : (row : Row) → Has (db 14) row → IsRowOf meta_table row
  meta_ok row h =
      let x = (meta_rows db c.rows).to row h in
      subst (IsRowOf meta_table) (sym (meta_is db c.rows row h x.0 x.2)) ((_, refl), ((_, refl), ((_, refl), refl)))

  -- a table without rows
  none_ok : (table : Table) → db table.tree ≡ [] → (row : Row) → Has (db table.tree) row → IsRowOf table row
  none_ok table none row h = absurd (subst (λ rows. Has rows row) none h)

  none_apart : (tree : ℕ) → db tree ≡ [] → AreApart (db tree)
  none_apart tree none = subst AreApart (sym none) tt

  -- a statement of each table is one of the eight, if it holds of tables without rows
  of_all : (P : Table → Type 0) → P mailbox_table → P acl_table → P message_table → P gone_table → P mark_table → P epoch_table → P sub_table → P meta_table
      → ((table : Table) → db table.tree ≡ [] → P table) → (table : Table) → Has store_tables table → P table
  of_all P a b d e f g h i none table listed =
      let empty = c.rows.are.blank in
      all_has P store_tables table (a, (b, (d, (e, (f, (g, (h, (i, (none message2_table empty.0, (none body_table empty.1.0, (none keyword_table empty.1.1.0, tt))))))))))) listed

  pub tables_orderly : IsOrderly db
  tables_orderly = record {
    rows = of_all (λ table. (row : Row) → Has (db table.tree) row → IsRowOf table row) mailbox_ok entry_ok message_ok gone_ok mark_ok epoch_ok sub_ok meta_ok none_ok;
    apart = of_all (λ table. AreApart (db table.tree))
        (let it = c.rows.are.stored.mailboxes in read_apart (shown_at 0) IsMailbox _ (db 0) it.rows c.rows.t.mailboxes.items (λ row. refl) (λ r x is. ap (λ v. column v 0) is.0) it.all it.read c.distinct.mailboxes)
        (let it = c.rows.are.stored.entries in read_apart (shown_at 1) IsEntry _ (db 2) it.rows c.rows.t.entries.items (λ row. refl) (λ r x is. ap (λ v. column v 0) is.0) it.all it.read c.distinct.entries)
        (let it = c.rows.are.stored.messages in read_apart (shown_at 2) IsMessage _ (db 4) it.rows c.rows.t.messages.items (λ row. refl) (λ r x is. ap (λ v. column v 0) is.0) it.all it.read c.distinct.messages)
        (let it = c.rows.are.stored.gone in read_apart (shown_at 3) IsGone _ (db 6) it.rows c.rows.t.gone.items (λ row. refl) (λ r x is. ap (λ v. column v 0) is.0) it.all it.read c.distinct.gone)
        (let it = c.rows.are.stored.marks in read_apart (shown_at 4) IsMark _ (db 8) it.rows c.rows.t.marks.items (λ row. refl) (λ r x is. ap (λ v. column v 0) is.0) it.all it.read c.distinct.marks)
        (let it = c.rows.are.stored.epochs in read_apart (shown_at 5) IsEpoch _ (db 10) it.rows c.rows.t.epochs.items (λ row. refl) (λ r x is. ap (λ v. column v 0) is.0) it.all it.read c.distinct.epochs)
        (let it = c.rows.are.stored.subscriptions in read_apart (shown_at 6) IsSubscription _ (db 12) it.rows c.rows.t.subscriptions.items (λ row. refl) (λ r x is. ap (λ v. column v 0) is) it.all it.read c.distinct.subscriptions)
        (let it = c.rows.are.stored.meta in read_apart (shown_at 7) IsMeta _ (db 14) it.rows c.rows.t.meta.items (λ row. refl) (λ r x is. ap (λ v. column v 0) is.0) it.all it.read c.distinct.meta)
        (λ table none. none_apart table.tree none);
  }

  pub meta_shows : MetaShows db
  meta_shows row h =
      let x = (meta_rows db c.rows).to row h in
      record { rowid = x.0.rowid; key = string_bytes x.0.key; value = x.0.value; texts = IsUtf8-string_bytes x.0.key; short = x.2.1; shown = x.2.0 }
