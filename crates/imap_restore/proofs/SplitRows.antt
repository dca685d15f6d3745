-- Rows of three tables of messages, and of the one table that fits them.
use Rattle.std.proofs.Common.{◌≡◌, ◌⊎◌, ◌≤◌, inl, inr, ℕ, ℤ, pos, true, false, ◌&&◌, not, List, [], ◌∷◌, drop, length, string_bytes, refl, sym, ap, subst, ◌∙◌, arith}
use Rattle.std.specs.Prelude.{eqb}
use Rattle.std.specs.List.{AllByRecursion, list_all}
use Rattle.std.proofs.lemmas.Bool.{and_from, and_parts, both_ways, cases_Bool}
use Rattle.std.proofs.lemmas.Cmp.{tied_itself}
use Rattle.sqlite.specs.Collation.TheVariants.{Binary}
use Rattle.sqlite.specs.Ops.{binary}
use Rattle.sqlite.specs.Order.{Row, column}
use Rattle.sqlite.specs.Table.{Table}
use Rattle.sqlite.specs.Tree.{Trees, rowid}
use Rattle.sqlite.specs.declared.types.Value.{Value}
use Rattle.sqlite.specs.declared.types.Value.TheVariants.{Int}
use Rattle.sqlite_rules.specs.Lists.{Has}
use Rattle.sqlite_rules.proofs.ListLemmas.{all_has, some_has}
use Rattle.sqlite_schema.specs.Rules.{Keeps, agree, are_typed, clashes, differ, equal, guards, passes}
use Rattle.sqlite_schema.specs.declared.schema.Constraint.TheVariants.{Unique}
use Rattle.sqlite_value.proofs.OrderLemmas.{value_cmp_total}
use Rattle.sqlite_value.specs.Keys.{first_key}
use Rattle.imap_message_tables.specs.Split.{IsOther, IsSplit, head_of}
use Rattle.imap_message_tables.specs.Unique.{AreInOrder}
use Rattle.imap_message_tables.proofs.Ordered.{all_from}
use Rattle.imap_message_tables.proofs.Places.{ne}
use Rattle.imap_restore.specs.Holding.{AreKeptRows, AreSplitRowsOf}
use Rattle.imap_restore.proofs.Forms.{few, null_int, null_words}
use Rattle.imap_restore.proofs.Matching.{read_match}
use Rattle.imap_restore.proofs.Orderly.{apart_read, read_apart}
use Rattle.imap_restore.proofs.Unique.{first_is, plain}
use Rattle.imap_tables.specs.Contents.{AreAddedApart}
use Rattle.imap_tables.specs.Reading.{shown_at}
use Rattle.imap_tables.specs.Rows.{AreApart, IsOrderly, IsRowOf, body_row, keyword_row, message2_row}
use Rattle.imap_tables.specs.Stored.{IsBody, IsHead, IsKeyword}
use Rattle.imap_tables.specs.Tables.{acl_table, added_tables, body_table, epoch_table, gone_table, keyword_table, mailbox_table, mark_table, message2_table, message_table, meta_table, store_indexes, store_schema, store_tables, sub_table}
use Rattle.imap_tables.specs.declared.message_rows.StoredBody.{StoredBody}
use Rattle.imap_tables.specs.declared.message_rows.StoredHead.{StoredHead}
use Rattle.imap_tables.specs.declared.message_rows.StoredKeyword.{StoredKeyword}
use Rattle.imap_tables.specs.declared.tables.AddedTables.{AddedTables}
use Rattle.imap_tables.specs.declared.tables.StoredTables.{StoredTables}
use Rattle.imap_tables.proofs.Values.{int_equal}

-- ---- one statement of each table

other : (t : ℕ) → eqb t 4 ≡ false → eqb t 16 ≡ false → eqb t 18 ≡ false → eqb t 20 ≡ false → IsOther t
other t a b c d = (ne t 4 a, ne t 16 b, ne t 18 c, ne t 20 d)

-- a statement holds of each table, if it does of those that are no tables of messages, and of the four
pub of_each : (P : Table → Type 0) → ((table : Table) → Has store_tables table → IsOther table.tree → P table) → P message_table → P message2_table → P body_table → P keyword_table
    → (table : Table) → Has store_tables table → P table
of_each P others message head body word table listed =
    all_has P store_tables table (
      others mailbox_table (inl refl) (other 0 refl refl refl refl),
      (
        others acl_table (inr (inl refl)) (other 2 refl refl refl refl),
        (
          message,
          (
            others gone_table (inr (inr (inr (inl refl)))) (other 6 refl refl refl refl),
            (
              others mark_table (inr (inr (inr (inr (inl refl))))) (other 8 refl refl refl refl),
              (
                others epoch_table (inr (inr (inr (inr (inr (inl refl)))))) (other 10 refl refl refl refl),
                (
                  others sub_table (inr (inr (inr (inr (inr (inr (inl refl))))))) (other 12 refl refl refl refl),
                  (others meta_table (inr (inr (inr (inr (inr (inr (inr (inl refl)))))))) (other 14 refl refl refl refl), (head, (body, (word, tt)))),
                ),
              ),
            ),
          ),
        ),
      ),
    )
    listed

-- ---- keys

no_less : (n : ℤ) → differ (Int n) (Int n) ≡ false
unfolding binary
no_less n = rw (tied_itself value_cmp_total (Int n)) refl

same_ints : (a b : Value) (x y : ℤ) → a ≡ Int x → b ≡ Int y → equal Binary a b ≡ true → a ≡ b
same_ints a b x y e f h = e ∙ ap Int (int_equal x y (subst (λ w. equal Binary (Int x) w ≡ true) f (subst (λ v. equal Binary v b ≡ true) e h))) ∙ sym f

agree_two : (a b : Row) → agree plain (1 ∷ 2 ∷ []) a (1 ∷ 2 ∷ []) b ≡ true → (equal Binary (column a 1) (column b 1) ≡ true) × (equal Binary (column a 2) (column b 2) ≡ true)
agree_two a b h =
    let p = and_parts (equal (first_key plain).collation (column a 1) (column b 1)) (agree plain (2 ∷ []) a (2 ∷ []) b) h in
    let q = and_parts (equal (first_key plain).collation (column a 2) (column b 2)) true p.1 in
    (ap (λ how. equal how (column a 1) (column b 1)) (sym first_is) ∙ p.0, ap (λ how. equal how (column a 2) (column b 2)) (sym first_is) ∙ q.0)

module _ (db one : Trees) (split : IsSplit db one) where
  others_are : (table : Table) → Has store_tables table → IsOther table.tree → one table.tree ≡ db table.tree
  others_are table listed o = split.others table listed o

  none_in : (t : ℕ) → one t ≡ [] → (row : Row) → Has (one t) row → ⊥
  none_in t e row h = subst (λ (l : List Row). Has l row) e h

  same_rowid : (a b : Row) → Has (one 4) a → Has (one 4) b → agree plain (1 ∷ 2 ∷ []) a (1 ∷ 2 ∷ []) b ≡ true → differ (rowid a) (rowid b) ≡ false
  same_rowid a b ha hb h =
      let x = (split.rows a).0 ha in
      let y = (split.rows b).0 hb in
      let p = agree_two a b h in
      let mailbox = same_ints (column a 1) (column b 1) x.whole.mailbox y.whole.mailbox (ap (λ (r : Row). column r 1) x.shown) (ap (λ (r : Row). column r 1) y.shown) p.0 in
      let uid = same_ints (column a 2) (column b 2) (pos x.whole.uid) (pos y.whole.uid) (ap (λ (r : Row). column r 2) x.shown) (ap (λ (r : Row). column r 2) y.shown) p.1 in
      let heads = split.keyed.heads (head_of x.whole) (head_of y.whole) x.stands.head y.stands.head
      (sym (ap (λ (r : Row). column r 1) x.shown) ∙ mailbox ∙ ap (λ (r : Row). column r 1) y.shown, sym (ap (λ (r : Row). column r 2) x.shown) ∙ uid ∙ ap (λ (r : Row). column r 2) y.shown) in
      let first : column a 0 ≡ Int x.whole.rowid = ap (λ (r : Row). column r 0) x.shown in
      let second : column b 0 ≡ Int x.whole.rowid = ap (λ (r : Row). column r 0) y.shown ∙ sym (ap (λ (r : Row). column r 0) heads) in
      subst (λ v. differ v (rowid b) ≡ false) (sym first) (subst (λ v. differ (Int x.whole.rowid) v ≡ false) (sym second) (no_less x.whole.rowid))

  no_clash : (row : Row) → Has (one 4) row → clashes plain (1 ∷ 2 ∷ []) (one 4) row ≡ false
  no_clash row h = by (cases_Bool (clashes plain (1 ∷ 2 ∷ []) (one 4) row))
    where
      by : (clashes plain (1 ∷ 2 ∷ []) (one 4) row ≡ true) ⊎ (clashes plain (1 ∷ 2 ∷ []) (one 4) row ≡ false) → clashes plain (1 ∷ 2 ∷ []) (one 4) row ≡ false
      by (inr e) = e
      by (inl e) =
          let f = some_has (λ other. agree plain (1 ∷ 2 ∷ []) other (1 ∷ 2 ∷ []) row && differ (rowid other) (rowid row)) (one 4) e in
          let p = and_parts (agree plain (1 ∷ 2 ∷ []) f.0 (1 ∷ 2 ∷ []) row) (differ (rowid f.0) (rowid row)) f.2 in
          absurd (both_ways _ (same_rowid f.0 row f.1 h p.0) p.1)

  pub split_kept : AreKeptRows db → AreKeptRows one
  split_kept kept = record {
    typed = of_each (λ table. (row : Row) → Has (one table.tree) row → are_typed table.key 0 table.columns (drop 1 row) ≡ true)
        (λ table listed o row h. kept.typed table listed row (subst (λ (l : List Row). Has l row) (others_are table listed o) h))
        (λ row h. let x = (split.rows row).0 h in subst (λ (r : Row). are_typed message_table.key 0 message_table.columns (drop 1 r) ≡ true) (sym x.shown) refl)
        (λ row h. absurd (none_in 16 split.blank.0 row h)) (λ row h. absurd (none_in 18 split.blank.1 row h)) (λ row h. absurd (none_in 20 split.blank.2 row h));
    unique = of_each (λ table. (row : Row) → Has (one table.tree) row → list_all (λ i. not (guards i table && clashes i.order i.columns (one table.tree) row)) store_indexes ≡ true)
        (λ table listed o. subst (λ (l : List Row). (row : Row) → Has l row → list_all (λ i. not (guards i table && clashes i.order i.columns l row)) store_indexes ≡ true) (sym (others_are table listed o)) (kept.unique table listed))
        (λ row h. and_from (not (clashes plain (1 ∷ 2 ∷ []) (one 4) row)) _ (ap not (no_clash row h)) refl)
        (λ row h. absurd (none_in 16 split.blank.0 row h)) (λ row h. absurd (none_in 18 split.blank.1 row h)) (λ row h. absurd (none_in 20 split.blank.2 row h));
  }

-- ---- rows of the three tables

pub head_form : (row : Row) (x : StoredHead) → length (drop 1 row) ≤ 5 → IsHead (shown_at 8 row) x → row ≡ message2_row x.mailbox x.uid (string_bytes x.date) x.flags x.place x.rowid
head_form [] x low is = absurd (null_int _ (ap (λ r. column r 5) is.0))
head_form (a ∷ []) x low is = absurd (null_int _ (ap (λ r. column r 5) is.0))
head_form (a ∷ b ∷ []) x low is = absurd (null_int _ (ap (λ r. column r 5) is.0))
head_form (a ∷ b ∷ c ∷ []) x low is = absurd (null_int _ (ap (λ r. column r 5) is.0))
head_form (a ∷ b ∷ c ∷ d ∷ []) x low is = absurd (null_int _ (ap (λ r. column r 5) is.0))
head_form (a ∷ b ∷ c ∷ d ∷ e ∷ []) x low is = absurd (null_int _ (ap (λ r. column r 5) is.0))
head_form (a ∷ b ∷ c ∷ d ∷ e ∷ f ∷ []) x low is = is.0
head_form (a ∷ b ∷ c ∷ d ∷ e ∷ f ∷ y ∷ ys) x low is = absurd (omega (arith, low))

body_form : (row : Row) (x : StoredBody) → length (drop 1 row) ≤ 3 → IsBody (shown_at 9 row) x → row ≡ body_row x.mailbox x.uid x.octets x.rowid
body_form [] x low is = absurd (null_int _ (ap (λ r. column r 2) is.0))
body_form (a ∷ []) x low is = absurd (null_int _ (ap (λ r. column r 2) is.0))
body_form (a ∷ b ∷ []) x low is = absurd (null_int _ (ap (λ r. column r 2) is.0))
body_form (a ∷ b ∷ c ∷ []) x low is = absurd (cc (ap (λ r. column r 3) is.0))
body_form (a ∷ b ∷ c ∷ d ∷ []) x low is = is.0
body_form (a ∷ b ∷ c ∷ d ∷ y ∷ ys) x low is = absurd (omega (arith, low))

word_form : (row : Row) (x : StoredKeyword) → length (drop 1 row) ≤ 3 → IsKeyword (shown_at 10 row) x → row ≡ keyword_row x.mailbox x.uid (string_bytes x.word) x.rowid
word_form [] x low is = absurd (null_words _ (ap (λ r. column r 3) is.0))
word_form (a ∷ []) x low is = absurd (null_words _ (ap (λ r. column r 3) is.0))
word_form (a ∷ b ∷ []) x low is = absurd (null_words _ (ap (λ r. column r 3) is.0))
word_form (a ∷ b ∷ c ∷ []) x low is = absurd (null_words _ (ap (λ r. column r 3) is.0))
word_form (a ∷ b ∷ c ∷ d ∷ []) x low is = is.0
word_form (a ∷ b ∷ c ∷ d ∷ y ∷ ys) x low is = absurd (omega (arith, low))

module _ (db : Trees) (t : StoredTables) (added : AddedTables) (are : AreSplitRowsOf db t added) where
  head_ok : (row : Row) → Has (db 16) row → IsRowOf message2_table row
  head_ok row h =
      let it = are.three.heads in
      let x = (read_match (shown_at 8) IsHead (db 16) it.rows added.heads.items it.all it.read).to row h in
      subst (IsRowOf message2_table) (sym (head_form row x.0 (few db are.obeyed message2_table (inr (inr (inr (inr (inr (inr (inr (inr (inl refl))))))))) row h) x.2))
      ((_, refl), ((_, refl), ((_, refl), ((_, refl), ((_, refl), ((_, refl), refl))))))

  body_ok : (row : Row) → Has (db 18) row → IsRowOf body_table row
  body_ok row h =
      let it = are.three.bodies in
      let x = (read_match (shown_at 9) IsBody (db 18) it.rows added.bodies.items it.all it.read).to row h in
      subst (IsRowOf body_table) (sym (body_form row x.0 (few db are.obeyed body_table (inr (inr (inr (inr (inr (inr (inr (inr (inr (inl refl)))))))))) row h) x.2))
      ((_, refl), ((_, refl), ((_, refl), ((_, refl), refl))))

  word_ok : (row : Row) → Has (db 20) row → IsRowOf keyword_table row
  word_ok row h =
      let it = are.three.keywords in
      let x = (read_match (shown_at 10) IsKeyword (db 20) it.rows added.keywords.items it.all it.read).to row h in
      subst (IsRowOf keyword_table) (sym (word_form row x.0 (few db are.obeyed keyword_table (inr (inr (inr (inr (inr (inr (inr (inr (inr (inr (inl refl))))))))))) row h) x.2))
      ((_, refl), ((_, refl), ((_, refl), ((_, refl), refl))))

  pub in_order : AreAddedApart added → AreInOrder db
  in_order distinct = record {
    rows = λ table listed. all_has (λ (u : Table). (row : Row) → Has (db u.tree) row → IsRowOf u row) added_tables table (head_ok, (body_ok, (word_ok, tt))) listed;
    apart = λ table listed. all_has (λ (u : Table). AreApart (db u.tree)) added_tables table (
      (let it = are.three.heads in read_apart (shown_at 8) IsHead _ (db 16) it.rows added.heads.items (λ row. refl) (λ r x is. ap (λ v. column v 0) is.0) it.all it.read distinct.heads),
      (
        (let it = are.three.bodies in read_apart (shown_at 9) IsBody _ (db 18) it.rows added.bodies.items (λ row. refl) (λ r x is. ap (λ v. column v 0) is.0) it.all it.read distinct.bodies),
        ((let it = are.three.keywords in read_apart (shown_at 10) IsKeyword _ (db 20) it.rows added.keywords.items (λ row. refl) (λ r x is. ap (λ v. column v 0) is.0) it.all it.read distinct.keywords), tt),
      ),
    )
        listed;
  }

  -- and the other way round
  pub apart_of : IsOrderly db → AreAddedApart added
  apart_of o = record {
    heads =
        let it = are.three.heads in
        apart_read (shown_at 8) IsHead _ (db 16) it.rows added.heads.items (λ row. refl) (λ r x is. ap (λ v. column v 0) is.0) it.all it.read (o.apart message2_table (inr (inr (inr (inr (inr (inr (inr (inr (inl refl))))))))));
    bodies =
        let it = are.three.bodies in
        apart_read (shown_at 9) IsBody _ (db 18) it.rows added.bodies.items (λ row. refl) (λ r x is. ap (λ v. column v 0) is.0) it.all it.read (o.apart body_table (inr (inr (inr (inr (inr (inr (inr (inr (inr (inl refl)))))))))));
    keywords =
        let it = are.three.keywords in
        apart_read (shown_at 10) IsKeyword _ (db 20) it.rows added.keywords.items (λ row. refl) (λ r x is. ap (λ v. column v 0) is.0) it.all it.read (o.apart keyword_table (inr (inr (inr (inr (inr (inr (inr (inr (inr (inr (inl refl))))))))))));
  }

-- rows that are kept have one key each
pub unique_kept : (db : Trees) → AreKeptRows db → Keeps Unique store_schema db
unique_kept db kept =
    all_from (λ (u : Table). AllByRecursion (λ row. passes Unique store_schema db u row ≡ true) (db u.tree)) store_tables
    (λ table listed. all_from (λ row. passes Unique store_schema db table row ≡ true) (db table.tree) (λ row h. kept.unique table listed row h))
