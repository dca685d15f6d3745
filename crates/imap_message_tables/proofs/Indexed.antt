-- Rows whose keys differ.
use Rattle.std.proofs.Common.{◌≡◌, ◌⊎◌, inl, inr, ℕ, ℤ, true, false, ◌&&◌, List, [], ◌∷◌, Ordering, Less, Equal, Greater, is_eq, refl, sym, ap, subst, ◌∙◌, true≢false}
use Rattle.std.proofs.lemmas.Bool.{and_parts, both_ways, cases_Bool, not-true}
use Rattle.std.proofs.lemmas.Cmp.{tied_back, tied_itself}
use Rattle.sqlite_value.proofs.OrderLemmas.{value_cmp_total}
use Rattle.sqlite_value.proofs.KeyLemmas.{collated_total}
use Rattle.sqlite_value.specs.Keys.{collated, first_key, later}
use Rattle.sqlite.specs.Collation.{Collation}
use Rattle.sqlite.specs.declared.types.Value.{Value}
use Rattle.sqlite.specs.declared.types.Value.TheVariants.{Int}
use Rattle.sqlite.specs.Order.{Row, column, value_cmp}
use Rattle.sqlite.specs.Table.{Table}
use Rattle.sqlite.specs.Tree.{Trees, has_rowid, rowid}
use Rattle.sqlite_rules.specs.Lists.{Has}
use Rattle.sqlite_rules.proofs.ListLemmas.{some_from}
use Rattle.sqlite_schema.specs.Rules.{Keeps, agree, clashes, differ, equal}
use Rattle.sqlite_schema.specs.declared.schema.Constraint.TheVariants.{Unique}
use Rattle.sqlite_sql.specs.Ops.{binary, is_null}
use Rattle.sqlite_value.specs.declared.keys.Order.{Order}
use Rattle.imap_tables.specs.Rows.{AreApart, IsOrderly, IsRowOf, are_tied, message2_row}
use Rattle.imap_message_tables.specs.Split.{AreKeyed, AreOfOne}
use Rattle.imap_tables.specs.Tables.{added_tables, body_table, keyword_table, message2_table, store_schema, store_tables}
use Rattle.imap_message_tables.specs.Unique.{AddedIsFresh, AreInOrder, IndexesKey}
use Rattle.imap_message_tables.proofs.Ordered.{all_at}

equal_is : (o : Ordering) → is_eq o ≡ true → o ≡ Equal
equal_is Less h = absurd (cc)
equal_is Equal h = refl
equal_is Greater h = absurd (cc)

tied_flip : (a b : Row) → are_tied a b ≡ true → are_tied b a ≡ true
tied_flip a b h = ap is_eq (tied_back value_cmp_total (rowid a) (rowid b) (equal_is _ h))

tied_one : (rows : List Row) (a b : Row) → AreApart rows → Has rows a → Has rows b → are_tied a b ≡ true → a ≡ b
tied_one [] a b apart h k tie = absurd h
tied_one (r ∷ rows) a b apart (inl h) (inl k) tie = h ∙ sym k
tied_one (r ∷ rows) a b apart (inl h) (inr k) tie = absurd (both_ways _ (apart.0 b k) (subst (λ x. are_tied x b ≡ true) h tie))
tied_one (r ∷ rows) a b apart (inr h) (inl k) tie = absurd (both_ways _ (apart.0 a h) (tied_flip a r (subst (λ x. are_tied a x ≡ true) k tie)))
tied_one (r ∷ rows) a b apart (inr h) (inr k) tie = tied_one rows a b apart.1 h k tie

-- ---- values

equal_itself : (how : Collation) (v : Value) → is_null v ≡ false → collated how v v ≡ Equal → equal how v v ≡ true
unfolding binary
equal_itself how v p same = rw (p, same) refl

equal_same : (how : Collation) (v w : Value) → is_null v ≡ false → v ≡ w → equal how v w ≡ true
equal_same how v w filled e = subst (λ x. equal how v x ≡ true) e (equal_itself how v filled (tied_itself (collated_total how) v))

unequal : (x y : ℤ) → value_cmp (Int x) (Int y) ≡ Less → differ (Int x) (Int y) ≡ true
unfolding binary
unequal x y is = rw is refl

unequal_above : (x y : ℤ) → value_cmp (Int x) (Int y) ≡ Greater → differ (Int x) (Int y) ≡ true
unfolding binary
unequal_above x y is = rw is refl

same_ints : (x y : ℤ) → differ (Int x) (Int y) ≡ false → is_eq (value_cmp (Int x) (Int y)) ≡ true
same_ints x y d = by (value_cmp (Int x) (Int y)) refl
  where
    by : (o : Ordering) → value_cmp (Int x) (Int y) ≡ o → is_eq (value_cmp (Int x) (Int y)) ≡ true
    by Less is = absurd (true≢false (sym (unequal x y is) ∙ d))
    by Equal is = ap is_eq is
    by Greater is = absurd (true≢false (sym (unequal_above x y is) ∙ d))

not_differ : (v w : Value) (x y : ℤ) → v ≡ Int x → w ≡ Int y → differ v w ≡ false → is_eq (value_cmp v w) ≡ true
not_differ v w x y e f h = subst (λ p. is_eq (value_cmp p w) ≡ true) (sym e) (subst (λ q. is_eq (value_cmp (Int x) q) ≡ true) (sym f)
    (same_ints x y (subst (λ q. differ (Int x) q ≡ false) f (subst (λ p. differ p w ≡ false) e h))))

-- ---- rows of one key

one_row : (o : Order) (places : List ℕ) (rows : List Row) (a b : Row) (x y : ℤ) → AreApart rows → Has rows a → Has rows b → clashes o places rows b ≡ false → agree o places a places b ≡ true → column a 0 ≡ Int x → column b 0 ≡ Int y → a ≡ b
one_row o places rows a b x y apart ha hb clash same ea eb = by (cases_Bool (differ (rowid a) (rowid b)))
  where
    by : (differ (rowid a) (rowid b) ≡ true) ⊎ (differ (rowid a) (rowid b) ≡ false) → a ≡ b
    by (inl d) = absurd (both_ways _ clash (some_from (λ other. agree o places other places b && differ (rowid other) (rowid b)) rows a ha (λ i. same i && d i)))
    by (inr d) = tied_one rows a b apart ha hb (not_differ (rowid a) (rowid b) x y ea eb d)

record IsFilled (row : Row) : Type 0 where
  id : ℤ
  first : column row 0 ≡ Int id
  second : is_null (column row 1) ≡ false
  third : is_null (column row 2) ≡ false

agree_two : (o : Order) (a b : Row) → IsFilled a → AreOfOne a b → agree o (1 ∷ 2 ∷ []) a (1 ∷ 2 ∷ []) b ≡ true
agree_two o a b f e = λ i. equal_same (first_key o).collation (column a 1) (column b 1) f.second e.0 i && (equal_same (first_key (later o)).collation (column a 2) (column b 2) f.third e.1 i && true)

agree_three : (o : Order) (a b : Row) → IsFilled a → is_null (column a 3) ≡ false → AreOfOne a b → column a 3 ≡ column b 3 → agree o (1 ∷ 2 ∷ 3 ∷ []) a (1 ∷ 2 ∷ 3 ∷ []) b ≡ true
agree_three o a b f g e w = λ i. equal_same (first_key o).collation (column a 1) (column b 1) f.second e.0 i && (equal_same (first_key (later o)).collation (column a 2) (column b 2) f.third e.1 i && (equal_same (first_key (later (later o))).collation (column a 3) (column b 3) g w i && true))

filled_head : (row : Row) → IsRowOf message2_table row → IsFilled row
filled_head [] h = absurd h
filled_head (v ∷ []) h = absurd h.1
filled_head (v ∷ w ∷ []) h = absurd h.1.1
filled_head (v ∷ w ∷ x ∷ values) h = record { id = h.0.0; first = h.0.1; second = ap is_null h.1.0.1; third = ap is_null h.1.1.0.1 }

filled_body : (row : Row) → IsRowOf body_table row → IsFilled row
filled_body [] h = absurd h
filled_body (v ∷ []) h = absurd h.1
filled_body (v ∷ w ∷ []) h = absurd h.1.1
filled_body (v ∷ w ∷ x ∷ values) h = record { id = h.0.0; first = h.0.1; second = ap is_null h.1.0.1; third = ap is_null h.1.1.0.1 }

filled_word : (row : Row) → IsRowOf keyword_table row → IsFilled row × (is_null (column row 3) ≡ false)
filled_word [] h = absurd h
filled_word (v ∷ []) h = absurd h.1
filled_word (v ∷ w ∷ []) h = absurd h.1.1
filled_word (v ∷ w ∷ x ∷ []) h = absurd h.1.1.1
filled_word (v ∷ w ∷ x ∷ y ∷ values) h = (record { id = h.0.0; first = h.0.1; second = ap is_null h.1.0.1; third = ap is_null h.1.1.0.1 }, ap is_null h.1.1.1.0.1)

module _ (db : Trees) (keeps : Keeps Unique store_schema db) (orderly : AreInOrder db) where
  head_listed : Has added_tables message2_table
  head_listed = inl refl

  body_listed : Has added_tables body_table
  body_listed = inr (inl refl)

  word_listed : Has added_tables keyword_table
  word_listed = inr (inr (inl refl))

  head_alone : (b : Row) → Has (db 16) b → clashes (record { digits = 0 }) (1 ∷ 2 ∷ []) (db 16) b ≡ false
  head_alone b h = not-true _ (and_parts _ _ (all_at _ (db 16) keeps.1.1.1.1.1.1.1.1.0 b h)).0

  body_alone : (b : Row) → Has (db 18) b → clashes (record { digits = 0 }) (1 ∷ 2 ∷ []) (db 18) b ≡ false
  body_alone b h = not-true _ (and_parts _ _ (all_at _ (db 18) keeps.1.1.1.1.1.1.1.1.1.0 b h)).0

  word_alone : (b : Row) → Has (db 20) b → clashes (record { digits = 0 }) (1 ∷ 2 ∷ 3 ∷ []) (db 20) b ≡ false
  word_alone b h = not-true _ (and_parts _ _ (all_at _ (db 20) keeps.1.1.1.1.1.1.1.1.1.1.0 b h)).0

  pub keyed : AreKeyed db
  keyed = record {
    heads = λ a b ha hb e.
        let f = filled_head a (orderly.rows message2_table head_listed a ha) in
        let g = filled_head b (orderly.rows message2_table head_listed b hb) in
        one_row (record { digits = 0 }) (1 ∷ 2 ∷ []) (db 16) a b f.id g.id (orderly.apart message2_table head_listed) ha hb (head_alone b hb) (agree_two _ a b f e) f.first g.first;
    bodies = λ a b ha hb e.
        let f = filled_body a (orderly.rows body_table body_listed a ha) in
        let g = filled_body b (orderly.rows body_table body_listed b hb) in
        one_row (record { digits = 0 }) (1 ∷ 2 ∷ []) (db 18) a b f.id g.id (orderly.apart body_table body_listed) ha hb (body_alone b hb) (agree_two _ a b f e) f.first g.first;
    words = λ a b ha hb e w.
        let f = filled_word a (orderly.rows keyword_table word_listed a ha) in
        let g = filled_word b (orderly.rows keyword_table word_listed b hb) in
        one_row (record { digits = 0 }) (1 ∷ 2 ∷ 3 ∷ []) (db 20) a b f.0.id g.0.id (orderly.apart keyword_table word_listed) ha hb (word_alone b hb) (agree_three _ a b f.0 f.1 e w) f.0.first g.0.first;
  }

-- so are all tables of a store
in_store : (table : Table) → Has added_tables table → Has store_tables table
in_store table h = inr (inr (inr (inr (inr (inr (inr (inr h)))))))

pub three_in_order : (db : Trees) → IsOrderly db → AreInOrder db
three_in_order db o = record { rows = λ table h. o.rows table (in_store table h); apart = λ table h. o.apart table (in_store table h) }

pub indexes_key : IndexesKey
indexes_key db keeps orderly = keyed db keeps orderly

-- ---- a free key

at_its_rowid : (row : Row) (id : ℤ) → rowid row ≡ Int id → has_rowid id row ≡ true
at_its_rowid row id is = ap is_eq (subst (λ v. value_cmp v (Int id) ≡ Equal) (sym is) (tied_itself value_cmp_total (Int id)))

pub added_is_fresh : AddedIsFresh
added_is_fresh old new i u date flags place adds keyed row h at =
    let same = keyed.heads row (message2_row i u date flags place adds.id) (adds.kept row h) adds.added at in
    both_ways _ (adds.free row h) (at_its_rowid row adds.id (ap (λ (r : Row). column r 0) same))
