-- No two rows of a table agree in its key.
use Rattle.std.proofs.Common.{◌≡◌, ◌⊎◌, inl, inr, ℕ, ℤ, Bool, true, false, cond, not, ◌&&◌, ◌||◌, List, [], ◌∷◌, Ordering, Less, Equal, Greater, Some, refl, sym, ap, ◌∙◌, true≢false}
use Rattle.std.specs.List.{AllByRecursion}
use Rattle.std.specs.Ordering.{is_ne}
use Rattle.std.proofs.lemmas.Bool.{and_parts, and_from, cases_Bool, both_ways, not-true}
use Rattle.std.proofs.lemmas.Cmp.{tied_itself}
use Rattle.std.proofs.lemmas.Map.Lookups.{exact_signed}
use Rattle.sqlite.specs.Collation.TheVariants.{Binary}
use Rattle.imap_restore.specs.Holding.{AreKeptRows}
use Rattle.sqlite.specs.Ops.{binary, from_truth, is_null, is_true}
use Rattle.sqlite.specs.Order.{Row, column, value_cmp}
use Rattle.sqlite.specs.Tree.{Trees, rowid}
use Rattle.sqlite.specs.declared.types.Value.{Value}
use Rattle.sqlite.specs.declared.types.Value.TheVariants.{Null, Int}
use Rattle.sqlite_rules.specs.Lists.{Has}
use Rattle.sqlite_rules.proofs.ListLemmas.{some_from}
use Rattle.sqlite_schema.specs.Rules.{agree, clashes, differ, equal}
use Rattle.sqlite_value.specs.Keys.{first_key, later}
use Rattle.sqlite_value.specs.declared.keys.Order.{Order}
use Rattle.sqlite_value.proofs.OrderLemmas.{value_cmp_total, value_cmp-Int}
use Rattle.imap_tables.specs.Tables.{acl_table, epoch_table, gone_table, mailbox_table, mark_table, message_table, sub_table}

-- what is no NULL is equal to itself
equal_itself : (a : Value) → is_null a ≡ false → equal Binary a a ≡ true
unfolding binary
equal_itself a p = rw (p, tied_itself value_cmp_total a)

pub equal_if : (a b v : Value) → is_null v ≡ false → a ≡ v → b ≡ v → equal Binary a b ≡ true
equal_if a b v p e f = (λ i. equal Binary (e i) (f i)) ∙ equal_itself v p

undiffer : (a b : Value) → is_null a ≡ false → is_null b ≡ false → differ a b ≡ false → value_cmp a b ≡ Equal
unfolding binary
undiffer a b p q h = go (is_null a) (is_null b) (value_cmp a b) p q h
  where
    go : (m n : Bool) (o : Ordering) → m ≡ false → n ≡ false → is_true (cond (m || n) Null (from_truth (Some (is_ne o)))) ≡ false → o ≡ Equal
    go true n o p q h = absurd (true≢false p)
    go false true o p q h = absurd (true≢false q)
    go false false Less p q h = absurd (cc h)
    go false false Equal p q h = refl
    go false false Greater p q h = absurd (cc h)

same_int : (m n : ℤ) → differ (Int m) (Int n) ≡ false → m ≡ n
same_int m n h = exact_signed m n (sym (value_cmp-Int m n) ∙ undiffer (Int m) (Int n) refl refl h)

abbrev pub plain : Order
plain = record { digits = 0 }

pub first_is : (first_key plain).collation ≡ Binary
unfolding first_key
first_is = refl

agree_plain : (ps : List ℕ) (a b : Row) → AllByRecursion (λ p. equal Binary (column a p) (column b p) ≡ true) ps → agree plain ps a ps b ≡ true
agree_plain [] a b all = refl
agree_plain (p ∷ ps) a b all =
    and_from (equal (first_key plain).collation (column a p) (column b p)) (agree (later plain) ps a ps b)
    (ap (λ how. equal how (column a p) (column b p)) first_is ∙ all.0) (agree_plain ps a b all.1)

-- rows that agree in a key that is unique have one rowid
pub one_rowid : (ps : List ℕ) (rows : List Row) (a b : Row) → clashes plain ps rows b ≡ false → Has rows a → AllByRecursion (λ p. equal Binary (column a p) (column b p) ≡ true) ps
    → (m n : ℤ) → rowid a ≡ Int m → rowid b ≡ Int n → m ≡ n
one_rowid ps rows a b none h all m n at bt = same_int m n ((λ i. differ (sym at i) (sym bt i)) ∙ by (cases_Bool (differ (rowid a) (rowid b))))
  where
    by : (differ (rowid a) (rowid b) ≡ true) ⊎ (differ (rowid a) (rowid b) ≡ false) → differ (rowid a) (rowid b) ≡ false
    by (inl differs) = absurd (both_ways _ none (some_from (λ other. agree plain ps other ps b && differ (rowid other) (rowid b)) rows a h (and_from _ _ (agree_plain ps a b all) differs)))
    by (inr same) = same

pub one_mailbox : (db : Trees) → AreKeptRows db → (row : Row) → Has (db 0) row → clashes plain (2 ∷ 3 ∷ []) (db 0) row ≡ false
one_mailbox db is row h = not-true _ (and_parts (not (clashes plain (2 ∷ 3 ∷ []) (db 0) row)) _ (is.unique mailbox_table (inl refl) row h)).0

pub one_entry : (db : Trees) → AreKeptRows db → (row : Row) → Has (db 2) row → clashes plain (1 ∷ 2 ∷ []) (db 2) row ≡ false
one_entry db is row h = not-true _ (and_parts (not (clashes plain (1 ∷ 2 ∷ []) (db 2) row)) _ (is.unique acl_table (inr (inl refl)) row h)).0

pub one_message : (db : Trees) → AreKeptRows db → (row : Row) → Has (db 4) row → clashes plain (1 ∷ 2 ∷ []) (db 4) row ≡ false
one_message db is row h = not-true _ (and_parts (not (clashes plain (1 ∷ 2 ∷ []) (db 4) row)) _ (is.unique message_table (inr (inr (inl refl))) row h)).0

pub one_gone : (db : Trees) → AreKeptRows db → (row : Row) → Has (db 6) row → clashes plain (1 ∷ 2 ∷ []) (db 6) row ≡ false
one_gone db is row h = not-true _ (and_parts (not (clashes plain (1 ∷ 2 ∷ []) (db 6) row)) _ (is.unique gone_table (inr (inr (inr (inl refl)))) row h)).0

pub one_mark : (db : Trees) → AreKeptRows db → (row : Row) → Has (db 8) row → clashes plain (1 ∷ 2 ∷ 3 ∷ []) (db 8) row ≡ false
one_mark db is row h = not-true _ (and_parts (not (clashes plain (1 ∷ 2 ∷ 3 ∷ []) (db 8) row)) _ (is.unique mark_table (inr (inr (inr (inr (inl refl))))) row h)).0

pub one_epoch : (db : Trees) → AreKeptRows db → (row : Row) → Has (db 10) row → clashes plain (1 ∷ 2 ∷ []) (db 10) row ≡ false
one_epoch db is row h = not-true _ (and_parts (not (clashes plain (1 ∷ 2 ∷ []) (db 10) row)) _ (is.unique epoch_table (inr (inr (inr (inr (inr (inl refl)))))) row h)).0

pub one_subscription : (db : Trees) → AreKeptRows db → (row : Row) → Has (db 12) row → clashes plain (1 ∷ 2 ∷ 3 ∷ []) (db 12) row ≡ false
one_subscription db is row h = not-true _ (and_parts (not (clashes plain (1 ∷ 2 ∷ 3 ∷ []) (db 12) row)) _ (is.unique sub_table (inr (inr (inr (inr (inr (inr (inl refl))))))) row h)).0
