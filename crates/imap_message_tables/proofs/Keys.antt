-- Rows by the key of their message.
use Rattle.std.proofs.Common.{◌≡◌, ◌⊎◌, inl, inr, ℕ, ℤ, pos, negsuc, Bool, true, false, not, ◌&&◌, List, [], int_eq, refl, sym, ap, subst, ◌∙◌, true≢false}
use Rattle.std.specs.Prelude.{Decides}
use Rattle.std.proofs.lemmas.Bool.{and_parts, cases_Bool, both_ways}
use Rattle.std.proofs.lemmas.Bool.Decides.{Decides-int_eq}
use Rattle.sqlite.specs.declared.types.Value.{Value}
use Rattle.sqlite.specs.declared.types.Value.TheVariants.{Null, Int, Real, Text as Words, Blob as Bytes}
use Rattle.sqlite.specs.Order.{Row, column}
use Rattle.sqlite_rules.specs.Lists.{Has}
use Rattle.imap_tables.specs.Edits.{IsMessageOf}
use Rattle.imap_message_tables.specs.Split.{AreOfOne}

-- ---- values

abbrev pub id_in : Value → ℤ
id_in (Int n) = n
id_in Null = pos 0
id_in (Real x) = pos 0
id_in (Words t) = pos 0
id_in (Bytes b) = pos 0

abbrev pub natural : ℤ → ℕ
natural (pos n) = n
natural (negsuc n) = n

abbrev text_in : Value → List ℕ
text_in (Words t) = t
text_in Null = []
text_in (Int n) = []
text_in (Real x) = []
text_in (Bytes b) = b

pub same_id : (a b : ℤ) → Int a ≡ Int b → a ≡ b
same_id a b e = ap id_in e

pub same_number : (a b : ℕ) → Int (pos a) ≡ Int (pos b) → a ≡ b
same_number a b e = ap (λ v. natural (id_in v)) e

pub same_text : (a b : List ℕ) → Words a ≡ Words b → a ≡ b
same_text a b e = ap text_in e

pub same_octets : (a b : List ℕ) → Bytes a ≡ Bytes b → a ≡ b
same_octets a b e = ap text_in e

-- ---- whether a row is at a key

abbrev is_int : ℤ → Value → Bool
is_int n (Int k) = int_eq k n
is_int n Null = false
is_int n (Real x) = false
is_int n (Words t) = false
is_int n (Bytes b) = false

abbrev is_integer : Value → Bool
is_integer (Int k) = true
is_integer Null = false
is_integer (Real x) = false
is_integer (Words t) = false
is_integer (Bytes b) = false

no_int : (v : Value) (n : ℤ) → is_integer v ≡ false → v ≡ Int n → ⊥
no_int v n e h = true≢false (sym (ap is_integer h) ∙ e)

is_int_decides : (n : ℤ) (v : Value) → Decides (is_int n v) (v ≡ Int n)
is_int_decides n (Int k) = (λ e. ap (λ x. Int x) ((Decides-int_eq k n).0 e), λ e. (Decides-int_eq k n).1 (same_id k n e))
is_int_decides n Null = (λ e. absurd (true≢false (sym e)), λ e. absurd (no_int Null n refl e))
is_int_decides n (Real x) = (λ e. absurd (true≢false (sym e)), λ e. absurd (no_int (Real x) n refl e))
is_int_decides n (Words t) = (λ e. absurd (true≢false (sym e)), λ e. absurd (no_int (Words t) n refl e))
is_int_decides n (Bytes b) = (λ e. absurd (true≢false (sym e)), λ e. absurd (no_int (Bytes b) n refl e))

abbrev pub at_key : (mailbox : ℤ) (uid : ℕ) → Row → Bool
at_key mailbox uid row = is_int mailbox (column row 1) && is_int (pos uid) (column row 2)

pub at_is : (i : ℤ) (u : ℕ) (row : Row) → at_key i u row ≡ true → IsMessageOf i u row
at_is i u row e = let p = and_parts _ _ e in ((is_int_decides i (column row 1)).0 p.0, (is_int_decides (pos u) (column row 2)).0 p.1)

pub is_at : (i : ℤ) (u : ℕ) (row : Row) → IsMessageOf i u row → at_key i u row ≡ true
is_at i u row h = λ j. (is_int_decides i (column row 1)).1 h.0 j && (is_int_decides (pos u) (column row 2)).1 h.1 j

pub at_or : (i : ℤ) (u : ℕ) (row : Row) → IsMessageOf i u row ⊎ (IsMessageOf i u row → ⊥)
at_or i u row = by (cases_Bool (at_key i u row))
  where
    by : (at_key i u row ≡ true) ⊎ (at_key i u row ≡ false) → IsMessageOf i u row ⊎ (IsMessageOf i u row → ⊥)
    by (inl e) = inl (at_is i u row e)
    by (inr e) = inr (λ h. both_ways _ e (is_at i u row h))

pub away : (i : ℤ) (u : ℕ) (row : Row) → (IsMessageOf i u row → ⊥) → not (at_key i u row) ≡ true
away i u row off = by (cases_Bool (at_key i u row))
  where
    by : (at_key i u row ≡ true) ⊎ (at_key i u row ≡ false) → not (at_key i u row) ≡ true
    by (inl e) = absurd (off (at_is i u row e))
    by (inr e) = ap not e

pub at_same : (i : ℤ) (u : ℕ) (a b : Row) → AreOfOne a b → IsMessageOf i u a → IsMessageOf i u b
at_same i u a b e h = (sym e.0 ∙ h.0, sym e.1 ∙ h.1)

pub of_one : (i : ℤ) (u : ℕ) (a b : Row) → IsMessageOf i u a → IsMessageOf i u b → AreOfOne a b
of_one i u a b h k = (h.0 ∙ sym k.0, h.1 ∙ sym k.1)

-- ---- lists of rows

pub along : (xs ys : List Row) (row : Row) → xs ≡ ys → Has xs row → Has ys row
along xs ys row e h = subst (λ (l : List Row). Has l row) e h
