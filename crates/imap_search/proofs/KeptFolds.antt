-- What is kept under octets.
use Rattle.std.proofs.Common.{◌≡◌, ◌∙◌, ℕ, Bool, true, false, cond, ◌||◌, List, [], ◌∷◌, map, Some, Result, Ok, Err, OnOk, OnErr, refl, sym, ap, subst}
use Rattle.std.specs.List.{AllByRecursion, list_any}
use Rattle.std.specs.Ordering.{nat_cmp, is_eq, match_ordering}
use Rattle.std.specs.declared.cmp.Ordering.{Ordering}
use Rattle.std.specs.declared.cmp.Ordering.TheVariants.{Less, Equal, Greater}
use Rattle.std.specs.Cmp.Lexicographic.{slice_cmp}
use Rattle.std.specs.Map.{lookup}
use Rattle.std.specs.BTreeMap.{insert_entry, is_at}
use Rattle.std.specs.declared.vec.Vec.{Vec}
use Rattle.std.proofs.lemmas.Map.Text.{is_eq-slice_cmp}
use Rattle.std.proofs.lemmas.Option.{same_Some}
use Rattle.std.proofs.lemmas.Slice.Eq.{bytes_eq-Decides}
use Rattle.imap_text.specs.Fields.{field_texts}
use Rattle.imap_text.specs.Folds.{fold}
use Rattle.imap_search.specs.Finds.{has_field, has_text}
use Rattle.imap_search.specs.Folded.{AreFolds}
use Rattle.imap_search.specs.Within.{is_within}

-- octets that compare equal are the same
same_octets : (q k : List ℕ) → is_eq (slice_cmp nat_cmp q k) ≡ true → q ≡ k
same_octets q k e = (bytes_eq-Decides q k).0 (sym (is_eq-slice_cmp q k) ∙ e)

-- what is kept under octets stands in a relation to them
module _ {Z V : Type 0} (P : List ℕ → V → Type 0) where
  abbrev AreKept : List (Vec ℕ Z × V) → Type 0
  AreKept entries = AllByRecursion (λ e. P e.0.items e.1) entries

  pub kept_so : (q : List ℕ) (entries : List (Vec ℕ Z × V)) (value : V) → AreKept entries
      → lookup (is_at (λ (k : Vec ℕ Z). slice_cmp nat_cmp q k.items)) entries ≡ Some value → P q value
  kept_so q [] value all e = absurd (cc e)
  kept_so q (entry ∷ entries) value all e =
      by (is_eq (slice_cmp nat_cmp q entry.0.items)) refl (kept_so q entries value all.1) e
    where
      by : (b : Bool) → is_eq (slice_cmp nat_cmp q entry.0.items) ≡ b
          → (lookup (is_at (λ (k : Vec ℕ Z). slice_cmp nat_cmp q k.items)) entries ≡ Some value → P q value)
          → cond b (Some entry.1) (lookup (is_at (λ (k : Vec ℕ Z). slice_cmp nat_cmp q k.items)) entries) ≡ Some value → P q value
      by true same later is = subst (P q) (same_Some _ _ is) (subst (λ (k : List ℕ). P k entry.1) (sym (same_octets q entry.0.items same)) all.0)
      by false same later is = later is

  -- one more
  pub more_kept : (key : Vec ℕ Z) (value : V) (entries : List (Vec ℕ Z × V)) → P key.items value → AreKept entries
      → AreKept (insert_entry (λ (p q : Vec ℕ Z). slice_cmp nat_cmp p.items q.items) entries key value)
  more_kept key value [] is all = (is, all)
  more_kept key value (entry ∷ entries) is all =
      by (slice_cmp nat_cmp key.items entry.0.items) refl (more_kept key value entries is all.1)
    where
      by : (o : Ordering) → slice_cmp nat_cmp key.items entry.0.items ≡ o
          → AreKept (insert_entry (λ (p q : Vec ℕ Z). slice_cmp nat_cmp p.items q.items) entries key value)
          → AreKept (match_ordering o ((key, value) ∷ entry ∷ entries) ((entry.0, value) ∷ entries) (entry ∷ insert_entry (λ (p q : Vec ℕ Z). slice_cmp nat_cmp p.items q.items) entries key value))
      by Less same later = (is, all)
      by Equal same later = (subst (λ (k : List ℕ). P k value) (same_octets key.items entry.0.items (ap is_eq same)) is, all.1)
      by Greater same later = (all.0, later)

  -- what is kept after a call that puts a value there, or fails
  pub values_put : {R E : Type 0} (result : Result R E) (key : Vec ℕ Z) (value : V) (old new : List (Vec ℕ Z × V)) → P key.items value → AreKept old
      → OnOk result (new ≡ insert_entry (λ (p q : Vec ℕ Z). slice_cmp nat_cmp p.items q.items) old key value) → OnErr result (new ≡ old)
      → AreKept new
  values_put (Ok r) key value old new is all put same = subst (λ (kept : List (Vec ℕ Z × V)). AreKept kept) (sym put) (more_kept key value old is all)
  values_put (Err e) key value old new is all put same = subst (λ (kept : List (Vec ℕ Z × V)). AreKept kept) (sym same) all

-- ---- folds

abbrev pub IsFold : (octets text : List ℕ) → Type 0
IsFold octets text = text ≡ fold octets

module _ {Z : Type 0} where
  pub kept_fold : (q : List ℕ) (entries : List (Vec ℕ Z × List ℕ)) (text : List ℕ) → AreFolds entries
      → lookup (is_at (λ (k : Vec ℕ Z). slice_cmp nat_cmp q k.items)) entries ≡ Some text → text ≡ fold q
  kept_fold q entries text all e = kept_so IsFold q entries text all e

-- ---- the folds of header fields

abbrev pub AreFoldsOf : (octets : List ℕ) {Z : Type 0} → List ℕ → Vec (List ℕ) Z → Type 0
AreFoldsOf octets name texts = texts.items ≡ map fold (field_texts name octets)

any_fold : (wanted : List ℕ) (fields : List (List ℕ)) → list_any (is_within (fold wanted)) (map fold fields) ≡ list_any (has_text wanted) fields
any_fold wanted [] = refl
any_fold wanted (f ∷ fields) = ap (λ (b : Bool). is_within (fold wanted) (fold f) || b) (any_fold wanted fields)

pub field_found : (name wanted octets : List ℕ) (texts : List (List ℕ)) (found : Bool) → texts ≡ map fold (field_texts name octets)
    → found ≡ list_any (is_within (fold wanted)) texts → found ≡ has_field name wanted octets
field_found name wanted octets texts found are is =
    is ∙ ap (list_any (is_within (fold wanted))) are ∙ any_fold wanted (field_texts name octets)
