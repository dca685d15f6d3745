-- Rows that are read in turn, and rows that pass a test.
use Rattle.std.proofs.Common.{◌≡◌, List, [], ◌∷◌, ℕ, ℤ, suc, ◌+◌, ◌<◌, ◌≤◌, Bool, true, false, cond, length, get_or, drop, drop-cons, drop_of_length-le, add-one, ap, ◌∙◌, sym, subst}
use Rattle.std.specs.List.{filter}
use Rattle.std.specs.Ordering.{int_eq}
pub use Rattle.imap_tables.proofs.Zipped.{HasRead, read_end, read_never, read_next, read_start}

-- the same, of a number that is the same
pub with_id : {A B : Type 0} (R : A → B → Type 0) (number : A → ℤ) (a b : ℤ) (rows left : List A) (items : List B) → a ≡ b
    → HasRead R (filter (λ x. int_eq (number x) a) rows) (filter (λ x. int_eq (number x) a) left) items
    → HasRead R (filter (λ x. int_eq (number x) b) rows) (filter (λ x. int_eq (number x) b) left) items
with_id R number a b rows left items same h = subst (λ n. HasRead R (filter (λ x. int_eq (number x) n) rows) (filter (λ x. int_eq (number x) n) left) items) same h

-- ---- rows that pass a test

module _ {A : Type 0} (test : A → Bool) where
  passed_at : (rows : List A) (i : ℕ) (x : A) (b : Bool) → i < length rows → x ≡ get_or rows i x → test x ≡ b
      → filter test (drop i rows) ≡ cond b (x ∷ filter test (drop (i + 1) rows)) (filter test (drop (i + 1) rows))
  passed_at rows i x b lt is same =
      let cut : drop i rows ≡ x ∷ drop (i + 1) rows = rw add-one (drop-cons rows i x lt ∙ ap (λ y. y ∷ drop (suc i) rows) (sym is)) in
      ap (filter test) cut ∙ ap (λ c. cond c (x ∷ filter test (drop (i + 1) rows)) (filter test (drop (i + 1) rows))) same

  pub passed_next : (rows : List A) (i : ℕ) (x : A) → i < length rows → x ≡ get_or rows i x → test x ≡ true → filter test (drop i rows) ≡ x ∷ filter test (drop (i + 1) rows)
  passed_next rows i x = passed_at rows i x true

  pub passed_over : (rows : List A) (i : ℕ) (x : A) → i < length rows → x ≡ get_or rows i x → test x ≡ false → filter test (drop i rows) ≡ filter test (drop (i + 1) rows)
  passed_over rows i x = passed_at rows i x false

  pub passed_all : (rows : List A) (i : ℕ) → length rows ≤ i → filter test (drop i rows) ≡ []
  passed_all rows i le = ap (filter test) (drop_of_length-le rows le)
