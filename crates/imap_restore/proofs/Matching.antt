-- Lists of which each item of one has one of the other.
use Rattle.std.proofs.Common.{◌≡◌, inl, inr, Bool, true, List, [], ◌∷◌, map, filter, refl, sym, subst, IsPermutation}
use Rattle.std.specs.List.{AllZip}
use Rattle.std.proofs.lemmas.List.Sorted.{IsPermutation-sym}
use Rattle.sqlite_rules.specs.Lists.{Has}
use Rattle.sqlite_rules.proofs.ListLemmas.{has_filtered, has_kept}
use Rattle.sqlite_rules.proofs.ProbeLemmas.{has_mapped, mapped_has}
use Rattle.imap_restore.proofs.Listed.{has_moved}

module _ {A B : Type 0} (R : A → B → Type 0) where
  pub record Match (xs : List A) (ys : List B) : Type 0 where
    pub to : (x : A) → Has xs x → (y : B) × Has ys y × R x y
    pub from : (y : B) → Has ys y → (x : A) × Has xs x × R x y

  pub zip_match : (xs : List A) (ys : List B) → AllZip R xs ys → Match xs ys
  zip_match [] [] h = record { to = λ x none. absurd none; from = λ y none. absurd none }
  zip_match [] (y ∷ ys) h = absurd h
  zip_match (x ∷ xs) [] h = absurd h
  zip_match (x ∷ xs) (y ∷ ys) h =
      let later = zip_match xs ys h.1 in
      record {
        to = λ z k. elim k [ inl is ↦ (y, inl refl, subst (λ a. R a y) (sym is) h.0) | inr there ↦ let l = later.to z there in (l.0, inr l.1, l.2) ];
        from = λ z k. elim k [ inl is ↦ (x, inl refl, subst (R x) (sym is) h.0) | inr there ↦ let l = later.from z there in (l.0, inr l.1, l.2) ];
      }

-- the rows that are read, in some order, are those of the table
pub read_match : {A B X : Type 0} (f : A → B) (Is : B → X → Type 0) (xs : List A) (ys : List B) (items : List X) → IsPermutation (map f xs) ys → AllZip Is ys items
    → Match (λ a x. Is (f a) x) xs items
read_match f Is xs ys items moved read =
    let zip = zip_match Is ys items read in
    record {
      to = λ a h. zip.to (f a) (has_moved (map f xs) ys moved (f a) (mapped_has f xs a h));
      from = λ x h.
          let it = zip.from x h in
          let back = has_mapped f xs it.0 (has_moved ys (map f xs) (IsPermutation-sym (map f xs) ys moved) it.0 it.1) in
          (back.0, back.1, subst (λ b. Is b x) back.2 it.2);
    }

-- of those that pass a test
pub zip_filtered : {A B : Type 0} (R : A → B → Type 0) (p : A → Bool) (xs : List A) (ys : List B) → AllZip R (filter p xs) ys → (x : A) → Has xs x → p x ≡ true → (y : B) × Has ys y × R x y
zip_filtered R p xs ys zip x h passes = (zip_match R (filter p xs) ys zip).to x (has_kept p xs x h passes)

pub filtered_zip : {A B : Type 0} (R : A → B → Type 0) (p : A → Bool) (xs : List A) (ys : List B) → AllZip R (filter p xs) ys → (y : B) → Has ys y → (x : A) × Has xs x × (p x ≡ true) × R x y
filtered_zip R p xs ys zip y h =
    let it = (zip_match R (filter p xs) ys zip).from y h in
    let was = has_filtered p xs it.0 it.1 in
    (it.0, was.0, was.1, it.2)
