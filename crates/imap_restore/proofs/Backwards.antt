-- Lists that are turned round.
use Rattle.std.proofs.Common.{◌≡◌, ◌++◌, List, [], ◌∷◌, Bool, true, false, cond, filter, reverse, append-nil, ap, refl, subst, sym, ◌∙◌}
use Rattle.std.specs.List.{AllByRecursion, AllZip}
use Rattle.std.proofs.lemmas.List.{reverse-append, reverse-reverse}
use Rattle.std.proofs.lemmas.List.Elements.{filter-append}
use Rattle.imap_restore.proofs.Zipped.{HasRead}

reverse_first : {A : Type 0} (x : A) (xs : List A) → reverse (x ∷ xs) ≡ reverse xs ++ x ∷ []
reverse_first x xs = reverse-append (x ∷ []) xs

-- ---- what holds of all

all_append : {A : Type 0} (P : A → Type 0) (xs ys : List A) → AllByRecursion P xs → AllByRecursion P ys → AllByRecursion P (xs ++ ys)
all_append P [] ys h k = k
all_append P (x ∷ xs) ys h k = (h.0, all_append P xs ys h.1 k)

pub all_reverse : {A : Type 0} (P : A → Type 0) (xs : List A) → AllByRecursion P xs → AllByRecursion P (reverse xs)
all_reverse P [] h = tt
all_reverse P (x ∷ xs) h = subst (AllByRecursion P) (sym (reverse_first x xs)) (all_append P (reverse xs) (x ∷ []) (all_reverse P xs h.1) (h.0, tt))

module _ {A B : Type 0} (R : A → B → Type 0) where
  zip_append : (xs : List A) (us : List B) (ys : List A) (vs : List B) → AllZip R xs us → AllZip R ys vs → AllZip R (xs ++ ys) (us ++ vs)
  zip_append [] [] ys vs h k = k
  zip_append [] (u ∷ us) ys vs h k = absurd h
  zip_append (x ∷ xs) [] ys vs h k = absurd h
  zip_append (x ∷ xs) (u ∷ us) ys vs h k = (h.0, zip_append xs us ys vs h.1 k)

  pub zip_reverse : (xs : List A) (us : List B) → AllZip R xs us → AllZip R (reverse xs) (reverse us)
  zip_reverse [] [] h = tt
  zip_reverse [] (u ∷ us) h = absurd h
  zip_reverse (x ∷ xs) [] h = absurd h
  zip_reverse (x ∷ xs) (u ∷ us) h =
      subst (λ l. AllZip R l (reverse (u ∷ us))) (sym (reverse_first x xs))
      (subst (λ l. AllZip R (reverse xs ++ x ∷ []) l) (sym (reverse_first u us))
      (zip_append (reverse xs) (reverse us) (x ∷ []) (u ∷ []) (zip_reverse xs us h.1) (h.0, tt)))

  pub zip_back : (xs : List A) (us : List B) → AllZip R (reverse xs) us → AllZip R xs (reverse us)
  zip_back xs us h = subst (λ l. AllZip R l (reverse us)) (reverse-reverse xs) (zip_reverse (reverse xs) us h)

-- ---- what passes a test

module _ {A : Type 0} (p : A → Bool) where
  pub filter_reverse : (xs : List A) → filter p (reverse xs) ≡ reverse (filter p xs)
  filter_reverse [] = refl
  filter_reverse (x ∷ xs) =
      let passed = filter p xs in
      let last : (b : Bool) → reverse passed ++ cond b (x ∷ []) [] ≡ reverse (cond b (x ∷ passed) passed) =
      λ b. elim b as (λ c. reverse passed ++ cond c (x ∷ []) [] ≡ reverse (cond c (x ∷ passed) passed)) [ true ↦ sym (reverse_first x passed) | false ↦ append-nil (reverse passed) ] in
      ap (filter p) (reverse_first x xs) ∙ filter-append p (reverse xs) (x ∷ []) ∙ ap (λ l. l ++ filter p (x ∷ [])) (filter_reverse xs) ∙ last (p x)

  module _ {B : Type 0} (R : A → B → Type 0) (rows left : List A) (items : List B)
      (read : HasRead R (filter p (reverse rows)) (filter p (reverse left)) items) where
    -- what was read from the end, after what is read of the rest
    pub read_both : (first : List B) → AllZip R (filter p left) first → AllZip R (filter p rows) (first ++ reverse items)
    read_both first z =
        let turned : AllZip R (filter p (reverse left)) (reverse first) = subst (λ l. AllZip R l (reverse first)) (sym (filter_reverse left)) (zip_reverse R (filter p left) first z) in
        let whole : AllZip R (reverse (filter p rows)) (items ++ reverse first) = subst (λ l. AllZip R l (items ++ reverse first)) (filter_reverse rows) (read.more (reverse first) turned) in
        subst (AllZip R (filter p rows)) (reverse-append items (reverse first) ∙ ap (λ l. l ++ reverse items) (reverse-reverse first))
        (zip_back R (filter p rows) (items ++ reverse first) whole)

    -- of what can be read, the rest can be read
    pub read_rest : (all : List B) → AllZip R (filter p rows) all → (first : List B) × AllZip R (filter p left) first
    read_rest all z =
        let it = read.back (reverse all) (subst (λ l. AllZip R l (reverse all)) (sym (filter_reverse rows)) (zip_reverse R (filter p rows) all z)) in
        (reverse it.0, zip_back R (filter p left) it.0 (subst (λ l. AllZip R l it.0) (filter_reverse left) it.1))

  pub never_back : {B : Type 0} (R : A → B → Type 0) (rows : List A) → ((all : List B) → AllZip R (filter p (reverse rows)) all → ⊥) → (all : List B) → AllZip R (filter p rows) all → ⊥
  never_back R rows never all z = never (reverse all) (subst (λ l. AllZip R l (reverse all)) (sym (filter_reverse rows)) (zip_reverse R (filter p rows) all z))
