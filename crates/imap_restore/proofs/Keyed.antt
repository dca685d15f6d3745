-- Lists of items that are known by their keys.
use Rattle.std.proofs.Common.{◌≡◌, ◌≢◌, ◌+◌, ◌≤◌, inl, inr, ℕ, Bool, true, false, ℤ, Ordering, Less, Equal, Greater, is_lt, is_eq, arith, List, [], ◌∷◌, ◌++◌, cond, filter, map as map_list, IsPermutation, refl, sym, ap, subst, ◌∙◌}
use Rattle.std.specs.List.{AllZip, IsDistinct}
use Rattle.std.specs.FinMap as map
use Rattle.std.specs.FinMap.{FinMap, entries_sorted}
use Rattle.std.specs.FinMap.Entries.{below_all, is_sorted}
use Rattle.std.specs.Ordering.{eq_by_cmp, int_cmp, int_eq}
use Rattle.std.proofs.lemmas.List.Sorted.{IsPermutation-append_comm, IsPermutation-cons, IsPermutation-refl, IsPermutation-trans}
use Rattle.sqlite_rules.specs.Lists.{Has}
use Rattle.sqlite_rules.proofs.ListLemmas.{has_filtered}
use Rattle.sqlite_rules.proofs.ProbeLemmas.{has_mapped}
use Rattle.imap_mailbox.specs.Summary.{Rises}
use Rattle.std.specs.Prelude.{T}
use Rattle.std.proofs.lemmas.Bool.{and_parts, both_ways}
use Rattle.std.proofs.lemmas.Bool.Decides.{Decides-int_eq}
use Rattle.imap_restore.proofs.Listed.{differs}
use Rattle.imap_restore.proofs.Matching.{Match, zip_match}

-- no two have one key
abbrev pub Apart : {X K : Type 0} → (X → K) → List X → Type 0
Apart f [] = Unit {0}
Apart f (x ∷ xs) = ((y : _) → Has xs y → f x ≢ f y) × Apart f xs

-- one of the items, and the others
pub record Picked {X K : Type 0} (f : X → K) (xs : List X) (x : X) : Type 0 where
  pub rest : List X
  pub moved : IsPermutation xs (x ∷ rest)
  pub within : (y : X) → Has rest y → Has xs y
  pub others : (y : X) → Has xs y → f y ≢ f x → Has rest y
  pub apart : Apart f rest
  pub differ : (y : X) → Has rest y → f x ≢ f y

-- the first two change places
two_moved : {X : Type 0} (x y : X) (xs : List X) → IsPermutation (x ∷ y ∷ xs) (y ∷ x ∷ xs)
two_moved x y xs =
    IsPermutation-trans (x ∷ y ∷ xs) (y ∷ (xs ++ x ∷ [])) (y ∷ x ∷ xs) (IsPermutation-append_comm (x ∷ []) (y ∷ xs))
    (IsPermutation-cons y (xs ++ x ∷ []) (x ∷ xs) (IsPermutation-append_comm xs (x ∷ [])))

pub pick : {X K : Type 0} (f : X → K) (xs : List X) (x : X) → Apart f xs → Has xs x → Picked f xs x
pick f [] x a h = absurd h
pick f (z ∷ xs) x a (inl is) = record {
  rest = xs;
  moved = subst (λ w. IsPermutation (z ∷ xs) (w ∷ xs)) (sym is) (IsPermutation-refl (z ∷ xs));
  within = λ y h. inr h;
  others = λ y h no. elim h [ inl e ↦ absurd (no (ap f (e ∙ sym is))) | inr t ↦ t ];
  apart = a.1;
  differ = λ y h e. a.0 y h (ap f (sym is) ∙ e);
}
pick f (z ∷ xs) x a (inr h) =
    let p = pick f xs x a.1 h in
    record {
      rest = z ∷ p.rest;
      moved = IsPermutation-trans (z ∷ xs) (z ∷ x ∷ p.rest) (x ∷ z ∷ p.rest) (IsPermutation-cons z xs (x ∷ p.rest) p.moved) (two_moved z x p.rest);
      within = λ y k. elim k [ inl e ↦ inl e | inr t ↦ inr (p.within y t) ];
      others = λ y k no. elim k [ inl e ↦ inl e | inr t ↦ inr (p.others y t no) ];
      apart = (λ y k. a.0 y (p.within y k), p.apart);
      differ = λ y k e. elim k [ inl q ↦ a.0 x h (ap f (sym q) ∙ sym e) | inr t ↦ p.differ y t e ];
    }

-- items that match are matched one by one, in some order
pub reorder : {A B K : Type 0} (R : A → B → Type 0) (f : A → K) (g : B → K) → ((x : A) (y : B) → R x y → f x ≡ g y) → (ys : List B) (xs : List A) → Apart f xs → Apart g ys → Match R xs ys
    → (ordered : List A) × IsPermutation xs ordered × AllZip R ordered ys
reorder R f g same [] [] a b m = ([], IsPermutation-refl [], tt)
reorder R f g same [] (x ∷ xs) a b m = absurd ((m.to x (inl refl)).1)
reorder {A} {B} R f g same (y ∷ ys) xs a b m =
    let it = m.from y (inl refl) in
    let p = pick f xs it.0 a it.1 in
    let others : Match R p.rest ys = record {
      to = λ z h.
          let w = m.to z (p.within z h) in
          elim w.1 [ inl e ↦ absurd (p.differ z h (same it.0 y it.2 ∙ ap g (sym e) ∙ sym (same z w.0 w.2))) | inr t ↦ (w.0, t, w.2) ];
      from = λ z h.
          let w = m.from z (inr h) in
          (w.0, p.others w.0 w.1 (λ e. b.0 z h (sym (same it.0 y it.2) ∙ sym e ∙ same w.0 z w.2)), w.2);
    } in
    let rest = reorder R f g same ys p.rest p.apart b.1 others in
    (it.0 ∷ rest.0, IsPermutation-trans xs (it.0 ∷ p.rest) (it.0 ∷ rest.0) p.moved (IsPermutation-cons it.0 p.rest rest.0 rest.1), (it.2, rest.2))

same_zip : {A : Type 0} (xs ys : List A) → AllZip (λ x y. x ≡ y) xs ys → xs ≡ ys
same_zip [] [] h = refl
same_zip [] (y ∷ ys) h = absurd h
same_zip (x ∷ xs) [] h = absurd h
same_zip (x ∷ xs) (y ∷ ys) h = λ i. h.0 i ∷ same_zip xs ys h.1 i

-- the same items, each once
pub same_items : {A K : Type 0} (f : A → K) (xs ys : List A) → Apart f xs → Apart f ys → ((x : A) → Has xs x → Has ys x) → ((x : A) → Has ys x → Has xs x) → IsPermutation xs ys
same_items f xs ys a b to from =
    let r = reorder (λ x y. x ≡ y) f f (λ x y e. ap f e) ys xs a b (record { to = λ x h. (x, to x h, refl); from = λ y h. (y, from y h, refl) }) in
    subst (IsPermutation xs) (same_zip r.0 ys r.2) r.1

-- ---- where keys differ

pub apart_by : {X K : Type 0} (f : X → K) (id : X → ℤ) (xs : List X) → IsDistinct (eq_by_cmp int_cmp) (map_list id xs) → ((x y : X) → Has xs x → Has xs y → f x ≡ f y → id x ≡ id y) → Apart f xs
unfolding IsDistinct
apart_by f id [] d one = tt
apart_by f id (x ∷ xs) d one = (λ y h e. differs id x xs y d.0 h (one x y (inl refl) (inr h) e), apart_by f id xs d.1 (λ y z hy hz. one y z (inr hy) (inr hz)))

pub apart_filtered : {X K : Type 0} (f : X → K) (p : X → Bool) (xs : List X) → Apart f xs → Apart f (filter p xs)
apart_filtered f p [] a = tt
apart_filtered {X} f p (x ∷ xs) a = go (p x) (apart_filtered f p xs a.1)
  where
    go : (b : Bool) → Apart f (filter p xs) → Apart f (cond b (x ∷ filter p xs) (filter p xs))
    go true rest = (λ y h. a.0 y (has_filtered p xs y h).0, rest)
    go false rest = rest

pub zip_apart : {A B K : Type 0} (R : A → B → Type 0) (f : A → K) (g : B → K) → ((x : A) (y : B) → R x y → f x ≡ g y) → (xs : List A) (ys : List B) → AllZip R xs ys → Apart f xs → Apart g ys
zip_apart R f g same [] [] h a = tt
zip_apart R f g same [] (y ∷ ys) h a = absurd h
zip_apart R f g same (x ∷ xs) [] h a = absurd h
zip_apart R f g same (x ∷ xs) (y ∷ ys) h a = (
  λ z k e. let w = (zip_match R xs ys h.1).from z k in a.0 w.0 w.1 (same x y h.0 ∙ e ∙ sym (same w.0 z w.2)),
  zip_apart R f g same xs ys h.1 a.1,
)

-- each item has one
pub zip_all : {A B : Type 0} (R : A → B → Type 0) (xs : List A) → ((x : A) → Has xs x → (y : B) × R x y) → (ys : List B) × AllZip R xs ys
zip_all R [] each = ([], tt)
zip_all R (x ∷ xs) each =
    let y = each x (inl refl) in
    let rest = zip_all R xs (λ z h. each z (inr h)) in
    (y.0 ∷ rest.0, (y.1, rest.1))

pub apart_mapped : {X Y K : Type 0} (k : X → Y) (g : Y → K) (xs : List X) → Apart (λ x. g (k x)) xs → Apart g (map_list k xs)
apart_mapped k g [] a = tt
apart_mapped k g (x ∷ xs) a = (λ y h e. let it = has_mapped k xs y h in a.0 it.0 it.1 (e ∙ ap g it.2), apart_mapped k g xs a.1)

-- what tells items apart does so of what it is made of
pub apart_from : {X K L : Type 0} (f : X → K) (h : K → L) (xs : List X) → Apart (λ x. h (f x)) xs → Apart f xs
apart_from f h [] a = tt
apart_from f h (x ∷ xs) a = (λ y k e. a.0 y k (ap h e), apart_from f h xs a.1)

apart_fixed : {X A B : Type 0} (p : X → A) (q : X → B) (c : A) (xs : List X) → ((x : X) → Has xs x → p x ≡ c) → Apart {K = A × B} (λ x. (p x, q x)) xs → Apart q xs
apart_fixed p q c [] all a = tt
apart_fixed p q c (x ∷ xs) all a = (λ y h e. a.0 y h (λ i. ((all x (inl refl) ∙ sym (all y (inr h))) i, e i)), apart_fixed p q c xs (λ y h. all y (inr h)) a.1)

-- those of one mailbox
pub below_apart : {X B : Type 0} (mailbox : X → ℤ) (q : X → B) (id : X → ℤ) (xs : List X) (i : ℤ) → IsDistinct (eq_by_cmp int_cmp) (map_list id xs)
    → ((x y : X) → Has xs x → Has xs y → mailbox x ≡ mailbox y → q x ≡ q y → id x ≡ id y) → Apart q (filter (λ x. int_eq (mailbox x) i) xs)
below_apart {X} {B} mailbox q id xs i d one =
    let both : X → ℤ × B = λ x. (mailbox x, q x) in
    apart_fixed mailbox q i (filter (λ x. int_eq (mailbox x) i) xs) (λ x h. (Decides-int_eq (mailbox x) i).0 (has_filtered (λ y. int_eq (mailbox y) i) xs x h).1)
    (apart_filtered both (λ x. int_eq (mailbox x) i) xs (apart_by both id xs d (λ x y hx hy e. one x y hx hy (ap (λ (t : ℤ × B). t.0) e) (ap (λ (t : ℤ × B). t.1) e))))

-- ---- by another key

pub one_by_key : {X K : Type 0} (f : X → K) (xs : List X) (x y : X) → Apart f xs → Has xs x → Has xs y → f x ≡ f y → x ≡ y
one_by_key f [] x y a hx hy e = absurd hx
one_by_key f (z ∷ xs) x y a (inl p) (inl q) e = p ∙ sym q
one_by_key f (z ∷ xs) x y a (inl p) (inr q) e = absurd (a.0 y q (ap f (sym p) ∙ e))
one_by_key f (z ∷ xs) x y a (inr p) (inl q) e = absurd (a.0 x p (ap f (sym q) ∙ sym e))
one_by_key f (z ∷ xs) x y a (inr p) (inr q) e = one_by_key f xs x y a.1 p q e

apart_via : {X K L : Type 0} (f : X → K) (g : X → L) (xs ys : List X) → Apart f xs → Apart g ys → ((x : X) → Has xs x → Has ys x) → Apart g xs
apart_via f g [] ys a b to = tt
apart_via f g (x ∷ xs) ys a b to = (λ y h e. a.0 y h (ap f (one_by_key g ys x y b (to x (inl refl)) (to y (inr h)) e)), apart_via f g xs ys a.1 b (λ y h. to y (inr h)))

pub same_sets : {X K L : Type 0} (f : X → K) (g : X → L) (xs ys : List X) → Apart f xs → Apart g ys → ((x : X) → Has xs x → Has ys x) → ((x : X) → Has ys x → Has xs x) → IsPermutation xs ys
same_sets f g xs ys a b to from = same_items g xs ys (apart_via f g xs ys a b to) b to from

-- ---- where keys rise

rises_above : {X : Type 0} (f : X → ℕ) (xs : List X) (low high : ℕ) → Rises low high (map_list f xs) → (x : X) → Has xs x → low ≤ f x
rises_above f [] low high h x none = absurd none
rises_above f (y ∷ xs) low high h x (inl is) = subst (λ z. low ≤ f z) (sym is) h.0
rises_above f (y ∷ xs) low high h x (inr there) = let above = rises_above f xs (f y + 1) high h.1 x there in let here = h.0 in omega (arith, above, here)

pub rises_apart : {X : Type 0} (f : X → ℕ) (xs : List X) (low high : ℕ) → Rises low high (map_list f xs) → Apart f xs
rises_apart f [] low high h = tt
rises_apart f (x ∷ xs) low high h = (λ y k e. let above = rises_above f xs (f x + 1) high h.1 y k in omega (arith, above, e), rises_apart f xs (f x + 1) high h.1)

apart_if_less : (r : Ordering) → is_lt r ≡ true → is_eq r ≡ false
apart_if_less Less h = refl
apart_if_less Equal h = absurd (cc h)
apart_if_less Greater h = refl

is_true : (b : Bool) → T b → b ≡ true
is_true true t = refl
is_true false t = absurd t

module _ {K X : Type 0} (R : K → K → Ordering) (itself : (k : K) → eq_by_cmp R k k ≡ true) where
  below_differs : (q : K) (es : List (K × X)) → below_all R q es ≡ true → (e : K × X) → Has es e → q ≢ e.0
  below_differs q [] h e none same = absurd none
  below_differs q (d ∷ es) h e (inl is) same =
      both_ways _ (apart_if_less (R q d.0) (and_parts _ _ h).0) (subst (λ k. eq_by_cmp R q k ≡ true) (same ∙ ap (λ (t : K × X). t.0) is) (itself q))
  below_differs q (d ∷ es) h e (inr there) same = below_differs q es (and_parts _ _ h).1 e there same

  sorted_apart : (es : List (K × X)) → is_sorted R es ≡ true → Apart (λ (e : K × X). e.0) es
  sorted_apart [] h = tt
  sorted_apart (e ∷ es) h = (λ y k. below_differs e.0 es (and_parts _ _ h).0 y k, sorted_apart es (and_parts (below_all R e.0 es) _ h).1)

  pub entries_apart : (m : FinMap R X) → Apart (λ (e : K × X). e.0) (map.entries m)
  entries_apart m = sorted_apart (map.entries m) (is_true _ (entries_sorted m))
