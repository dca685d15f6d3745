-- The order of texts, and lists in this order.
use Rattle.std.proofs.Common.{◌≡◌, ℕ, zero, suc, ◌+◌, ◌<◌, ◌≤◌, Bool, true, false, T, ◌&&◌, List, [], ◌∷◌, length, get_or, map, ltb, refl, sym, ap, ◌∙◌, subst, arith, inl, inr, Ordering, Less, Equal, Greater, Result, Ok, Err}
use Rattle.std.specs.Borrow.{Bor}
use Rattle.std.specs.Prelude.{◌↔◌, ◌⊎◌, is_ok, is_some, bytes_eq, MatchOption, Option, Some}
use Rattle.std.specs.Slice.{IsItemAt}
use Rattle.std.proofs.lemmas.Bool.{ltb-true, ltb-false}
use Rattle.std.specs.List.{AllByRecursion, Contains, IsAllAdjacentAnswer, dedup, list_any}
use Rattle.std.specs.List.Sorted.{IsSearchInRange, IsSorted, IsStrictlySortedBy, IsPermutation, IsBinarySearchResult}
use Rattle.std.specs.Ordering.{eq_by_cmp, is_eq, is_lt, ordering_reverse}
use Rattle.std.specs.Cmp.{eq_by_cmp_equiv}
use Rattle.std.specs.Cmp.Lexicographic.{nat_list_cmp_total, texts_ties}
use Rattle.std.specs.FinMap.{nat_cmp-IsAntisymmetric, slice_cmp-IsAntisymmetric, entries_sorted, contains_key-keys, get-from_entries}
use Rattle.std.specs.FinMap as fin
use Rattle.std.specs.FinMap.Entries.{is_sorted, below_all, is_some-find}
use Rattle.std.proofs.lemmas.Cmp.{tied_itself, nat_list_eq_equiv}
use Rattle.std.proofs.lemmas.Map.Views.{list_any-from_Contains, Contains-from_any}
use Rattle.std.proofs.lemmas.List.Sorted.{Contains-permutation, IsPermutation-sym, searchable_from_sorted}
use Rattle.std.proofs.lemmas.List.Kept.{IsStrictlySortedBy-dedup, Contains-dedup, Contains-from_dedup}
use Rattle.imap_listing.specs.Texts.{Text, text_cmp, entries_of, in_order, has}

pub same_text : (x y : Text) → text_cmp x y ≡ Equal → x ≡ y
same_text = slice_cmp-IsAntisymmetric nat_cmp-IsAntisymmetric

pub equal_itself : (x : Text) → text_cmp x x ≡ Equal
equal_itself x = tied_itself nat_list_cmp_total x

tied : (r : Ordering) → is_eq r ≡ true → r ≡ Equal
tied Less e = cc
tied Equal e = refl
tied Greater e = cc

pub same_texts : (x y : Text) → bytes_eq x y ≡ true → x ≡ y
same_texts x y e = same_text x y (tied (text_cmp x y) (sym (texts_ties x y) ∙ e))

same_tied : (x y : Text) → eq_by_cmp text_cmp x y ≡ true → x ≡ y
same_tied x y e = same_text x y (tied (text_cmp x y) e)

-- ---- what a list has

pub has_contained : (xs : List Text) (x : Text) → Contains xs x → has xs x ≡ true
has_contained xs x c = list_any-from_Contains nat_list_eq_equiv x xs c

pub contained_has : (xs : List Text) (x : Text) → has xs x ≡ true → Contains xs x
contained_has xs x h = Contains-from_any same_texts x xs h

pub same_answer : (a b : Bool) → (a ≡ true → b ≡ true) → (b ≡ true → a ≡ true) → a ≡ b
same_answer true b f g = sym (f refl)
same_answer false true f g = g refl
same_answer false false f g = refl

-- lists with the same elements have the same texts
pub has_same : (xs ys : List Text) → ((n : Text) → Contains xs n ↔ Contains ys n) → (x : Text) → has xs x ≡ has ys x
has_same xs ys same x =
    same_answer (has xs x) (has ys x)
    (λ h. has_contained ys x ((same x).0 (contained_has xs x h))) (λ h. has_contained xs x ((same x).1 (contained_has ys x h)))

-- ---- the list in order

keys_back : (xs : List Text) → map (λ e. e.0) (entries_of xs) ≡ xs
keys_back [] = refl
keys_back (x ∷ xs) = ap (λ z. x ∷ z) (keys_back xs)

in_order_any : (xs : List Text) (x : Text) → list_any (eq_by_cmp text_cmp x) (in_order xs) ≡ list_any (eq_by_cmp text_cmp x) xs
in_order_any xs x =
    sym (contains_key-keys (fin.from_entries {R = text_cmp} (entries_of xs)) x)
    ∙ ap is_some (get-from_entries nat_list_cmp_total (entries_of xs) x)
    ∙ is_some-find text_cmp x (entries_of xs)
    ∙ ap (list_any (eq_by_cmp text_cmp x)) (keys_back xs)

pub in_order_same : (xs : List Text) (x : Text) → Contains (in_order xs) x ↔ Contains xs x
in_order_same xs x = (
  λ c. Contains-from_any same_tied x xs (sym (in_order_any xs x) ∙ list_any-from_Contains (eq_by_cmp_equiv nat_list_cmp_total) x (in_order xs) c),
  λ c. Contains-from_any same_tied x (in_order xs) (in_order_any xs x ∙ list_any-from_Contains (eq_by_cmp_equiv nat_list_cmp_total) x xs c),
)

sure : (b : Bool) → T b → b ≡ true
sure true h = refl
sure false h = absurd h

left_sure : (a b : Bool) → T (a && b) → T a
left_sure true b h = tt
left_sure false b h = h

right_sure : (a b : Bool) → T (a && b) → T b
right_sure true b h = h
right_sure false b h = absurd h

less : (o : Ordering) → T (is_lt o) → o ≡ Less
less Less h = refl
less Equal h = absurd h
less Greater h = absurd h

module _ {K X : Type 0} (R : K → K → Ordering) where
  all_above : (x : K) (es : List (K × X)) → T (below_all R x es) → AllByRecursion (λ y. R x y ≡ Less) (map (λ e. e.0) es)
  all_above x [] h = tt
  all_above x (e ∷ es) h = (less (R x e.0) (left_sure (is_lt (R x e.0)) (below_all R x es) h), all_above x es (right_sure (is_lt (R x e.0)) (below_all R x es) h))

  pub rising_keys : (es : List (K × X)) → T (is_sorted R es) → IsStrictlySortedBy R (map (λ e. e.0) es)
  unfolding IsStrictlySortedBy
  rising_keys [] h = tt
  rising_keys (e ∷ es) h = (all_above e.0 es (left_sure (below_all R e.0 es) (is_sorted R es) h), rising_keys es (right_sure (below_all R e.0 es) (is_sorted R es) h))

pub in_order_rises : (xs : List Text) → IsStrictlySortedBy text_cmp (in_order xs)
in_order_rises xs = let m = fin.from_entries {R = text_cmp} (entries_of xs) in rising_keys text_cmp (fin.entries m) (entries_sorted m)

-- texts of which each is less than the next
lesser : (x y : Text) → true ≡ is_lt (text_cmp x y) → text_cmp x y ≡ Less
lesser x y h = by (text_cmp x y) h
  where
    by : (o : Ordering) → true ≡ is_lt o → o ≡ Less
    by Less h = refl
    by Equal h = cc
    by Greater h = cc

all_greater : (x y : Text) (zs : List Text) → text_cmp x y ≡ Less → AllByRecursion (λ z. text_cmp y z ≡ Less) zs → AllByRecursion (λ z. text_cmp x z ≡ Less) zs
all_greater x y [] lt h = tt
all_greater x y (z ∷ zs) lt h = (nat_list_cmp_total.trans x y z lt h.0, all_greater x y zs lt h.1)

rising_texts : (xs : List Text) → ((k : ℕ) (d : Text) → k + 1 < length xs → true ≡ is_lt (text_cmp (get_or xs k d) (get_or xs (k + 1) d))) → IsStrictlySortedBy text_cmp xs
unfolding IsStrictlySortedBy
rising_texts [] h = tt
rising_texts (x ∷ []) h = (tt, tt)
rising_texts (x ∷ y ∷ ys) h =
    let lt = lesser x y (h 0 x (omega arith)) in
    let rest = rising_texts (y ∷ ys) (λ k d l. later k d (h (suc k) d (omega (arith, l)))) in
    ((lt, all_greater x y ys lt rest.0), rest)
  where
    later : (k : ℕ) (d : Text) → true ≡ is_lt (text_cmp (get_or (y ∷ ys) k d) (get_or (x ∷ y ∷ ys) (suc k + 1) d)) → true ≡ is_lt (text_cmp (get_or (y ∷ ys) k d) (get_or (y ∷ ys) (k + 1) d))
    later k d = let same : suc k + 1 ≡ suc (k + 1) = omega arith in subst (λ j. true ≡ is_lt (text_cmp (get_or (y ∷ ys) k d) (get_or (x ∷ y ∷ ys) j d))) same

pub rising_tested : (xs : List Text) (r : Bool) → IsAllAdjacentAnswer (λ x y b. b ≡ is_lt (text_cmp x y)) xs r → r ≡ true → IsStrictlySortedBy text_cmp xs
rising_tested xs true h e = rising_texts xs h
rising_tested xs false h e = absurd (cc e)

-- ---- lists in order are determined by what they have

pub holds_first : {X : Type 0} (x : X) (xs : List X) → Contains (x ∷ xs) x
holds_first x xs = (0, omega arith, refl)

pub holds_later : {X : Type 0} (x : X) (xs : List X) (n : X) → Contains xs n → Contains (x ∷ xs) n
holds_later x xs n c = (suc c.0, (let l : c.0 < length xs = c.1 in omega arith), c.2)

pub first_or_later : {X : Type 0} (x : X) (xs : List X) (n : X) → Contains (x ∷ xs) n → (x ≡ n) ⊎ Contains xs n
first_or_later x xs n (zero, lt, e) = inl e
first_or_later x xs n (suc k, lt, e) = inr (k, omega arith, e)

pub none_held : {X : Type 0} (n : X) → Contains [] n → ⊥
none_held n c = let l : c.0 < 0 = c.1 in absurd (omega arith)

of_all : (P : Text → Type 0) (xs : List Text) → AllByRecursion P xs → (n : Text) → Contains xs n → P n
of_all P [] h n c = absurd (none_held n c)
of_all P (x ∷ xs) h n c = by (λ d. of_all P xs h.1 n d) (first_or_later x xs n c)
  where
    by : (Contains xs n → P n) → (x ≡ n) ⊎ Contains xs n → P n
    by later (inl e) = subst P e h.0
    by later (inr d) = later d

not_both : (x y : Text) → text_cmp x y ≡ Less → text_cmp y x ≡ Less → ⊥
not_both x y h k =
    let e : Less ≡ Greater = sym h ∙ nat_list_cmp_total.antisymm x y ∙ ap ordering_reverse k in cc

not_itself : (x : Text) → text_cmp x x ≡ Less → ⊥
not_itself x h = let e : Less ≡ Equal = sym h ∙ equal_itself x in cc

pub same_lists : (xs ys : List Text) → IsStrictlySortedBy text_cmp xs → IsStrictlySortedBy text_cmp ys → ((n : Text) → Contains xs n ↔ Contains ys n) → xs ≡ ys
unfolding IsStrictlySortedBy
same_lists [] [] a b h = refl
same_lists [] (y ∷ ys) a b h = absurd (none_held y ((h y).1 (holds_first y ys)))
same_lists (x ∷ xs) [] a b h = absurd (none_held x ((h x).0 (holds_first x xs)))
same_lists (x ∷ xs) (y ∷ ys) a b h =
    let heads : x ≡ y = first (first_or_later y ys x ((h x).0 (holds_first x xs))) (first_or_later x xs y ((h y).1 (holds_first y ys))) in
    let tails : xs ≡ ys = same_lists xs ys a.1 b.1 (λ n. (
      λ c. forth heads n c (first_or_later y ys n ((h n).0 (holds_later x xs n c))),
      λ c. back heads n c (first_or_later x xs n ((h n).1 (holds_later y ys n c))),
    )) in
    cc
  where
    first : (y ≡ x) ⊎ Contains ys x → (x ≡ y) ⊎ Contains xs y → x ≡ y
    first (inl e) k = sym e
    first (inr c) (inl e) = e
    first (inr c) (inr d) = absurd (not_both x y (of_all _ xs a.0 y d) (of_all _ ys b.0 x c))

    forth : x ≡ y → (n : Text) → Contains xs n → (y ≡ n) ⊎ Contains ys n → Contains ys n
    forth same n c (inl e) = absurd (not_itself n (subst (λ (z : Text). text_cmp z n ≡ Less) (same ∙ e) (of_all _ xs a.0 n c)))
    forth same n c (inr d) = d

    back : x ≡ y → (n : Text) → Contains ys n → (x ≡ n) ⊎ Contains xs n → Contains xs n
    back same n c (inl e) = absurd (not_itself n (subst (λ (z : Text). text_cmp z n ≡ Less) (sym same ∙ e) (of_all _ ys b.0 n c)))
    back same n c (inr d) = d

pub is_in_order : (xs ys : List Text) → IsStrictlySortedBy text_cmp ys → ((n : Text) → Contains ys n ↔ Contains xs n) → ys ≡ in_order xs
is_in_order xs ys up same =
    same_lists ys (in_order xs) up (in_order_rises xs)
    (λ n. (λ c. (in_order_same xs n).1 ((same n).0 c), λ c. (same n).1 ((in_order_same xs n).0 c)))

-- what rises is in order already
pub already_in_order : (xs : List Text) → IsStrictlySortedBy text_cmp xs → xs ≡ in_order xs
already_in_order xs up = is_in_order xs xs up (λ n. (λ c. c, λ c. c))

-- lists with the same elements are the same in order
pub same_in_order : (xs ys : List Text) → ((n : Text) → Contains xs n ↔ Contains ys n) → in_order xs ≡ in_order ys
same_in_order xs ys same =
    is_in_order ys (in_order xs) (in_order_rises xs)
    (λ n. (λ c. (same n).0 ((in_order_same xs n).0 c), λ c. (in_order_same xs n).1 ((same n).1 c)))

pub has_in_order : (xs : List Text) (x : Text) → has (in_order xs) x ≡ has xs x
has_in_order xs x = has_same (in_order xs) xs (in_order_same xs) x

-- ---- sort, dedup and binary search

-- what a sort and then a dedup leave
pub sorted_once : (xs ys : List Text) → IsSorted text_cmp ys → IsPermutation xs ys → dedup bytes_eq ys ≡ in_order xs
sorted_once xs ys up p =
    is_in_order xs (dedup bytes_eq ys) (IsStrictlySortedBy-dedup nat_list_cmp_total texts_ties ys up) (λ n. (
      λ c. Contains-permutation ys xs n (IsPermutation-sym xs ys p) (Contains-from_dedup bytes_eq ys n c),
      λ c. Contains-dedup nat_list_eq_equiv same_texts ys n (Contains-permutation xs ys n p c),
    ))

not_found : (xs : List Text) (x : Text) (i : ℕ) → IsSorted text_cmp xs → IsBinarySearchResult (λ y. text_cmp y x) xs (Err i) → ¬ (Contains xs x)
not_found xs x i up h c =
    let at = h (searchable_from_sorted nat_list_cmp_total (λ y. y) xs x up) in
    let here : text_cmp (get_or xs c.0 x) x ≡ Equal = ap (λ z. text_cmp z x) c.2 ∙ equal_itself x in
    let lt : c.0 < length xs = c.1 in
    by here (λ below. at.0 c.0 x (omega arith) below) (λ above. at.1 c.0 x above lt) (ltb c.0 i) refl
  where
    by : text_cmp (get_or xs c.0 x) x ≡ Equal → (c.0 < i → text_cmp (get_or xs c.0 x) x ≡ Less) → (i ≤ c.0 → text_cmp (get_or xs c.0 x) x ≡ Greater) → (b : Bool) → ltb c.0 i ≡ b → ⊥
    by here less greater true e = let l : Equal ≡ Less = sym here ∙ less (ltb-true c.0 i e) in cc
    by here less greater false e = let g : Equal ≡ Greater = sym here ∙ greater (ltb-false c.0 i e) in cc

-- a search in a list in order finds what the list has
pub search_tells : (xs : List Text) (x : Text) (r : Result ℕ ℕ) (b : Bool) → IsSorted text_cmp xs → b ≡ is_ok r → IsSearchInRange r (length xs) → IsBinarySearchResult (λ y. text_cmp y x) xs r → b ≡ has xs x
search_tells xs x (Ok i) b up e bound at = e ∙ sym (has_contained xs x (i, bound, same_text (get_or xs i x) x (at x)))
search_tells xs x (Err i) b up e bound at = same_answer b (has xs x) (λ t. let no_way : true ≡ false = sym t ∙ e in cc) (λ h. absurd (not_found xs x i up at (contained_has xs x h)))

-- what strictly rises is sorted
pub rises_sorted : (xs : List Text) → IsStrictlySortedBy text_cmp xs → IsSorted text_cmp xs
unfolding IsStrictlySortedBy
rises_sorted [] h k d low high = absurd (omega arith)
rises_sorted (x ∷ []) h k d low high = absurd (omega arith)
rises_sorted (x ∷ y ∷ xs) h zero d low high = ap is_lt (nat_list_cmp_total.antisymm y x ∙ ap ordering_reverse h.0.0)
rises_sorted (x ∷ y ∷ xs) h (suc k) d low high =
    let next : suc k + 1 ≡ suc (k + 1) = omega arith in
    ap (λ j. is_lt (text_cmp (get_or (x ∷ y ∷ xs) j d) (get_or (y ∷ xs) k d))) next
    ∙ rises_sorted (y ∷ xs) h.1 k d (omega arith) (omega arith)

-- what stands at a place is one of them
pub item_is_there : (xs : List Text) (name : Text) (k : ℕ) (r : Option (Bor Text)) (item : Bor Text) → r ≡ Some item → IsItemAt xs k r → bytes_eq item.now name ≡ true → has xs name ≡ true
item_is_there xs name k r item is at same =
    let stands : (k < length xs) × ((d : Text) → item.now ≡ get_or xs k d) =
    subst (λ o. MatchOption o (length xs ≤ k) (λ (x : Bor Text). (k < length xs) × ((d : Text) → x.now ≡ get_or xs k d))) is at.3 in
    has_contained xs name (k, stands.0, sym (stands.1 name) ∙ same_texts item.now name same)
