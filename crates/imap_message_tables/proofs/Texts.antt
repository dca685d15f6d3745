-- Words in their order, and tests of it.
use Rattle.std.proofs.Common.{◌≡◌, ◌⊎◌, inl, inr, ℕ, zero, suc, ◌+◌, ◌-◌, ◌<◌, ◌≤◌, Bool, true, false, List, [], ◌∷◌, map, take, length, get_or, not, IsTrue, ◌==◌, Ordering, Less, Equal, Greater, is_lt, is_eq, arith, refl, sym, ap, subst, ◌∙◌, true≢false}
use Rattle.std.specs.Prelude.{bytes_eq}
use Rattle.std.specs.List.{AllByRecursion, IsDistinct, list_any}
use Rattle.std.proofs.lemmas.Bool.{not-true}
use Rattle.std.proofs.lemmas.Bool.Decides.{Decides-eqb}
use Rattle.sqlite_rules.proofs.ListLemmas.{some_from, some_has}
use Rattle.std.specs.List.Sorted.{IsPermutation, IsSortedBy}
use Rattle.std.specs.Cmp.Lexicographic.{nat_list_cmp_total, slice_cmp}
use Rattle.std.specs.Ordering.{nat_cmp, ordering_reverse}
use Rattle.std.proofs.lemmas.Bool.{cases_Bool, both_ways}
use Rattle.std.proofs.lemmas.List.Sorted.{IsPermutation-sym, IsPermutation-trans, ranks_by, sorted_far}
use Rattle.std.proofs.lemmas.Map.Keys.{IsDistinct-IsPermutation}
use Rattle.std.proofs.lemmas.Map.Text.{is_eq-slice_cmp}
use Rattle.std.proofs.lemmas.Slice.Eq.{bytes_eq-Decides}
use Rattle.sqlite_rules.specs.Lists.{Has}
use Rattle.imap_message_tables.specs.Joining.{AreWordsOf}
use Rattle.imap_message_tables.specs.Split.{AreRising, AreWords, IsBefore, IsPlain}
use Rattle.imap_message_tables.proofs.Ordered.{all_at, all_from, has_permuted}
use Rattle.imap_message_tables.proofs.Words.{before_has}

-- none of those behind it is less
abbrev pub AreWeak : List (List ℕ) → Type 0
AreWeak [] = Unit {0}
AreWeak (x ∷ xs) = ((y : List ℕ) → Has xs y → is_lt (slice_cmp nat_cmp y x) ≡ false) × AreWeak xs

module _ {X : Type 0} (f : X → List ℕ) where
  abbrev lower : X → X → Bool
  lower x y = is_lt (slice_cmp nat_cmp (f x) (f y))

  behind : (xs : List X) (y : List ℕ) → Has (map f xs) y → (i : ℕ) × (i < length xs) × ((d : X) → f (get_or xs i d) ≡ y)
  behind [] y h = absurd h
  behind (x ∷ xs) y (inl e) = (0, omega arith, λ d. sym e)
  behind (x ∷ xs) y (inr h) = let (i, low, is) = behind xs y h in (suc i, omega (arith, low), is)

  pub weak_from : (xs : List X) → IsSortedBy lower xs → AreWeak (map f xs)
  weak_from [] sorted = tt
  weak_from (x ∷ xs) sorted = (
    λ y h. let (i, low, is) = behind xs y h in
        subst (λ z. is_lt (slice_cmp nat_cmp z (f x)) ≡ false) (is x) (sorted_far lower (ranks_by nat_list_cmp_total f) (x ∷ xs) sorted 0 (suc i) x (omega arith) (omega (arith, low))),
    weak_from xs (λ k d low high. let e : suc k + 1 ≡ suc (k + 1) = omega arith in
        subst (λ n. lower (get_or (x ∷ xs) n d) (get_or (x ∷ xs) (suc k) d) ≡ false) e (sorted (suc k) d (omega arith) (omega (arith, high)))),
  )

  -- ---- one more word rises

  before_more : (w : List ℕ) (xs : List X) (j : ℕ) (d : X) → suc j < length xs → IsBefore w (map f (take (suc j) xs)) → slice_cmp nat_cmp (f (get_or xs j d)) (f (get_or xs (suc j) d)) ≡ Less → IsBefore w (map f (take (suc (suc j)) xs))
  before_more w [] j d low h e = absurd (omega (arith, low))
  before_more w (x ∷ []) j d low h e = absurd (omega (arith, low))
  before_more w (x ∷ y ∷ xs) zero d low h e = (h.0, (nat_list_cmp_total.trans w (f x) (f y) h.0 e, tt))
  before_more w (x ∷ y ∷ xs) (suc j) d low h e = (h.0, before_more w (y ∷ xs) j d (omega (arith, low)) h.1 e)

  rising_next : (xs : List X) (j : ℕ) (d : X) → suc j < length xs → AreRising (map f (take (suc j) xs)) → slice_cmp nat_cmp (f (get_or xs j d)) (f (get_or xs (suc j) d)) ≡ Less → AreRising (map f (take (suc (suc j)) xs))
  rising_next [] j d low h e = absurd (omega (arith, low))
  rising_next (x ∷ []) j d low h e = absurd (omega (arith, low))
  rising_next (x ∷ y ∷ xs) zero d low h e = ((e, tt), (tt, tt))
  rising_next (x ∷ y ∷ xs) (suc j) d low h e = (before_more (f x) (y ∷ xs) j d (omega (arith, low)) h.0 e, rising_next (y ∷ xs) j d (omega (arith, low)) h.1 e)

  pub rising_more : (xs : List X) (i : ℕ) (d : X) → 1 ≤ i → i < length xs → AreRising (map f (take i xs)) → slice_cmp nat_cmp (f (get_or xs (i - 1) d)) (f (get_or xs i d)) ≡ Less → AreRising (map f (take (i + 1) xs))
  rising_more xs zero d least low h e = absurd (omega (arith, least))
  rising_more xs (suc j) d least low h e =
      let same : suc j - 1 ≡ j = omega arith in
      let more : suc j + 1 ≡ suc (suc j) = omega arith in
      subst (λ n. AreRising (map f (take n xs))) (sym more) (rising_next xs j d low h (subst (λ n. slice_cmp nat_cmp (f (get_or xs n d)) (f (get_or xs (suc j) d)) ≡ Less) same e))

  pub rising_at : (xs : List X) (i : ℕ) (d : X) → 1 ≤ i → i < length xs → AreRising (map f xs) → slice_cmp nat_cmp (f (get_or xs (i - 1) d)) (f (get_or xs i d)) ≡ Less
  rising_at xs zero d least low h = absurd (omega (arith, least))
  rising_at xs (suc j) d least low h =
      let same : suc j - 1 ≡ j = omega arith in
      subst (λ n. slice_cmp nat_cmp (f (get_or xs n d)) (f (get_or xs (suc j) d)) ≡ Less) (sym same) (by xs j low h)
    where
      by : (xs : List X) (j : ℕ) → suc j < length xs → AreRising (map f xs) → slice_cmp nat_cmp (f (get_or xs j d)) (f (get_or xs (suc j) d)) ≡ Less
      by [] j low h = absurd (omega (arith, low))
      by (x ∷ []) j low h = absurd (omega (arith, low))
      by (x ∷ y ∷ xs) zero low h = h.0.0
      by (x ∷ y ∷ xs) (suc j) low h = by (y ∷ xs) j (omega (arith, low)) h.1

  -- ---- all of them

  pub all_more : (P : List ℕ → Type 0) (xs : List X) (i : ℕ) (d : X) → i < length xs → AllByRecursion P (map f (take i xs)) → P (f (get_or xs i d)) → AllByRecursion P (map f (take (i + 1) xs))
  all_more P xs i d low h p = let e : i + 1 ≡ suc i = omega arith in subst (λ n. AllByRecursion P (map f (take n xs))) (sym e) (by xs i low h p)
    where
      by : (xs : List X) (i : ℕ) → i < length xs → AllByRecursion P (map f (take i xs)) → P (f (get_or xs i d)) → AllByRecursion P (map f (take (suc i) xs))
      by [] i low h p = absurd (omega (arith, low))
      by (x ∷ xs) zero low h p = (p, tt)
      by (x ∷ xs) (suc i) low h p = (h.0, by xs i (omega (arith, low)) h.1 p)

  pub all_it : (P : List ℕ → Type 0) (xs : List X) (i : ℕ) (d : X) → i < length xs → AllByRecursion P (map f xs) → P (f (get_or xs i d))
  all_it P [] i d low h = absurd (omega (arith, low))
  all_it P (x ∷ xs) zero d low h = h.0
  all_it P (x ∷ xs) (suc i) d low h = all_it P xs i d (omega (arith, low)) h.1

-- ---- words that are sorted rise, if they differ

text_flips : (a b : List ℕ) → bytes_eq a b ≡ bytes_eq b a
text_flips a b = by (cases_Bool (bytes_eq a b)) (cases_Bool (bytes_eq b a))
  where
    by : (bytes_eq a b ≡ true) ⊎ (bytes_eq a b ≡ false) → (bytes_eq b a ≡ true) ⊎ (bytes_eq b a ≡ false) → bytes_eq a b ≡ bytes_eq b a
    by (inl e) (inl f) = e ∙ sym f
    by (inr e) (inr f) = e ∙ sym f
    by (inl e) (inr f) = absurd (both_ways _ f ((bytes_eq-Decides b a).1 (sym ((bytes_eq-Decides a b).0 e))))
    by (inr e) (inl f) = absurd (both_ways _ e ((bytes_eq-Decides a b).1 (sym ((bytes_eq-Decides b a).0 f))))

distinct_rising : (ws : List (List ℕ)) → AreRising ws → IsDistinct bytes_eq ws
unfolding IsDistinct
distinct_rising [] h = tt
distinct_rising (w ∷ ws) h = (all_from (λ v. bytes_eq w v ≡ false) ws (λ v there. differ v (before_has w ws v h.0 there)), distinct_rising ws h.1)
  where
    differ : (v : List ℕ) → slice_cmp nat_cmp w v ≡ Less → bytes_eq w v ≡ false
    differ v e = sym (is_eq-slice_cmp w v) ∙ ap is_eq e

weak_rises : (ws : List (List ℕ)) → AreWeak ws → IsDistinct bytes_eq ws → AreRising ws
unfolding IsDistinct
weak_rises [] weak h = tt
weak_rises (w ∷ ws) weak h = (before ws (λ v there. less v (weak.0 v there) (all_at (λ x. bytes_eq w x ≡ false) ws h.0 v there)), weak_rises ws weak.1 h.1)
  where
    less : (v : List ℕ) → is_lt (slice_cmp nat_cmp v w) ≡ false → bytes_eq w v ≡ false → slice_cmp nat_cmp w v ≡ Less
    less v off differs = by (slice_cmp nat_cmp w v) refl
      where
        by : (o : Ordering) → slice_cmp nat_cmp w v ≡ o → slice_cmp nat_cmp w v ≡ Less
        by Less e = e
        by Equal e = absurd (true≢false (sym (ap is_eq e) ∙ is_eq-slice_cmp w v ∙ differs))
        by Greater e = absurd (true≢false (sym (ap is_lt (nat_list_cmp_total.antisymm v w ∙ ap ordering_reverse e)) ∙ off))

    before : (vs : List (List ℕ)) → ((v : List ℕ) → Has vs v → slice_cmp nat_cmp w v ≡ Less) → IsBefore w vs
    before [] k = tt
    before (v ∷ vs) k = (k v (inl refl), before vs (λ x there. k x (inr there)))

-- what is sorted of the same words is in their order
pub sorted_words : (own sorted ts : List (List ℕ)) → IsPermutation own sorted → AreWeak sorted → AreWordsOf own ts → AreWords sorted
sorted_words own sorted ts moved weak are =
    let same : IsPermutation ts sorted = IsPermutation-trans ts own sorted (IsPermutation-sym own ts are.same) moved in
    record {
      rising = weak_rises sorted weak (IsDistinct-IsPermutation bytes_eq text_flips ts sorted same (distinct_rising ts are.are.rising));
      plain = all_from IsPlain sorted (λ w there. all_at IsPlain ts are.are.plain w (has_permuted ts sorted w same there));
    }

-- ---- no space

pub plain_by : (word : List ℕ) (spaced : Bool) → 0 < length word → spaced ≡ list_any (λ y. y == 32) word → (IsTrue (not spaced) → IsPlain word) × (IsPlain word → IsTrue (not spaced))
plain_by word spaced filled is = (
  λ h. record {
    filled = λ e. omega (arith, filled, ap length e);
    spaceless = λ there. both_ways _ (not-true spaced h) (is ∙ some_from (λ y. y == 32) word 32 there refl);
  },
  λ p. by (cases_Bool spaced) p,
)
  where
    by : (spaced ≡ true) ⊎ (spaced ≡ false) → IsPlain word → IsTrue (not spaced)
    by (inl e) p =
        let f = some_has (λ y. y == 32) word (sym is ∙ e) in
        absurd (p.spaceless (subst (Has word) ((Decides-eqb f.0 32).0 f.2) f.1))
    by (inr e) p = ap not e

pub not_plain : (word : List ℕ) → (0 < length word → ⊥) → IsPlain word → ⊥
not_plain [] h p = p.filled refl
not_plain (x ∷ xs) h p = h (omega arith)

pub same_item : {X : Type 0} (xs : List X) (i : ℕ) (d e : X) → i < length xs → get_or xs i d ≡ get_or xs i e
same_item [] i d e low = absurd (omega (arith, low))
same_item (x ∷ xs) zero d e low = refl
same_item (x ∷ xs) (suc i) d e low = same_item xs i d e (omega (arith, low))
