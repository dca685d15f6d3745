-- Rows in another order.
use Rattle.std.proofs.Common.{◌≡◌, ◌≢◌, ◌⊎◌, inl, inr, ℕ, suc, ◌+◌, ◌<◌, Bool, true, false, List, [], ◌∷◌, filter, map, length, get_or, Ordering, Less, Equal, Greater, is_lt, is_eq, string_bytes, arith, refl, sym, ap, subst, ◌∙◌, true≢false}
use Rattle.std.specs.List.{AllByRecursion, AllZip, IsDistinct}
use Rattle.std.specs.List.Sorted.{IsPermutation, IsSortedBy, IsSortedByKey}
use Rattle.std.specs.Cmp.{IsStrictWeakOrder}
use Rattle.std.specs.Fn.{Called, ComparesAs}
use denote.Ref.{Bor}
use denote.Param.Members.{Mut}
use Rattle.std.specs.Ordering.{ordering_reverse}
use Rattle.std.proofs.lemmas.Bool.{cases_Bool}
use Rattle.std.proofs.lemmas.Fn.{always_returns_same}
use Rattle.std.proofs.lemmas.List.Sorted.{IsPermutation-map, IsPermutation-sym, IsPermutation-trans, Contains-permutation, ranks_by, sorted_far}
use Rattle.std.proofs.lemmas.Map.Keys.{IsDistinct-IsPermutation}
use Rattle.sqlite_trees.proofs.ListLemmas.{IsPermutation-filter}
use Rattle.sqlite_rules.specs.Lists.{Has}
use Rattle.sqlite_rules.proofs.ListLemmas.{contains_had, has_contained}
use Rattle.imap_message_tables.specs.Joining.{AreApart, AreJoined, AreWordsOf, Fit, IsMessageOf, Key, body_key, head_key, is_at, key_cmp, texts}
use Rattle.imap_tables.specs.declared.message_rows.StoredBody.{StoredBody}
use Rattle.imap_tables.specs.declared.message_rows.StoredHead.{StoredHead}
use Rattle.imap_message_tables.specs.declared.joined.JoinedMessage.{JoinedMessage}
use Rattle.imap_tables.specs.declared.message_rows.StoredKeyword.{StoredKeyword}
use Rattle.imap_message_tables.specs.Up.{AreUp, IsLow}
use Rattle.std.proofs.Common.{Result, Ok, Err, Option, Some, None, Vec, IfOk, IfNone, IfSome, MatchOption, rules}
use Rattle.std.specs.Global.{Global}
use Rattle.imap_message_tables.specs.Taking.{Zips}
use Rattle.imap_message_tables.proofs.Zips.{fits_from, key_itself, key_same, key_total}

-- ---- a list in order, by recursion

pub has_index : {X : Type 0} (xs : List X) (x : X) → Has xs x → (i : ℕ) × (i < length xs) × ((d : X) → get_or xs i d ≡ x)
has_index [] x h = absurd h
has_index (y ∷ ys) x (inl e) = (0, omega arith, λ d. sym e)
has_index (y ∷ ys) x (inr h) = let (i, low, is) = has_index ys x h in (suc i, omega (arith, low), is)

module _ {X : Type 0} (key : X → Key) where
  abbrev less : X → X → Bool
  less x y = is_lt (key_cmp (key x) (key y))

  pub up_from : (xs : List X) → IsSortedByKey key key_cmp xs → AreUp key xs
  up_from [] sorted = tt
  up_from (x ∷ xs) sorted = (
    λ y h. let (i, low, is) = has_index xs y h in
        subst (λ z. IsLow (key x) (key z)) (is x) (sorted_far less (ranks_by key_total key) (x ∷ xs) sorted 0 (suc i) x (omega arith) (omega (arith, low))),
    up_from xs (λ k d low high. let e : suc k + 1 ≡ suc (k + 1) = omega arith in
        subst (λ n. less (get_or (x ∷ xs) n d) (get_or (x ∷ xs) (suc k) d) ≡ false) e (sorted (suc k) d (omega arith) (omega (arith, high)))),
  )

  answers : {F : Type 0} (g : Mut F (Bor X × (Bor X × Unit {0})) Ordering) (f : F)
      → ((a : Bor X × (Bor X × Unit {0})) (r : Ordering) (f' : F) → Called g f a r f' → (r ≡ key_cmp (key a.0.now) (key a.1.0.now)) × (f' ≡ f)) → ComparesAs g less f
  answers g f h = always_returns_same g (λ a r. is_lt r ≡ is_lt (key_cmp (key a.0.now) (key a.1.0.now))) f (λ a r f' k. (ap is_lt (h a r f' k).0, (h a r f' k).1))

  pub sorted_by : {F : Type 0} {g : Mut F (Bor X × (Bor X × Unit {0})) Ordering} {f : F} (xs : List X)
      → ((lt : X → X → Bool) → IsStrictWeakOrder lt → ComparesAs g lt f → IsSortedBy lt xs)
      → ((a : Bor X × (Bor X × Unit {0})) (r : Ordering) (f' : F) → Called g f a r f' → (r ≡ key_cmp (key a.0.now) (key a.1.0.now)) × (f' ≡ f)) → IsSortedByKey key key_cmp xs
  sorted_by {g = g} {f = f} xs up h = up less (ranks_by key_total key) (answers g f h)

-- ---- another order of the rows

abbrev key_eq : Key → Key → Bool
key_eq a b = is_eq (key_cmp a b)

key_flips : (a b : Key) → key_eq a b ≡ key_eq b a
key_flips a b = ap is_eq (key_total.antisymm a b) ∙ even (key_cmp b a)
  where
    even : (r : Ordering) → is_eq (ordering_reverse r) ≡ is_eq r
    even Less = refl
    even Equal = refl
    even Greater = refl

pub equal_of : (o : Ordering) → is_eq o ≡ true → o ≡ Equal
equal_of Less h = absurd (cc h)
equal_of Equal h = refl
equal_of Greater h = absurd (cc h)

pub all_from : {X : Type 0} (P : X → Type 0) (xs : List X) → ((x : X) → Has xs x → P x) → AllByRecursion P xs
all_from P [] h = tt
all_from P (x ∷ xs) h = (h x (inl refl), all_from P xs (λ y there. h y (inr there)))

pub all_at : {X : Type 0} (P : X → Type 0) (xs : List X) → AllByRecursion P xs → (x : X) → Has xs x → P x
all_at P [] all x h = absurd h
all_at P (y ∷ ys) all x (inl e) = subst P (sym e) all.0
all_at P (y ∷ ys) all x (inr h) = all_at P ys all.1 x h

module _ {X : Type 0} (key : X → Key) where
  mapped : (P : Key → Type 0) (xs : List X) → ((x : X) → Has xs x → P (key x)) → AllByRecursion P (map key xs)
  mapped P [] h = tt
  mapped P (x ∷ xs) h = (h x (inl refl), mapped P xs (λ y there. h y (inr there)))

  unmapped : (P : Key → Type 0) (xs : List X) → AllByRecursion P (map key xs) → (x : X) → Has xs x → P (key x)
  unmapped P [] all x h = absurd h
  unmapped P (y ∷ ys) all x (inl e) = subst (λ z. P (key z)) (sym e) all.0
  unmapped P (y ∷ ys) all x (inr h) = unmapped P ys all.1 x h

  distinct_from : (xs : List X) → AreApart key xs → IsDistinct key_eq (map key xs)
  unfolding IsDistinct
  distinct_from [] h = tt
  distinct_from (x ∷ xs) h = (mapped (λ k. key_eq (key x) k ≡ false) xs (λ y there. differ y (h.0 y there)), distinct_from xs h.1)
    where
      differ : (y : X) → key y ≢ key x → key_eq (key x) (key y) ≡ false
      differ y off = by (cases_Bool (key_eq (key x) (key y)))
        where
          by : (key_eq (key x) (key y) ≡ true) ⊎ (key_eq (key x) (key y) ≡ false) → key_eq (key x) (key y) ≡ false
          by (inl e) = absurd (off (sym (key_same (key x) (key y) (equal_of (key_cmp (key x) (key y)) e))))
          by (inr e) = e

  from_distinct : (xs : List X) → IsDistinct key_eq (map key xs) → AreApart key xs
  unfolding IsDistinct
  from_distinct [] h = tt
  from_distinct (x ∷ xs) h = (
    λ y there same. true≢false (sym (ap is_eq (subst (λ k. key_cmp (key x) k ≡ Equal) (sym same) (key_itself (key x)))) ∙ unmapped (λ k. key_eq (key x) k ≡ false) xs h.0 y there),
    from_distinct xs h.1,
  )

  pub apart_moved : (xs ys : List X) → IsPermutation xs ys → AreApart key xs → AreApart key ys
  apart_moved xs ys same h = from_distinct ys (IsDistinct-IsPermutation key_eq key_flips (map key xs) (map key ys) (IsPermutation-map key xs ys same) (distinct_from xs h))

pub has_permuted : {X : Type 0} (xs ys : List X) (x : X) → IsPermutation xs ys → Has ys x → Has xs x
has_permuted xs ys x same h = has_contained xs x (Contains-permutation ys xs x (IsPermutation-sym xs ys same) (contains_had ys x h))

-- the words of a key
own_moved : (ws vs : List StoredKeyword) → IsPermutation ws vs → (k : Key) → IsPermutation (texts (filter (is_at k) ws)) (texts (filter (is_at k) vs))
own_moved ws vs same k = IsPermutation-map (λ (w : StoredKeyword). string_bytes w.word) (filter (is_at k) ws) (filter (is_at k) vs) (IsPermutation-filter (is_at k) ws vs same)

words_moved : (ws vs : List StoredKeyword) → IsPermutation ws vs → (k : Key) (ts : List (List ℕ)) → AreWordsOf (texts (filter (is_at k) ws)) ts → AreWordsOf (texts (filter (is_at k) vs)) ts
words_moved ws vs same k ts h = record {
  are = h.are;
  same = IsPermutation-trans (texts (filter (is_at k) vs)) (texts (filter (is_at k) ws)) ts (IsPermutation-sym _ _ (own_moved ws vs same k)) h.same;
}

module _ (hs gs : List StoredHead) (bs cs : List StoredBody) (ws vs : List StoredKeyword) (heads : IsPermutation hs gs) (bodies : IsPermutation bs cs) (words : IsPermutation ws vs) where
  head_back : (h : StoredHead) → Has gs h → Has hs h
  head_back h there = has_permuted hs gs h heads there

  head_on : (h : StoredHead) → Has hs h → Has gs h
  head_on h there = has_permuted gs hs h (IsPermutation-sym hs gs heads) there

  body_back : (b : StoredBody) → Has cs b → Has bs b
  body_back b there = has_permuted bs cs b bodies there

  body_on : (b : StoredBody) → Has bs b → Has cs b
  body_on b there = has_permuted cs bs b (IsPermutation-sym bs cs bodies) there

  pub fit_moved : Fit hs bs ws → Fit gs cs vs
  fit_moved fit = record {
    heads_apart = apart_moved head_key hs gs heads fit.heads_apart;
    bodies_apart = apart_moved body_key bs cs bodies fit.bodies_apart;
    has_body = λ h there. let (b, has, e) = fit.has_body h (head_back h there) in (b, body_on b has, e);
    has_head = λ b there. let (h, has, e) = fit.has_head b (body_back b there) in (h, head_on h has, e);
    has_owner = λ w there. let (h, has, e) = fit.has_owner w (has_permuted ws vs w words there) in (h, head_on h has, e);
    has_words = λ h there. let (ts, are) = fit.has_words h (head_back h there) in (ts, words_moved ws vs words (head_key h) ts are);
  }

  pub message_back : (h : StoredHead) (m : JoinedMessage) → IsMessageOf gs cs vs h m → IsMessageOf hs bs ws h m
  message_back h m is = record {
    head = is.head;
    body = is.body;
    there = body_back is.body is.there;
    at = is.at;
    octets = is.octets;
    own = words_moved vs ws (IsPermutation-sym ws vs words) (head_key h) (map string_bytes m.words.items) is.own;
  }

  pub joined_back : (ms : List JoinedMessage) → AllZip (IsMessageOf gs cs vs) gs ms → AreJoined hs bs ws ms
  joined_back ms each = record { order = gs; same = heads; each = each_back gs ms each }
    where
      each_back : (l : List StoredHead) (ms : List JoinedMessage) → AllZip (IsMessageOf gs cs vs) l ms → AllZip (IsMessageOf hs bs ws) l ms
      each_back [] [] all = all
      each_back [] (m ∷ ms) all = all
      each_back (h ∷ l) [] all = all
      each_back (h ∷ l) (m ∷ ms) all = (message_back h m all.0, each_back l ms all.1)

-- ---- what is said of rows in order, of the same rows in any order

module _ (hs gs : List StoredHead) (bs cs : List StoredBody) (ws vs : List StoredKeyword) (heads : IsPermutation hs gs) (bodies : IsPermutation bs cs) (words : IsPermutation ws vs) where
  pub unfit_back : (Fit gs cs vs → ⊥) → Fit hs bs ws → ⊥
  unfit_back off fit = off (fit_moved hs gs bs cs ws vs heads bodies words fit)

  pub fit_back : (ms : List JoinedMessage) → Zips gs cs vs ms → Fit hs bs ws × AreJoined hs bs ws ms
  fit_back ms z =
      let f = fits_from gs cs vs ms z in
      (fit_moved gs hs cs bs vs ws (IsPermutation-sym hs gs heads) (IsPermutation-sym bs cs bodies) (IsPermutation-sym ws vs words) f.0, joined_back hs gs bs cs ws vs heads bodies words ms f.1)

  pub unfit_answer : {E : Type 0} (r : Result (Option (Vec JoinedMessage Global)) E) → IfOk r (λ joined. MatchOption joined (Fit gs cs vs → ⊥) (λ ms. Zips gs cs vs ms.items)) → IfOk r (λ joined. IfNone joined (Fit hs bs ws → ⊥))
  unfit_answer (Ok None) h = search (rules, unfit_back h)
  unfit_answer (Ok (Some ms)) h = search rules
  unfit_answer (Err e) h = search rules

  pub fit_answer : {E : Type 0} (r : Result (Option (Vec JoinedMessage Global)) E) → IfOk r (λ joined. MatchOption joined (Fit gs cs vs → ⊥) (λ ms. Zips gs cs vs ms.items)) → IfOk r (λ joined. IfSome joined (λ ms. Fit hs bs ws × AreJoined hs bs ws ms.items))
  fit_answer (Ok None) h = search rules
  fit_answer (Ok (Some ms)) h = fit_back ms.items h
  fit_answer (Err e) h = search rules
