-- Names that are asked for, and the places of the fields that have one of them.
use Rattle.std.proofs.Common.{◌≡◌, ◌∙◌, ap, sym, refl, subst, ℕ, ◌+◌, ◌<◌, List, [], ◌∷◌, ◌++◌, map, Bool, true, false, cond, ◌||◌, ◌&&◌, arith, Option, Some, None}
use Rattle.std.specs.Prelude.{nat_eq, nat_lt}
use Rattle.std.specs.Char.{to_ascii_lowercase}
use Rattle.std.specs.List.{AllByRecursion, list_any, dedup, dedup_from}
use Rattle.std.specs.List.Sorted.{IsSorted, IsPermutation, IsStrictlySortedBy}
use Rattle.std.specs.Ordering.{nat_cmp, is_eq, eq_by_cmp, match_ordering}
use Rattle.std.specs.declared.cmp.Ordering.{Ordering}
use Rattle.std.specs.declared.cmp.Ordering.TheVariants.{Less, Equal, Greater}
use Rattle.std.specs.Cmp.Lexicographic.{slice_cmp}
use Rattle.std.specs.BTreeSet.{BTreeSet, insert_key}
use Rattle.std.specs.declared.vec.Vec.{Vec}
use Rattle.std.proofs.lemmas.Bool.Decides.{nat_tests}
use Rattle.std.proofs.lemmas.Cmp.{nat_cmp_total}
use Rattle.std.proofs.lemmas.List.Folds.{list_any-append}
use Rattle.std.proofs.lemmas.List.Kept.{IsStrictlySortedBy-dedup}
use Rattle.std.proofs.lemmas.List.Sorted.{list_any-IsPermutation}
use Rattle.std.proofs.lemmas.Map.Lookups.{btree_set_from_contains, exact_unsigned}
use Rattle.std.specs.Option.{option_map_or}
use Rattle.std.specs.Str.{str_eq_ignore_ascii_case}
use Rattle.imap_text.specs.Fields.{HeaderField, field_name, is_among, is_named, is_chosen, header_fields}
use Rattle.imap_text.specs.Places.{FieldPlaces, has_place, is_place_of_any, places_of, places_from, places_named}
use Rattle.imap_text.proofs.PlacesByName.{equal-is}

or_twice : (a b : Bool) → a || b ≡ a || (a || b)
or_twice true b = refl
or_twice false b = refl

or_swap : (a b c : Bool) → a || (b || c) ≡ b || (a || c)
or_swap true true c = refl
or_swap true false c = refl
or_swap false true c = refl
or_swap false false c = refl

or_moved : (a b c : Bool) → (a || b) || c ≡ b || (a || c)
or_moved true true c = refl
or_moved true false c = refl
or_moved false true c = refl
or_moved false false c = refl

or_assoc : (a b c : Bool) → (a || b) || c ≡ a || (b || c)
or_assoc true b c = refl
or_assoc false b c = refl

pub or_false : (a : Bool) → a || false ≡ a
or_false true = refl
or_false false = refl

-- ---- the names

module _ {Z : Type 0} where
  any-insert_key : (test : List ℕ → Bool) (ks : List (Vec ℕ Z)) (k : Vec ℕ Z)
      → list_any (λ n. test n.items) (insert_key (λ (p q : Vec ℕ Z). slice_cmp nat_cmp p.items q.items) ks k) ≡ test k.items || list_any (λ n. test n.items) ks
  any-insert_key test [] k = refl
  any-insert_key test (x ∷ xs) k = by (slice_cmp nat_cmp k.items x.items) refl (any-insert_key test xs k)
    where
      by : (o : Ordering) → slice_cmp nat_cmp k.items x.items ≡ o
          → list_any (λ n. test n.items) (insert_key (λ (p q : Vec ℕ Z). slice_cmp nat_cmp p.items q.items) xs k) ≡ test k.items || list_any (λ n. test n.items) xs
          → list_any (λ n. test n.items) (match_ordering o (k ∷ x ∷ xs) (x ∷ xs) (x ∷ insert_key (λ (p q : Vec ℕ Z). slice_cmp nat_cmp p.items q.items) xs k))
          ≡ test k.items || (test x.items || list_any (λ n. test n.items) xs)
      by Less same ih = refl
      by Equal same ih =
          let one : k.items ≡ x.items = equal-is k.items x.items (ap is_eq same) in
          or_twice (test x.items) (list_any (λ n. test n.items) xs) ∙ ap (λ (n : List ℕ). test n || (test x.items || list_any (λ n. test n.items) xs)) (sym one)
      by Greater same ih = ap (λ (b : Bool). test x.items || b) ih ∙ or_swap (test x.items) (test k.items) (list_any (λ n. test n.items) xs)

  -- the names up to the next one are among those that are kept
  abbrev pub AreAsked : (asked : List (Vec ℕ Z)) (left all : List (List ℕ)) → Type 0
  AreAsked asked left all = (test : List ℕ → Bool) →
      list_any (λ name. test name.items) asked || list_any (λ name. test (map to_ascii_lowercase name)) left
      ≡ list_any (λ name. test (map to_ascii_lowercase name)) all

  pub AreAsked-more : (asked more : List (Vec ℕ Z)) (key : Vec ℕ Z) (name : List ℕ) (left later all : List (List ℕ)) → left ≡ name ∷ later → key.items ≡ map to_ascii_lowercase name
      → more ≡ insert_key (λ (p q : Vec ℕ Z). slice_cmp nat_cmp p.items q.items) asked key → AreAsked asked left all → AreAsked more later all
  AreAsked-more asked more key name left later all is low put so_far test =
      let rest = list_any (λ name. test (map to_ascii_lowercase name)) later in
      ap (λ (ks : List (Vec ℕ Z)). list_any (λ name. test name.items) ks || rest) put
      ∙ ap (λ (b : Bool). b || rest) (any-insert_key test asked key)
      ∙ or_moved (test key.items) (list_any (λ name. test name.items) asked) rest
      ∙ ap (λ (n : List ℕ). list_any (λ name. test name.items) asked || (test n || rest)) low
      ∙ ap (λ (l : List (List ℕ)). list_any (λ name. test name.items) asked || list_any (λ name. test (map to_ascii_lowercase name)) l) (sym is)
      ∙ so_far test

  -- ---- the places of the names

  abbrev pub has_any : FieldPlaces → ℕ → List (Vec ℕ Z) → Bool
  has_any named place names = list_any (λ name. has_place (places_of named name.items) place) names

  abbrev pub AreGathered : FieldPlaces → (places : List ℕ) (left all : List (Vec ℕ Z)) → Type 0
  AreGathered named places left all = (place : ℕ) → has_place places place || has_any named place left ≡ has_any named place all

  pub AreGathered-more : (named : FieldPlaces) (places more : List ℕ) (name : Vec ℕ Z) (left later all : List (Vec ℕ Z)) → left ≡ name ∷ later → more ≡ places ++ places_of named name.items
      → AreGathered named places left all → AreGathered named more later all
  AreGathered-more named places more name left later all is put so_far place =
      ap (λ (l : List ℕ). has_place l place || has_any named place later) put
      ∙ ap (λ (b : Bool). b || has_any named place later) (list_any-append (nat_eq place) places (places_of named name.items))
      ∙ or_assoc (has_place places place) (has_place (places_of named name.items) place) (has_any named place later)
      ∙ ap (λ (l : List (Vec ℕ Z)). has_place places place || has_any named place l) (sym is)
      ∙ so_far place

  pub gathered_all : (named : FieldPlaces) (places : List ℕ) (left all : List (Vec ℕ Z)) (names : List (List ℕ)) → left ≡ [] → AreGathered named places left all
      → ((test : List ℕ → Bool) → list_any (λ name. test name.items) all ≡ list_any (λ name. test (map to_ascii_lowercase name)) names)
      → (place : ℕ) → has_place places place ≡ is_place_of_any named names place
  gathered_all named places left all names none so_far asked place =
      sym (or_false (has_place places place))
      ∙ ap (λ (l : List (Vec ℕ Z)). has_place places place || has_any named place l) (sym none)
      ∙ so_far place
      ∙ asked (λ name. has_place (places_of named name) place)

-- ---- in order, each once

any-dedup_from : (test : ℕ → Bool) (k : ℕ) (xs : List ℕ) → list_any test (dedup_from nat_eq k xs) ≡ test k || list_any test xs
any-dedup_from test k [] = refl
any-dedup_from test k (x ∷ xs) = by (nat_eq x k) refl (any-dedup_from test k xs) (any-dedup_from test x xs)
  where
    by : (same : Bool) → nat_eq x k ≡ same → list_any test (dedup_from nat_eq k xs) ≡ test k || list_any test xs → list_any test (dedup_from nat_eq x xs) ≡ test x || list_any test xs
        → list_any test (cond same (dedup_from nat_eq k xs) (k ∷ dedup_from nat_eq x xs)) ≡ test k || (test x || list_any test xs)
    by true e a b =
        let one : x ≡ k = grind (arith, nat_tests) in
        a ∙ or_twice (test k) (list_any test xs) ∙ ap (λ (n : ℕ). test k || (test n || list_any test xs)) (sym one)
    by false e a b = ap (λ (c : Bool). test k || c) b

any-dedup : (test : ℕ → Bool) (xs : List ℕ) → list_any test (dedup nat_eq xs) ≡ list_any test xs
any-dedup test [] = refl
any-dedup test (x ∷ xs) = any-dedup_from test x xs

ties : (x y : ℕ) → nat_eq x y ≡ eq_by_cmp nat_cmp x y
ties x y = by (nat_lt x y) refl
  where
    by : (less : Bool) → nat_lt x y ≡ less → nat_eq x y ≡ is_eq (cond less Less (cond (nat_eq x y) Equal Greater))
    by true e = grind (arith, nat_tests)
    by false e = last (nat_eq x y)
      where
        last : (same : Bool) → same ≡ is_eq (cond same Equal Greater)
        last true = refl
        last false = refl

pub in_order_once : (sorted once : List ℕ) → IsSorted nat_cmp sorted → once ≡ dedup nat_eq sorted → IsStrictlySortedBy nat_cmp once
in_order_once sorted once up is = subst (IsStrictlySortedBy nat_cmp) (sym is) (IsStrictlySortedBy-dedup nat_cmp_total ties sorted up)

pub same_places : (places sorted once : List ℕ) → IsPermutation places sorted → once ≡ dedup nat_eq sorted → (place : ℕ) → has_place once place ≡ has_place places place
same_places places sorted once moved is place =
    ap (λ (l : List ℕ). has_place l place) is ∙ any-dedup (nat_eq place) sorted ∙ sym (list_any-IsPermutation (nat_eq place) places sorted moved)

any_same : (place : ℕ) (xs : List ℕ) → list_any (λ x. is_eq (nat_cmp place x)) xs ≡ has_place xs place
any_same place [] = refl
any_same place (x ∷ xs) = ap (λ (b : Bool). b || list_any (λ x. is_eq (nat_cmp place x)) xs) (sym (ties place x)) ∙ ap (λ (b : Bool). nat_eq place x || b) (any_same place xs)

-- lists in order are the same if they have the same places
pub same_in_order : (xs ys : List ℕ) → IsStrictlySortedBy nat_cmp xs → IsStrictlySortedBy nat_cmp ys → ((place : ℕ) → has_place xs place ≡ has_place ys place) → xs ≡ ys
same_in_order xs ys a b same =
    let s : BTreeSet ℕ = record { keys = xs } in
    let t : BTreeSet ℕ = record { keys = ys } in
    btree_set_from_contains nat_cmp_total s t a b (λ place. any_same place xs ∙ same place ∙ sym (any_same place ys)) exact_unsigned

-- ---- the places of the fields that have one of the names

module _ {X : Type 0} where
  later_places : (test : X → Bool) (k : ℕ) (xs : List X) (n : ℕ) → n < k → AllByRecursion (λ p. nat_cmp n p ≡ Less) (places_from test k xs)
  later_places test k [] n h = tt
  later_places test k (x ∷ xs) n h = by (test x) (later_places test (k + 1) xs n (omega (arith, h)))
    where
      less : nat_cmp n k ≡ Less
      less = let lt : nat_lt n k ≡ true = grind (arith, nat_tests) in rw lt refl

      by : (is : Bool) → AllByRecursion (λ p. nat_cmp n p ≡ Less) (places_from test (k + 1) xs) → AllByRecursion (λ p. nat_cmp n p ≡ Less) (cond is (k ∷ places_from test (k + 1) xs) (places_from test (k + 1) xs))
      by true rest = (less, rest)
      by false rest = rest

  pub rising_places : (test : X → Bool) (k : ℕ) (xs : List X) → IsStrictlySortedBy nat_cmp (places_from test k xs)
  unfolding IsStrictlySortedBy
  rising_places test k [] = tt
  rising_places test k (x ∷ xs) = by (test x) (later_places test (k + 1) xs k (omega arith)) (rising_places test (k + 1) xs)
    where
      by : (is : Bool) → AllByRecursion (λ p. nat_cmp k p ≡ Less) (places_from test (k + 1) xs) → IsStrictlySortedBy nat_cmp (places_from test (k + 1) xs) → IsStrictlySortedBy nat_cmp (cond is (k ∷ places_from test (k + 1) xs) (places_from test (k + 1) xs))
      by true a b = (a, b)
      by false a b = b

has_place-next : (is : Bool) (k : ℕ) (later : List ℕ) (place : ℕ) → has_place (cond is (k ∷ later) later) place ≡ (is && nat_eq place k) || has_place later place
has_place-next true k later place = refl
has_place-next false k later place = refl

-- what holds of one of the names or of another
any_either : {X : Type 0} (p q : X → Bool) (xs : List X) → list_any (λ x. p x || q x) xs ≡ list_any p xs || list_any q xs
any_either p q [] = refl
any_either p q (x ∷ xs) = ap (λ (b : Bool). (p x || q x) || b) (any_either p q xs) ∙ shuffle (p x) (q x) (list_any p xs) (list_any q xs)
  where
    shuffle : (a b c d : Bool) → (a || b) || (c || d) ≡ (a || c) || (b || d)
    shuffle true b c d = refl
    shuffle false true true d = refl
    shuffle false true false d = refl
    shuffle false false c d = refl

any_both : {X : Type 0} (p : X → Bool) (b : Bool) (xs : List X) → list_any (λ x. p x && b) xs ≡ list_any p xs && b
any_both p b [] = refl
any_both p b (x ∷ xs) = ap (λ (c : Bool). (p x && b) || c) (any_both p b xs) ∙ shuffle (p x) b (list_any p xs)
  where
    shuffle : (a b c : Bool) → (a && b) || (c && b) ≡ (a || c) && b
    shuffle true true c = refl
    shuffle true false true = refl
    shuffle true false false = refl
    shuffle false b c = refl

any_none : {X : Type 0} (xs : List X) → list_any (λ (x : X). false) xs ≡ false
any_none [] = refl
any_none (x ∷ xs) = any_none xs

any_alike : {X : Type 0} (p q : X → Bool) (xs : List X) → ((x : X) → p x ≡ q x) → list_any p xs ≡ list_any q xs
any_alike p q [] same = refl
any_alike p q (x ∷ xs) same = ap (λ (b : Bool). b || list_any p xs) (same x) ∙ ap (λ (b : Bool). q x || b) (any_alike p q xs same)

any_named : (names : List (List ℕ)) (line : List ℕ) → list_any (λ name. is_named (name ∷ []) line) names ≡ is_named names line
any_named names line = by (field_name line)
  where
    by : (name : Option (List ℕ)) → list_any (λ asked. option_map_or (is_among (asked ∷ [])) name false) names ≡ option_map_or (is_among names) name false
    by None = any_none names
    by (Some name) =
        any_alike (λ asked. is_among (asked ∷ []) name) (λ asked. str_eq_ignore_ascii_case asked name) names (λ asked. or_false (str_eq_ignore_ascii_case asked name))

any_place : (names : List (List ℕ)) (k : ℕ) (fs : List HeaderField) (place : ℕ)
    → list_any (λ name. has_place (places_from (is_chosen (name ∷ []) false) k fs) place) names ≡ has_place (places_from (is_chosen names false) k fs) place
any_place names k [] place = any_none names
any_place names k (f ∷ fs) place =
    let here : List ℕ → Bool = λ name. is_named (name ∷ []) f.first && nat_eq place k in
    let later : List ℕ → Bool = λ name. has_place (places_from (is_chosen (name ∷ []) false) (k + 1) fs) place in
    any_alike (λ name. has_place (places_from (is_chosen (name ∷ []) false) k (f ∷ fs)) place) (λ name. here name || later name) names
    (λ name. has_place-next (is_named (name ∷ []) f.first) k (places_from (is_chosen (name ∷ []) false) (k + 1) fs) place)
    ∙ any_either here later names
    ∙ ap (λ (b : Bool). b || list_any later names) (any_both (λ name. is_named (name ∷ []) f.first) (nat_eq place k) names)
    ∙ ap (λ (b : Bool). (b && nat_eq place k) || list_any later names) (any_named names f.first)
    ∙ ap (λ (b : Bool). (is_named names f.first && nat_eq place k) || b) (any_place names (k + 1) fs place)
    ∙ sym (has_place-next (is_named names f.first) k (places_from (is_chosen names false) (k + 1) fs) place)

pub places_are : (names : List (List ℕ)) (message : List ℕ) (named : FieldPlaces) (places : List ℕ) → IsStrictlySortedBy nat_cmp places
    → ((place : ℕ) → has_place places place ≡ is_place_of_any named names place)
    → ((name : List ℕ) → places_of named (map to_ascii_lowercase name) ≡ places_named (name ∷ []) message) → places ≡ places_named names message
places_are names message named places up has index =
    same_in_order places (places_named names message) up (rising_places (is_chosen names false) 0 (header_fields message))
    (λ place. has place
    ∙ any_alike (λ name. has_place (places_of named (map to_ascii_lowercase name)) place) (λ name. has_place (places_named (name ∷ []) message) place) names
    (λ name. ap (λ (l : List ℕ). has_place l place) (index name))
    ∙ any_place names 0 (header_fields message) place)
