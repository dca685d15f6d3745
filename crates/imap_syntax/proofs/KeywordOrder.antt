-- Keywords in their order.
use Rattle.std.proofs.Common.{◌≡◌, ◌↔◌, ℕ, zero, suc, ◌+◌, ◌<◌, ◌≤◌, Bool, true, false, cond, not, List, [], ◌∷◌, ◌++◌, append_assoc, length, drop, drop-cons, add-one, get_or, Result, Ok, Err, refl, sym, ap, subst, ◌∙◌, arith}
use Rattle.std.specs.Prelude.{filter}
use Rattle.std.specs.Str.{bytes_eq, str_to_ascii_lowercase, str_eq_ignore_ascii_case}
use Rattle.std.proofs.lemmas.Slice.Eq.{bytes_eq-Decides}
use Rattle.std.specs.List.{insert}
use Rattle.std.specs.BTreeSet.{insert_key}
use Rattle.std.specs.Ordering.{nat_cmp, is_lt, ordering_reverse, match_ordering}
use Rattle.std.specs.List.Sorted.{IsSorted, IsSearchInRange, IsBinarySearchResult, IsPartitionPoint}
use Rattle.std.proofs.lemmas.List.Sorted.{searchable_from_sorted}
use Rattle.std.specs.FinMap.{nat_cmp-IsAntisymmetric, slice_cmp-IsAntisymmetric}
use Rattle.std.specs.Cmp.Lexicographic.{slice_cmp, nat_list_cmp_total}
use Rattle.std.specs.FinMap.Entries.{by_order}
use Rattle.std.specs.declared.cmp.Ordering.{Ordering}
use Rattle.std.specs.declared.cmp.Ordering.TheVariants.{Less, Equal, Greater}
use Rattle.std.proofs.lemmas.Str.Ascii.{lowercase-lowercase}
use Rattle.imap_syntax.specs.Keywords.{IsBefore, AreRising, AreLower, AreAtoms, AreKeywords, without_word, next_place, word_place}
use Rattle.imap_syntax.specs.Atoms.{IsAtom}

abbrev pub cmp : List ℕ → List ℕ → Ordering
cmp = slice_cmp nat_cmp

-- ---- with one more word

before_put : (w k : List ℕ) (ws : List (List ℕ)) → cmp w k ≡ Less → IsBefore w ws → IsBefore w (insert_key cmp ws k)
before_put w k [] lt h = (lt, tt)
before_put w k (v ∷ ws) lt h = by (cmp k v) (before_put w k ws lt h.1)
  where
    by : (o : Ordering) → IsBefore w (insert_key cmp ws k) → IsBefore w (match_ordering o (k ∷ v ∷ ws) (v ∷ ws) (v ∷ insert_key cmp ws k))
    by Less rest = (lt, h)
    by Equal rest = h
    by Greater rest = (h.0, rest)

before_all : (w v : List ℕ) (ws : List (List ℕ)) → cmp w v ≡ Less → IsBefore v ws → IsBefore w ws
before_all w v [] lt h = tt
before_all w v (u ∷ ws) lt h = (nat_list_cmp_total.trans w v u lt h.0, before_all w v ws lt h.1)

turned : (k v : List ℕ) → cmp k v ≡ Greater → cmp v k ≡ Less
turned k v e = nat_list_cmp_total.antisymm v k ∙ ap ordering_reverse e

pub rising_put : (k : List ℕ) (ws : List (List ℕ)) → AreRising ws → AreRising (insert_key cmp ws k)
rising_put k [] h = (tt, tt)
rising_put k (v ∷ ws) h = by (cmp k v) refl (rising_put k ws h.1)
  where
    by : (o : Ordering) → cmp k v ≡ o → AreRising (insert_key cmp ws k) → AreRising (match_ordering o (k ∷ v ∷ ws) (v ∷ ws) (v ∷ insert_key cmp ws k))
    by Less e rest = ((e, before_all k v ws e h.0), h)
    by Equal e rest = h
    by Greater e rest = (before_put v k ws (turned k v e) h.0, rest)

lower_put : (k : List ℕ) (ws : List (List ℕ)) → str_to_ascii_lowercase k ≡ k → AreLower ws → AreLower (insert_key cmp ws k)
lower_put k [] e h = (e, tt)
lower_put k (v ∷ ws) e h = by (cmp k v) (lower_put k ws e h.1)
  where
    by : (o : Ordering) → AreLower (insert_key cmp ws k) → AreLower (match_ordering o (k ∷ v ∷ ws) (v ∷ ws) (v ∷ insert_key cmp ws k))
    by Less rest = (e, h)
    by Equal rest = h
    by Greater rest = (h.0, rest)

lower_twice : (w : List ℕ) → str_to_ascii_lowercase (str_to_ascii_lowercase w) ≡ str_to_ascii_lowercase w
lower_twice [] = refl
lower_twice (c ∷ w) = λ i. lowercase-lowercase c i ∷ lower_twice w i

atoms_put : (k : List ℕ) (ws : List (List ℕ)) → IsAtom k → AreAtoms ws → AreAtoms (insert_key cmp ws k)
atoms_put k [] e h = (e, tt)
atoms_put k (v ∷ ws) e h = by (cmp k v) (atoms_put k ws e h.1)
  where
    by : (o : Ordering) → AreAtoms (insert_key cmp ws k) → AreAtoms (match_ordering o (k ∷ v ∷ ws) (v ∷ ws) (v ∷ insert_key cmp ws k))
    by Less rest = (e, h)
    by Equal rest = h
    by Greater rest = (h.0, rest)

pub words_put : (word : List ℕ) (ws : List (List ℕ)) → IsAtom (str_to_ascii_lowercase word) → AreKeywords ws → AreKeywords (insert_key cmp ws (str_to_ascii_lowercase word))
words_put word ws atom h = record { atoms = atoms_put (str_to_ascii_lowercase word) ws atom h.atoms; rising = rising_put (str_to_ascii_lowercase word) ws h.rising; lower = lower_put (str_to_ascii_lowercase word) ws (lower_twice word) h.lower }

-- ---- with some words fewer

module _ (test : List ℕ → Bool) where
  before_kept : (w : List ℕ) (ws : List (List ℕ)) → IsBefore w ws → IsBefore w (filter test ws)
  before_kept w [] h = tt
  before_kept w (v ∷ ws) h = by (test v) (before_kept w ws h.1)
    where
      by : (b : Bool) → IsBefore w (filter test ws) → IsBefore w (cond b (v ∷ filter test ws) (filter test ws))
      by true rest = (h.0, rest)
      by false rest = rest

  rising_kept : (ws : List (List ℕ)) → AreRising ws → AreRising (filter test ws)
  rising_kept [] h = tt
  rising_kept (v ∷ ws) h = by (test v) (rising_kept ws h.1)
    where
      by : (b : Bool) → AreRising (filter test ws) → AreRising (cond b (v ∷ filter test ws) (filter test ws))
      by true rest = (before_kept v ws h.0, rest)
      by false rest = rest

  lower_kept : (ws : List (List ℕ)) → AreLower ws → AreLower (filter test ws)
  lower_kept [] h = tt
  lower_kept (v ∷ ws) h = by (test v) (lower_kept ws h.1)
    where
      by : (b : Bool) → AreLower (filter test ws) → AreLower (cond b (v ∷ filter test ws) (filter test ws))
      by true rest = (h.0, rest)
      by false rest = rest

  atoms_kept : (ws : List (List ℕ)) → AreAtoms ws → AreAtoms (filter test ws)
  atoms_kept [] h = tt
  atoms_kept (v ∷ ws) h = by (test v) (atoms_kept ws h.1)
    where
      by : (b : Bool) → AreAtoms (filter test ws) → AreAtoms (cond b (v ∷ filter test ws) (filter test ws))
      by true rest = (h.0, rest)
      by false rest = rest

  pub words_kept : (ws : List (List ℕ)) → AreKeywords ws → AreKeywords (filter test ws)
  words_kept ws h = record { atoms = atoms_kept ws h.atoms; rising = rising_kept ws h.rising; lower = lower_kept ws h.lower }

-- ---- the place of a word

pub place_there : (k : List ℕ) (ws : List (List ℕ)) (i : ℕ) → word_place k ws ≡ Ok i → insert_key cmp ws k ≡ ws
place_there k [] i e = absurd (cc e)
place_there k (v ∷ ws) i e = by (cmp k v) (word_place k ws) refl (place_there k ws) e
  where
    by : (o : Ordering) (r : Result ℕ ℕ) → word_place k ws ≡ r → ((j : ℕ) → word_place k ws ≡ Ok j → insert_key cmp ws k ≡ ws) → by_order o (Err 0) (Ok 0) (next_place r) ≡ Ok i
        → match_ordering o (k ∷ v ∷ ws) (v ∷ ws) (v ∷ insert_key cmp ws k) ≡ v ∷ ws
    by Less r f rest e = absurd (cc e)
    by Equal r f rest e = refl
    by Greater (Ok j) f rest e = ap (λ l. v ∷ l) (rest j f)
    by Greater (Err j) f rest e = absurd (cc e)

pub place_for : (k : List ℕ) (ws : List (List ℕ)) (i : ℕ) → word_place k ws ≡ Err i → (i ≤ length ws) × (insert_key cmp ws k ≡ insert ws i k)
place_for k [] i e = let z : 0 ≡ i = cc e in subst (λ i. (i ≤ 0) × (k ∷ [] ≡ insert [] i k)) z (omega arith, refl)
place_for k (v ∷ ws) i e = by (cmp k v) (word_place k ws) refl (place_for k ws) e
  where
    by : (o : Ordering) (r : Result ℕ ℕ) → word_place k ws ≡ r → ((j : ℕ) → word_place k ws ≡ Err j → (j ≤ length ws) × (insert_key cmp ws k ≡ insert ws j k)) → by_order o (Err 0) (Ok 0) (next_place r) ≡ Err i
        → (i ≤ length (v ∷ ws)) × (match_ordering o (k ∷ v ∷ ws) (v ∷ ws) (v ∷ insert_key cmp ws k) ≡ insert (v ∷ ws) i k)
    by Less r f rest e = let z : 0 ≡ i = cc e in subst (λ i. (i ≤ length (v ∷ ws)) × (k ∷ v ∷ ws ≡ insert (v ∷ ws) i k)) z (omega arith, refl)
    by Equal r f rest e = absurd (cc e)
    by Greater (Ok j) f rest e = absurd (cc e)
    by Greater (Err j) f rest e =
        let z : suc j ≡ i = cc e in
        let more = rest j f in
        let within = more.0 in
        subst (λ i. (i ≤ length (v ∷ ws)) × (v ∷ insert_key cmp ws k ≡ insert (v ∷ ws) i k)) z (omega (arith, within), ap (λ l. v ∷ l) more.1)

-- ---- the place by a search

pub rising_sorted : (ws : List (List ℕ)) → AreRising ws → IsSorted cmp ws
rising_sorted [] h k d low high = absurd (omega arith)
rising_sorted (x ∷ []) h k d low high = absurd (omega arith)
rising_sorted (x ∷ y ∷ xs) h zero d low high = ap is_lt (nat_list_cmp_total.antisymm y x ∙ ap ordering_reverse h.0.0)
rising_sorted (x ∷ y ∷ xs) h (suc k) d low high =
    let next : suc k + 1 ≡ suc (k + 1) = omega arith in
    ap (λ j. is_lt (cmp (get_or (x ∷ y ∷ xs) j d) (get_or (y ∷ xs) k d))) next
    ∙ rising_sorted (y ∷ xs) h.1 k d (omega arith) (omega arith)

pub over : (k v : List ℕ) → cmp v k ≡ Less → cmp k v ≡ Greater
over k v e = nat_list_cmp_total.antisymm k v ∙ ap ordering_reverse e

under : (k v : List ℕ) → cmp v k ≡ Greater → cmp k v ≡ Less
under k v e = nat_list_cmp_total.antisymm k v ∙ ap ordering_reverse e

level : (k v : List ℕ) → cmp v k ≡ Equal → cmp k v ≡ Equal
level k v e = nat_list_cmp_total.antisymm k v ∙ ap ordering_reverse e

before_at : (w : List ℕ) (ws : List (List ℕ)) (i : ℕ) (d : List ℕ) → IsBefore w ws → i < length ws → cmp w (get_or ws i d) ≡ Less
before_at w [] i d h lt = absurd (omega arith)
before_at w (v ∷ ws) zero d h lt = h.0
before_at w (v ∷ ws) (suc i) d h lt = before_at w ws i d h.1 (omega arith)

by_answer : (o p : Ordering) (r : Result ℕ ℕ) → o ≡ p → by_order o (Err 0) (Ok 0) (next_place r) ≡ by_order p (Err 0) (Ok 0) (next_place r)
by_answer o p r e = ap (λ o. by_order o (Err 0) (Ok 0) (next_place r)) e

pub same_word : (k v : List ℕ) → cmp v k ≡ Equal → v ≡ k
same_word k v e = slice_cmp-IsAntisymmetric nat_cmp-IsAntisymmetric v k e

place_found : (k : List ℕ) (ws : List (List ℕ)) (i : ℕ) (d : List ℕ) → AreRising ws → i < length ws → cmp (get_or ws i d) k ≡ Equal → word_place k ws ≡ Ok i
place_found k [] i d h lt e = absurd (omega arith)
place_found k (w ∷ ws) zero d h lt e = by_answer (cmp k w) Equal (word_place k ws) (level k w e)
place_found k (w ∷ ws) (suc i) d h lt e =
    let less = ap (cmp w) (sym (same_word k (get_or ws i d) e)) ∙ before_at w ws i d h.0 (omega arith) in
    by_answer (cmp k w) Greater (word_place k ws) (over k w less) ∙ ap next_place (place_found k ws i d h.1 (omega arith) e)

place_missed : (k : List ℕ) (ws : List (List ℕ)) (i : ℕ) → i ≤ length ws → IsPartitionPoint (λ y. cmp y k ≡ Less) (λ y. cmp y k ≡ Greater) ws i → word_place k ws ≡ Err i
place_missed k [] i le at = ap (λ n. Err n) (let z : 0 ≡ i = omega arith in z)
place_missed k (w ∷ ws) zero le at = by_answer (cmp k w) Less (word_place k ws) (under k w (at.1 0 w (omega arith) (omega arith)))
place_missed k (w ∷ ws) (suc i) le at =
    by_answer (cmp k w) Greater (word_place k ws) (over k w (at.0 0 w (omega arith) (omega arith)))
    ∙ ap next_place (place_missed k ws i (omega arith) ((λ j d low high. at.0 (suc j) d (omega arith) (omega arith)), (λ j d low high. at.1 (suc j) d (omega arith) (omega arith))))

pub place_searched : (k : List ℕ) (ws : List (List ℕ)) (r : Result ℕ ℕ) → AreRising ws → IsSearchInRange r (length ws) → IsBinarySearchResult (λ y. cmp y k) ws r → r ≡ word_place k ws
place_searched k ws (Ok i) h bound at = sym (place_found k ws i k h bound (at k))
place_searched k ws (Err i) h bound at = sym (place_missed k ws i bound (at (searchable_from_sorted nat_list_cmp_total (λ y. y) ws k (rising_sorted ws h))))

-- with one more word, at its place
pub words_inserted : (word k : List ℕ) (ws new : List (List ℕ)) (i : ℕ) → word_place (str_to_ascii_lowercase word) ws ≡ Err i → k ≡ str_to_ascii_lowercase word → new ≡ insert ws i k
    → new ≡ insert_key cmp ws (str_to_ascii_lowercase word)
words_inserted word k ws new i at is made = made ∙ ap (insert ws i) is ∙ sym (place_for (str_to_ascii_lowercase word) ws i at).1

-- ---- the words but one, by a loop

others_at : (word : List ℕ) (ws : List (List ℕ)) (i : ℕ) (w : List ℕ) (b : Bool) → i < length ws → w ≡ get_or ws i w → str_eq_ignore_ascii_case w word ≡ b
    → without_word word (drop i ws) ≡ cond (not b) (w ∷ without_word word (drop (i + 1) ws)) (without_word word (drop (i + 1) ws))
others_at word ws i w b h is test =
    ap (without_word word) (drop-cons ws i w h)
    ∙ (λ j. cond (not (str_eq_ignore_ascii_case (sym is j) word)) (sym is j ∷ without_word word (drop (sym (add-one i) j) ws)) (without_word word (drop (sym (add-one i) j) ws)))
    ∙ ap (λ t. cond (not t) (w ∷ without_word word (drop (i + 1) ws)) (without_word word (drop (i + 1) ws))) test

pub other_passed : (word : List ℕ) (ws done whole : List (List ℕ)) (i : ℕ) (w : List ℕ) → i < length ws → w ≡ get_or ws i w → str_eq_ignore_ascii_case w word ≡ true
    → done ++ without_word word (drop i ws) ≡ whole → done ++ without_word word (drop (i + 1) ws) ≡ whole
other_passed word ws done whole i w h is test before = ap (λ l. done ++ l) (sym (others_at word ws i w true h is test)) ∙ before

pub other_copied : (word : List ℕ) (ws done new whole : List (List ℕ)) (i : ℕ) (w : List ℕ) → i < length ws → w ≡ get_or ws i w → str_eq_ignore_ascii_case w word ≡ false
    → new ≡ done ++ w ∷ [] → done ++ without_word word (drop i ws) ≡ whole → new ++ without_word word (drop (i + 1) ws) ≡ whole
other_copied word ws done new whole i w h is test made before =
    ap (λ l. l ++ without_word word (drop (i + 1) ws)) made ∙ append_assoc done (w ∷ []) (without_word word (drop (i + 1) ws))
    ∙ ap (λ l. done ++ l) (sym (others_at word ws i w false h is test)) ∙ before

-- the code's test of two words
pub tested : (r : Bool) (a w word : List ℕ) → ((r ≡ true) ↔ (str_to_ascii_lowercase a ≡ str_to_ascii_lowercase word)) → a ≡ w → str_eq_ignore_ascii_case w word ≡ r
tested r a w word h is =
    ap (λ v. str_eq_ignore_ascii_case v word) (sym is)
    ∙ by (bytes_eq (str_to_ascii_lowercase a) (str_to_ascii_lowercase word)) r
    (bytes_eq-Decides (str_to_ascii_lowercase a) (str_to_ascii_lowercase word)).0 (bytes_eq-Decides (str_to_ascii_lowercase a) (str_to_ascii_lowercase word)).1 h.0 h.1
  where
    by : {P : Type 0} (s r : Bool) → (s ≡ true → P) → (P → s ≡ true) → (r ≡ true → P) → (P → r ≡ true) → s ≡ r
    by true true f g k l = refl
    by true false f g k l = sym (l (f refl))
    by false true f g k l = g (k refl)
    by false false f g k l = refl
