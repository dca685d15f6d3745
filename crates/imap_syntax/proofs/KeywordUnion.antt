-- Two sets of keywords as one.
use Rattle.std.proofs.Common.{◌≡◌, ℕ, zero, suc, ◌+◌, ◌<◌, List, [], ◌∷◌, ◌++◌, append_assoc, length, take, drop, drop-cons, add-one, get_or, Result, Ok, Err, refl, sym, ap, subst, ◌∙◌, arith}
use Rattle.std.specs.BTreeSet.{insert_key}
use Rattle.std.specs.Ordering.{match_ordering}
use Rattle.std.specs.Str.{str_to_ascii_lowercase}
use Rattle.std.specs.Cmp.Lexicographic.{nat_list_cmp_total}
use Rattle.std.specs.declared.cmp.Ordering.{Ordering}
use Rattle.std.specs.declared.cmp.Ordering.TheVariants.{Less, Equal, Greater}
use Rattle.std.specs.FinMap.Entries.{by_order}
use Rattle.imap_syntax.specs.Atoms.{IsAtom}
use Rattle.imap_syntax.specs.Keywords.{with_word, with_words, next_place, word_place, IsBefore, AreRising, AreLower, AreKeywords}
use Rattle.imap_syntax.proofs.KeywordOrder.{cmp, over, same_word, rising_put, words_put, place_there}

rising_back : (front : List (List ℕ)) (o : List ℕ) (after : List (List ℕ)) → AreRising (front ++ o ∷ after) → AreRising after
rising_back [] o after h = h.1
rising_back (f ∷ front) o after h = rising_back front o after h.1

before_in : (f : List ℕ) (front : List (List ℕ)) (o : List ℕ) (after : List (List ℕ)) → IsBefore f (front ++ o ∷ after) → cmp f o ≡ Less
before_in f [] o after h = h.0
before_in f (g ∷ front) o after h = before_in f front o after h.1

-- a word after o is put after it
insert_past : (front : List (List ℕ)) (o k : List ℕ) (after : List (List ℕ)) → AreRising (front ++ o ∷ after) → cmp o k ≡ Less → insert_key cmp (front ++ o ∷ after) k ≡ front ++ o ∷ insert_key cmp after k
insert_past [] o k after h less = ap (λ r. match_ordering r (k ∷ o ∷ after) (o ∷ after) (o ∷ insert_key cmp after k)) (over k o less)
insert_past (f ∷ front) o k after h less =
    let far = nat_list_cmp_total.trans f o k (before_in f front o after h.0) less in
    ap (λ r. match_ordering r (k ∷ f ∷ front ++ o ∷ after) (f ∷ front ++ o ∷ after) (f ∷ insert_key cmp (front ++ o ∷ after) k)) (over k f far)
    ∙ ap (λ l. f ∷ l) (insert_past front o k after h.1 less)

put_lower : (k : List ℕ) (ws : List (List ℕ)) → str_to_ascii_lowercase k ≡ k → with_word k ws ≡ insert_key cmp ws k
put_lower k ws e = ap (insert_key cmp ws) e

over_all : (o : List ℕ) (os front after : List (List ℕ)) → AreLower os → IsBefore o os → AreRising (front ++ o ∷ after) → with_words os (front ++ o ∷ after) ≡ front ++ o ∷ with_words os after
over_all o [] front after lower h rising = refl
over_all o (k ∷ os) front after lower h rising =
    let past : with_word k (front ++ o ∷ after) ≡ front ++ o ∷ with_word k after = put_lower k (front ++ o ∷ after) lower.0 ∙ insert_past front o k after rising h.0 ∙ ap (λ l. front ++ o ∷ l) (sym (put_lower k after lower.0)) in
    let still : AreRising (front ++ o ∷ with_word k after) = subst AreRising past (rising_put (str_to_ascii_lowercase k) (front ++ o ∷ after) rising) in
    ap (with_words os) past ∙ over_all o os front (with_word k after) lower.1 h.1 still

rising_drop : (i : ℕ) (ws : List (List ℕ)) → AreRising ws → AreRising (drop i ws)
rising_drop zero ws h = h
rising_drop (suc i) [] h = tt
rising_drop (suc i) (w ∷ ws) h = rising_drop i ws h.1

lower_drop : (i : ℕ) (ws : List (List ℕ)) → AreLower ws → AreLower (drop i ws)
lower_drop zero ws h = h
lower_drop (suc i) [] h = tt
lower_drop (suc i) (w ∷ ws) h = lower_drop i ws h.1

-- what the loop has copied, and what is left of the words and of the others
pub record IsMerging (words others done rest : List (List ℕ)) (i : ℕ) : Type 0 where
  pub whole : done ++ with_words (drop i others) rest ≡ with_words others words
  pub rising : AreRising rest

pub merging_on : (words others done new rest before after : List (List ℕ)) (i : ℕ) (o : List ℕ) → AreRising others → AreLower others → i < length others → o ≡ get_or others i o
    → insert_key cmp rest o ≡ before ++ o ∷ after → new ≡ (done ++ before) ++ o ∷ [] → IsMerging words others done rest i → IsMerging words others new after (i + 1)
merging_on words others done new rest before after i o up lower lt is put made h = record {
  whole = ap (λ l. l ++ with_words (drop (i + 1) others) after) made
      ∙ append_assoc (done ++ before) (o ∷ []) (with_words (drop (i + 1) others) after)
      ∙ append_assoc done before (o ∷ with_words (drop (i + 1) others) after)
      ∙ ap (λ l. done ++ l) (sym (over_all o (drop (i + 1) others) before after low.1 ups.0 still) ∙ ap (with_words (drop (i + 1) others)) (sym (put_lower o rest low.0 ∙ put)) ∙ ap (λ l. with_words l rest) (sym at))
      ∙ h.whole;
  rising = rising_back before o after still;
}
  where
    at : drop i others ≡ o ∷ drop (i + 1) others
    at = drop-cons others i o lt ∙ (λ j. sym is j ∷ drop (sym (add-one i) j) others)

    ups : AreRising (o ∷ drop (i + 1) others)
    ups = subst AreRising at (rising_drop i others up)

    low : AreLower (o ∷ drop (i + 1) others)
    low = subst AreLower at (lower_drop i others lower)

    still : AreRising (before ++ o ∷ after)
    still = subst AreRising put (rising_put o rest h.rising)

-- ---- a word in its place

place_is : (k : List ℕ) (ws : List (List ℕ)) (i : ℕ) → word_place k ws ≡ Ok i → (i < length ws) × (ws ≡ take i ws ++ k ∷ drop (i + 1) ws)
place_is k [] i e = absurd (cc e)
place_is k (v ∷ ws) i e = by (cmp k v) (word_place k ws) refl refl (place_is k ws) e
  where
    by : (o : Ordering) (r : Result ℕ ℕ) → cmp k v ≡ o → word_place k ws ≡ r → ((j : ℕ) → word_place k ws ≡ Ok j → (j < length ws) × (ws ≡ take j ws ++ k ∷ drop (j + 1) ws)) → by_order o (Err 0) (Ok 0) (next_place r) ≡ Ok i
        → (i < length (v ∷ ws)) × (v ∷ ws ≡ take i (v ∷ ws) ++ k ∷ drop (i + 1) (v ∷ ws))
    by Less r s f rest e = absurd (cc e)
    by Equal r s f rest e = let z : 0 ≡ i = cc e in subst (λ i. (i < length (v ∷ ws)) × (v ∷ ws ≡ take i (v ∷ ws) ++ k ∷ drop (i + 1) (v ∷ ws))) z (omega arith, ap (λ w. w ∷ ws) (sym (same_word v k s)))
    by Greater (Ok j) s f rest e =
        let z : suc j ≡ i = cc e in
        let more = rest j f in
        let lt = more.0 in
        subst (λ i. (i < length (v ∷ ws)) × (v ∷ ws ≡ take i (v ∷ ws) ++ k ∷ drop (i + 1) (v ∷ ws))) z (omega (arith, lt), ap (λ l. v ∷ l) more.1 ∙ ap (λ n. v ∷ (take j ws ++ k ∷ drop n (v ∷ ws))) (let next : suc (j + 1) ≡ suc j + 1 = omega arith in next))
    by Greater (Err j) s f rest e = absurd (cc e)

pub around_there : (k : List ℕ) (ws : List (List ℕ)) (i : ℕ) → word_place k ws ≡ Ok i → insert_key cmp ws k ≡ take i ws ++ k ∷ drop (i + 1) ws
around_there k ws i e = place_there k ws i e ∙ (place_is k ws i e).1

pub inside_there : (k : List ℕ) (ws : List (List ℕ)) (i : ℕ) → word_place k ws ≡ Ok i → i < length ws
inside_there k ws i e = (place_is k ws i e).0

-- ---- all of a set

pub keywords_all : (others words : List (List ℕ)) → AreKeywords others → AreKeywords words → AreKeywords (with_words others words)
keywords_all [] words h k = k
keywords_all (o ∷ others) words h k =
    keywords_all others (with_word o words) (record { rising = h.rising.1; lower = h.lower.1; atoms = h.atoms.1 })
    (words_put o words (subst IsAtom (sym h.lower.0) h.atoms.0) k)
