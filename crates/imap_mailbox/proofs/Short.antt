-- None of the rows that are left may go.
use Rattle.std.proofs.Common.{◌≡◌, ℕ, ◌+◌, ◌-◌, ◌≤◌, eqb, Bool, true, false, cond, not, ◌&&◌, ◌||◌, List, [], ◌∷◌, ◌++◌, length, filter, get_or, slice_index, Option, Some, None, refl, sym, ap, subst, ◌∙◌, arith, ⊎_elim, ◌⊎◌, inl, inr}
use Rattle.std.proofs.lemmas.Bool.{eqb-true, eq-eqb}
use Rattle.std.specs.Ordering.{nat_cmp}
use Rattle.std.specs.FinMap.{get, insert, empty, get-empty}
use Rattle.imap_mailbox.specs.declared.kept_change.KeptChange.{KeptChange}
use Rattle.imap_mailbox.specs.KeptRows.{runs_on, is_overtaken, may_go, shortened, AreNeeded, AreKept, place_if_free, dropped_by, without_row}
use Rattle.imap_mailbox.specs.Own.{Latest, filled, latest_after, found_in}
use Rattle.imap_mailbox.specs.KeptLaws.{RowsStayFew}
use Rattle.imap_mailbox.proofs.Found.{got}
use Rattle.imap_mailbox.proofs.Following.{IsSplit, split, turned, front_kept, one_out, next_of, at_next, without_kept}
use Rattle.imap_mailbox.proofs.Few.{few_are_kept}

-- ---- what changes when a change comes

-- of another message
overtaken_by : (later : List KeptChange) (uid : ℕ) (c : KeptChange) → is_overtaken uid (later ++ c ∷ []) ≡ (is_overtaken uid later || eqb c.uid uid)
overtaken_by [] uid c = or_false (eqb c.uid uid)
  where
    or_false : (b : Bool) → (b || false) ≡ (false || b)
    or_false true = refl
    or_false false = refl
overtaken_by (n ∷ later) uid c = ap (λ b. eqb n.uid uid || b) (overtaken_by later uid c) ∙ joined (eqb n.uid uid) (is_overtaken uid later) (eqb c.uid uid)
  where
    joined : (a b d : Bool) → (a || (b || d)) ≡ ((a || b) || d)
    joined true b d = refl
    joined false b d = refl

-- a change that could not go can't go, if it is of another message or is overtaken already
stays : (k c : KeptChange) (later : List KeptChange) → may_go k later ≡ false → (eqb c.uid k.uid ≡ false) ⊎ (is_overtaken k.uid later ≡ true) → may_go k (later ++ c ∷ []) ≡ false
stays k c [] e (inl other) = ap (λ b. runs_on k (c ∷ []) && b) (ap (λ b. b || false) other) ∙ none (runs_on k (c ∷ []))
  where
    none : (b : Bool) → (b && false) ≡ false
    none true = refl
    none false = refl
stays k c [] e (inr there) = absurd (cc there)
stays k c (n ∷ later) e (inl other) = ap (λ b. runs_on k (n ∷ later) && b) (overtaken_by (n ∷ later) k.uid c ∙ ap (λ b. is_overtaken k.uid (n ∷ later) || b) other ∙ or_none (is_overtaken k.uid (n ∷ later))) ∙ e
  where
    or_none : (b : Bool) → (b || false) ≡ b
    or_none true = refl
    or_none false = refl
stays k c (n ∷ later) e (inr there) = ap (λ b. runs_on k (n ∷ later) && b) (overtaken_by (n ∷ later) k.uid c ∙ ap (λ b. b || eqb c.uid k.uid) there ∙ sym there) ∙ e

-- no later change of the message
other_of : (uid : ℕ) (k : KeptChange) (later : List KeptChange) → is_overtaken uid (k ∷ later) ≡ false → (eqb k.uid uid ≡ false) × (is_overtaken uid later ≡ false)
other_of uid k later e = by (eqb k.uid uid) (is_overtaken uid later) e
  where
    by : (a b : Bool) → (a || b) ≡ false → (a ≡ false) × (b ≡ false)
    by true b e = absurd (cc e)
    by false b e = (refl, e)

back_needed : (back : List KeptChange) (c : KeptChange) → is_overtaken c.uid back ≡ false → AreNeeded back → AreNeeded (back ++ c ∷ [])
back_needed [] c e h = (refl, tt)
back_needed (k ∷ back) c e h =
    let other = other_of c.uid k back e in
    (stays k c back h.0 (inl (turned k.uid c.uid other.0)), back_needed back c other.1 h.1)

pub has_overtaken : (front back : List KeptChange) (k : KeptChange) (uid : ℕ) → k.uid ≡ uid → is_overtaken uid (front ++ k ∷ back) ≡ true
has_overtaken [] back k uid e = ap (λ b. b || is_overtaken uid back) (eq-eqb k.uid uid e)
has_overtaken (f ∷ front) back k uid e = ap (λ b. eqb f.uid uid || b) (has_overtaken front back k uid e) ∙ either (eqb f.uid uid)
  where
    either : (b : Bool) → (b || true) ≡ true
    either true = refl
    either false = refl

-- where the last change of the message stays
kept_needed : (front back : List KeptChange) (k c : KeptChange) → k.uid ≡ c.uid → is_overtaken c.uid back ≡ false → eqb (next_of back c) k.before ≡ false
    → AreNeeded (front ++ k ∷ back) → AreNeeded (front ++ k ∷ back ++ c ∷ [])
kept_needed [] back k c uid last next h = (ap (λ b. b && is_overtaken k.uid (back ++ c ∷ [])) (runs back next), back_needed back c last h.1)
  where
    runs : (back : List KeptChange) → eqb (next_of back c) k.before ≡ false → runs_on k (back ++ c ∷ []) ≡ false
    runs [] e = e
    runs (n ∷ back) e = e
kept_needed (f ∷ front) back k c uid last next h =
    (stays f c (front ++ k ∷ back) h.0 (by (eqb c.uid f.uid) refl), kept_needed front back k c uid last next h.1)
  where
    by : (t : Bool) → eqb c.uid f.uid ≡ t → (eqb c.uid f.uid ≡ false) ⊎ (is_overtaken f.uid (front ++ k ∷ back) ≡ true)
    by true e = inr (has_overtaken front back k f.uid (uid ∙ eqb-true c.uid f.uid e))
    by false e = inl e

-- where it goes
swap_or : (uid : ℕ) (k c : KeptChange) (front back : List KeptChange) → k.uid ≡ c.uid → is_overtaken uid (front ++ back ++ c ∷ []) ≡ is_overtaken uid (front ++ k ∷ back)
swap_or uid k c [] back e = overtaken_by back uid c ∙ ap (λ u. is_overtaken uid back || eqb u uid) (sym e) ∙ turn (is_overtaken uid back) (eqb k.uid uid)
  where
    turn : (a b : Bool) → (a || b) ≡ (b || a)
    turn true true = refl
    turn true false = refl
    turn false true = refl
    turn false false = refl
swap_or uid k c (f ∷ front) back e = ap (λ b. eqb f.uid uid || b) (swap_or uid k c front back e)

gone_needed : (front back : List KeptChange) (k c : KeptChange) → k.uid ≡ c.uid → is_overtaken c.uid back ≡ false → eqb (next_of back c) k.before ≡ true
    → AreNeeded (front ++ k ∷ back) → AreNeeded (front ++ back ++ c ∷ [])
gone_needed [] back k c uid last next h = back_needed back c last h.1
gone_needed (f ∷ front) back k c uid last next h = (same front ∙ h.0, gone_needed front back k c uid last next h.1)
  where
    first : (back : List KeptChange) → eqb (next_of back c) k.before ≡ true → runs_on f (back ++ c ∷ []) ≡ eqb k.before f.before
    first [] e = ap (λ n. eqb n f.before) (eqb-true c.before k.before e)
    first (n ∷ back) e = ap (λ m. eqb m f.before) (eqb-true n.before k.before e)

    same : (front : List KeptChange) → may_go f (front ++ back ++ c ∷ []) ≡ may_go f (front ++ k ∷ back)
    same [] = λ i. first back next i && swap_or f.uid k c [] back uid i
    same (g ∷ front) = ap (λ b. eqb g.before f.before && b) (swap_or f.uid k c (g ∷ front) back uid)

-- ---- by what the code finds

-- no change of the message, if none is found
found_stays : (rows : List KeptChange) (m : Latest) (uid : ℕ) (k : KeptChange) → get m uid ≡ Some k → get (latest_after m rows) uid ≡ None → ⊥
found_stays [] m uid k is none = let z : Some k ≡ None = sym is ∙ none in cc z
found_stays (r ∷ rows) m uid k is none =
    by (eqb uid r.uid) refl (λ e. found_stays rows (insert m r.uid r) uid r e none) (λ e. found_stays rows (insert m r.uid r) uid k e none)
  where
    by : (t : Bool) → eqb uid r.uid ≡ t → (get (insert m r.uid r) uid ≡ Some r → ⊥) → (get (insert m r.uid r) uid ≡ Some k → ⊥) → ⊥
    by true e new old = new (got m r.uid r uid ∙ ap (λ b. cond b (Some r) (get m uid)) e)
    by false e new old = old (got m r.uid r uid ∙ ap (λ b. cond b (Some r) (get m uid)) e ∙ is)

pub none_found : (rows : List KeptChange) (m : Latest) (uid : ℕ) → get (latest_after m rows) uid ≡ None → is_overtaken uid rows ≡ false
none_found [] m uid e = refl
none_found (r ∷ rows) m uid e = ap (λ b. eqb r.uid uid || b) (none_found rows (insert m r.uid r) uid e) ∙ by (eqb r.uid uid) refl
  where
    by : (t : Bool) → eqb r.uid uid ≡ t → (t || false) ≡ false
    by true same =
        absurd (found_stays rows (insert m r.uid r) uid r (got m r.uid r uid ∙ ap (λ b. cond b (Some r) (get m uid)) (eq-eqb uid r.uid (sym (eqb-true r.uid uid same)))) e)
    by false other = refl

left_needed : (rows : List KeptChange) (k c : KeptChange) (shared : ℕ) → AreKept 0 0 shared rows → IsSplit rows c.uid k → AreNeeded rows
    → (t : Bool) → eqb (slice_index (filled 0 rows ++ c.before ∷ []) (k.place + 1)) k.before ≡ t → AreNeeded (without_row (cond t (Some k.place) None) rows ++ c ∷ [])
left_needed rows k c shared h s needed t e = by t (next ∙ e)
  where
    kept : AreKept 0 0 shared (s.front ++ k ∷ s.back)
    kept = subst (AreKept 0 0 shared) s.whole h

    index : k.place + 1 - 0 ≡ k.place + 1
    index = omega arith

    next : eqb (next_of s.back c) k.before ≡ eqb (slice_index (filled 0 rows ++ c.before ∷ []) (k.place + 1)) k.before
    next =
        ap (λ b. eqb b k.before) (sym (at_next s.front s.back k c 0 0 shared kept) ∙ ap (λ i. get_or (filled 0 (s.front ++ k ∷ s.back) ++ c.before ∷ []) i 0) index
        ∙ ap (λ l. get_or (filled 0 l ++ c.before ∷ []) (k.place + 1) 0) (sym s.whole))

    by : (t : Bool) → eqb (next_of s.back c) k.before ≡ t → AreNeeded (without_row (cond t (Some k.place) None) rows ++ c ∷ [])
    by true f =
        subst AreNeeded (ap (λ l. l ++ c ∷ []) (sym (ap (λ l. filter (λ r. not (eqb r.place k.place)) l) s.whole ∙ one_out s.front s.back k 0 0 shared kept)))
        (gone_needed s.front s.back k c s.uid_is s.last f (subst AreNeeded s.whole needed))
    by false f =
        subst AreNeeded (ap (λ l. l ++ c ∷ []) (sym s.whole))
        (kept_needed s.front s.back k c s.uid_is s.last f (subst AreNeeded s.whole needed))

-- ---- how many there are

short_is : (kept : List KeptChange) → AreNeeded kept → shortened kept ≡ kept
short_is [] h = refl
short_is (k ∷ kept) h = ap (λ b. cond b (shortened kept) (k ∷ shortened kept)) h.0 ∙ ap (λ l. k ∷ l) (short_is kept h.1)

pub rows_stay_few : RowsStayFew
rows_stay_few rows c uids shared h needed = (
  left,
  λ of. subst (λ (l : List KeptChange). length l ≤ length uids + (shared + 1)) (short_is (without_row (dropped_by c (found_in rows)) rows ++ c ∷ []) left)
      (few_are_kept (without_row (dropped_by c (found_in rows)) rows ++ c ∷ []) uids shared (without_kept (dropped_by c (found_in rows)) rows (c ∷ []) shared h) of),
)
  where
    by : (o : Option KeptChange) → get (latest_after empty rows) c.uid ≡ o → AreNeeded (without_row (place_if_free (filled 0 rows ++ c.before ∷ []) o) rows ++ c ∷ [])
    by None e = back_needed rows c (none_found rows empty c.uid e) needed
    by (Some k) e =
        ⊎_elim (λ (no : (get empty c.uid ≡ Some k) × (is_overtaken c.uid rows ≡ false)). absurd (let z : None ≡ Some k = sym (get-empty nat_cmp c.uid) ∙ no.0 in cc z))
        (λ (s : IsSplit rows c.uid k). left_needed rows k c shared (front_kept rows c 0 0 shared h) s needed (eqb (slice_index (filled 0 rows ++ c.before ∷ []) (k.place + 1)) k.before) refl)
        (split rows empty c.uid k e)

    left : AreNeeded (without_row (dropped_by c (found_in rows)) rows ++ c ∷ [])
    left = by (get (latest_after empty rows) c.uid) refl
