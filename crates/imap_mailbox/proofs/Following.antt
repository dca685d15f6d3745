-- The rows of a store when a change comes.
use Rattle.std.proofs.Common.{◌≡◌, ℕ, suc, ◌+◌, ◌-◌, ◌<◌, ◌≤◌, eqb, Bool, true, false, cond, not, ◌&&◌, ◌||◌, List, [], ◌∷◌, ◌++◌, length, filter, replicate, get_or, slice_index, Option, Some, None, refl, sym, ap, subst, ◌∙◌, arith, ⊎_elim, ◌⊎◌, inl, inr}
use Rattle.std.proofs.lemmas.Bool.{eqb-true, eq-eqb, ne_eqb}
use Rattle.std.proofs.lemmas.List.{append_assoc, append-nil, length-append, length-replicate, get_or-append-add}
use Rattle.std.specs.Ordering.{nat_cmp}
use Rattle.std.specs.FinMap.{get, insert, empty, get-empty}
use Rattle.imap_mailbox.specs.declared.kept_change.KeptChange.{KeptChange}
use Rattle.imap_mailbox.specs.KeptRows.{runs_on, is_overtaken, AreKept, place_if_free, dropped_by, without_row, rows_after}
use Rattle.imap_mailbox.specs.Own.{Latest, Own, filled, latest_after, found_in, with_kept, with_all}
use Rattle.imap_mailbox.specs.KeptLaws.{RowsFollow, AllRowsFollow}
use Rattle.imap_mailbox.proofs.Found.{got, any_may_go, kept_lower}

-- ---- one more

abbrev pub end_of : (done : ℕ) → List KeptChange → ℕ
end_of done [] = done
end_of done (k ∷ kept) = end_of (k.place + 1) kept

pub filled_push : (kept : List KeptChange) (done : ℕ) (c : KeptChange) → filled done (kept ++ c ∷ []) ≡ filled done kept ++ replicate (c.place + 1 - end_of done kept) c.before
filled_push [] done c = append-nil (replicate (c.place + 1 - done) c.before)
filled_push (k ∷ kept) done c =
    ap (λ l. replicate (k.place + 1 - done) k.before ++ l) (filled_push kept (k.place + 1) c)
    ∙ sym (append_assoc (replicate (k.place + 1 - done) k.before) (filled (k.place + 1) kept) (replicate (c.place + 1 - end_of (k.place + 1) kept) c.before))

pub latest_push : (kept : List KeptChange) (m : Latest) (c : KeptChange) → latest_after m (kept ++ c ∷ []) ≡ insert (latest_after m kept) c.uid c
latest_push [] m c = refl
latest_push (k ∷ kept) m c = latest_push kept (insert m k.uid k) c

-- what stands before the last
pub front_kept : (kept : List KeptChange) (c : KeptChange) (done low high : ℕ) → AreKept done low high (kept ++ c ∷ []) → AreKept done low high kept
front_kept [] c done low high h = tt
front_kept (k ∷ kept) c done low high h = (h.0, front_kept kept c (k.place + 1) k.before high h.1)

end_rises : (kept : List KeptChange) (done low high : ℕ) → AreKept done low high kept → done ≤ end_of done kept
end_rises [] done low high h = omega arith
end_rises (k ∷ kept) done low high h =
    let place = h.0.place in
    omega (arith, place, end_rises kept (k.place + 1) k.before high h.1)

pub length-filled : (kept : List KeptChange) (done low high : ℕ) → AreKept done low high kept → done + length (filled done kept) ≡ end_of done kept
length-filled [] done low high h = omega arith
length-filled (k ∷ kept) done low high h =
    let place = h.0.place in
    let rest = length-filled kept (k.place + 1) k.before high h.1 in
    omega (arith, place, rest, length-append (replicate (k.place + 1 - done) k.before) (filled (k.place + 1) kept), length-replicate (k.place + 1 - done) k.before)

pub found_push : (kept : List KeptChange) (c : KeptChange) (shared : ℕ) → AreKept 0 0 shared (kept ++ c ∷ []) → found_in (kept ++ c ∷ []) ≡ with_kept c (found_in kept)
found_push kept c shared h =
    let len = length-filled kept 0 0 shared (front_kept kept c 0 0 shared h) in
    λ i. record {
      befores = (filled_push kept 0 c ∙ ap (λ n. filled 0 kept ++ replicate (c.place + 1 - n) c.before) (let z : end_of 0 kept ≡ length (filled 0 kept) = omega (arith, len) in z)) i;
      latest = latest_push kept empty c i;
    }

-- ---- where the last change of a message stands

pub record IsSplit (kept : List KeptChange) (uid : ℕ) (k : KeptChange) : Type 0 where
  pub front : List KeptChange
  pub back : List KeptChange
  pub whole : kept ≡ front ++ k ∷ back
  pub uid_is : k.uid ≡ uid
  pub last : is_overtaken uid back ≡ false

pub turned : (m n : ℕ) → eqb m n ≡ false → eqb n m ≡ false
turned m n e = by (eqb n m) refl
  where
    by : (t : Bool) → eqb n m ≡ t → eqb n m ≡ false
    by true f = absurd (let z : true ≡ false = sym (eq-eqb m n (sym (eqb-true n m f))) ∙ e in cc z)
    by false f = f

pub split : (kept : List KeptChange) (m : Latest) (uid : ℕ) (k : KeptChange) → get (latest_after m kept) uid ≡ Some k
    → ((get m uid ≡ Some k) × (is_overtaken uid kept ≡ false)) ⊎ IsSplit kept uid k
split [] m uid k e = inl (e, refl)
split (r ∷ kept) m uid k e =
    ⊎_elim (λ (there : (get (insert m r.uid r) uid ≡ Some k) × (is_overtaken uid kept ≡ false)). by (eqb uid r.uid) refl (sym (got m r.uid r uid) ∙ there.0) there.1)
    (λ (s : IsSplit kept uid k). inr (record { front = r ∷ s.front; back = s.back; whole = ap (λ l. r ∷ l) s.whole; uid_is = s.uid_is; last = s.last }))
    (split kept (insert m r.uid r) uid k e)
  where
    by : (t : Bool) → eqb uid r.uid ≡ t → cond t (Some r) (get m uid) ≡ Some k → is_overtaken uid kept ≡ false
        → ((get m uid ≡ Some k) × (is_overtaken uid (r ∷ kept) ≡ false)) ⊎ IsSplit (r ∷ kept) uid k
    by true same is none =
        let one : r ≡ k = cc is in
        inr (record { front = []; back = kept; whole = ap (λ z. z ∷ kept) one; uid_is = ap (λ (z : KeptChange). z.uid) (sym one) ∙ sym (eqb-true uid r.uid same); last = none })
    by false other is none = inl (is, ap (λ b. b || is_overtaken uid kept) (turned uid r.uid other) ∙ none)

-- ---- the change that goes

-- the rows from there on have greater places
all_later : (kept : List KeptChange) (p done low high : ℕ) → p < done → AreKept done low high kept → filter (λ k. not (eqb k.place p)) kept ≡ kept
all_later [] p done low high lt h = refl
all_later (k ∷ kept) p done low high lt h =
    let place = h.0.place in
    ap (λ b. cond (not b) (k ∷ filter (λ k. not (eqb k.place p)) kept) (filter (λ k. not (eqb k.place p)) kept)) (ne_eqb k.place p (λ e. omega (arith, place, lt, e)))
    ∙ ap (λ l. k ∷ l) (all_later kept p (k.place + 1) k.before high (omega (arith, place, lt)) h.1)

placed : (front back : List KeptChange) (k : KeptChange) (done low high : ℕ) → AreKept done low high (front ++ k ∷ back) → done ≤ k.place
placed [] back k done low high h = h.0.place
placed (f ∷ front) back k done low high h =
    let place = h.0.place in
    omega (arith, place, placed front back k (f.place + 1) f.before high h.1)

pub one_out : (front back : List KeptChange) (k : KeptChange) (done low high : ℕ) → AreKept done low high (front ++ k ∷ back)
    → filter (λ r. not (eqb r.place k.place)) (front ++ k ∷ back) ≡ front ++ back
one_out [] back k done low high h =
    ap (λ b. cond (not b) (k ∷ filter (λ r. not (eqb r.place k.place)) back) (filter (λ r. not (eqb r.place k.place)) back)) (eq-eqb k.place k.place refl)
    ∙ all_later back k.place (k.place + 1) k.before high (omega arith) h.1
one_out (f ∷ front) back k done low high h =
    let later = placed front back k (f.place + 1) f.before high h.1 in
    ap (λ b. cond (not b) (f ∷ filter (λ r. not (eqb r.place k.place)) (front ++ k ∷ back)) (filter (λ r. not (eqb r.place k.place)) (front ++ k ∷ back))) (ne_eqb f.place k.place (λ e. omega (arith, later, e)))
    ∙ ap (λ l. f ∷ l) (one_out front back k (f.place + 1) f.before high h.1)

-- the number of shared events before the next change is found after the change
abbrev pub next_of : (back : List KeptChange) (c : KeptChange) → ℕ
next_of [] c = c.before
next_of (n ∷ back) c = n.before

pub at_next : (front back : List KeptChange) (k c : KeptChange) (done low high : ℕ) → AreKept done low high (front ++ k ∷ back)
    → get_or (filled done (front ++ k ∷ back) ++ c.before ∷ []) (k.place + 1 - done) 0 ≡ next_of back c
at_next [] back k c done low high h =
    let place = h.0.place in
    let len = length-replicate (k.place + 1 - done) k.before in
    let here : k.place + 1 - done ≡ length (replicate (k.place + 1 - done) k.before) + 0 = omega (arith, len) in
    ap (λ l. get_or l (k.place + 1 - done) 0) (append_assoc (replicate (k.place + 1 - done) k.before) (filled (k.place + 1) back) (c.before ∷ []))
    ∙ ap (λ i. get_or (replicate (k.place + 1 - done) k.before ++ (filled (k.place + 1) back ++ c.before ∷ [])) i 0) here
    ∙ get_or-append-add (replicate (k.place + 1 - done) k.before) (filled (k.place + 1) back ++ c.before ∷ []) 0 0
    ∙ first back h.1
  where
    many : (n m b : ℕ) (l : List ℕ) → n ≡ suc m → get_or (replicate n b ++ l) 0 0 ≡ b
    many n m b l e = ap (λ i. get_or (replicate i b ++ l) 0 0) e

    first : (back : List KeptChange) → AreKept (k.place + 1) k.before high back → get_or (filled (k.place + 1) back ++ c.before ∷ []) 0 0 ≡ next_of back c
    first [] t = refl
    first (n ∷ back) t =
        let later = t.0.place in
        ap (λ l. get_or l 0 0) (append_assoc (replicate (n.place + 1 - (k.place + 1)) n.before) (filled (n.place + 1) back) (c.before ∷ []))
        ∙ many (n.place + 1 - (k.place + 1)) (n.place - (k.place + 1)) n.before (filled (n.place + 1) back ++ c.before ∷ []) (omega (arith, later))
at_next (f ∷ front) back k c done low high h =
    let place = h.0.place in
    let later = placed front back k (f.place + 1) f.before high h.1 in
    let len = length-replicate (f.place + 1 - done) f.before in
    let here : k.place + 1 - done ≡ length (replicate (f.place + 1 - done) f.before) + (k.place + 1 - (f.place + 1)) = omega (arith, len, later, place) in
    ap (λ l. get_or l (k.place + 1 - done) 0) (append_assoc (replicate (f.place + 1 - done) f.before) (filled (f.place + 1) (front ++ k ∷ back)) (c.before ∷ []))
    ∙ ap (λ i. get_or (replicate (f.place + 1 - done) f.before ++ (filled (f.place + 1) (front ++ k ∷ back) ++ c.before ∷ [])) i 0) here
    ∙ get_or-append-add (replicate (f.place + 1 - done) f.before) (filled (f.place + 1) (front ++ k ∷ back) ++ c.before ∷ []) (k.place + 1 - (f.place + 1)) 0
    ∙ at_next front back k c (f.place + 1) f.before high h.1

-- it may go once the new change is there
pub overtaken : (back : List KeptChange) (k c : KeptChange) → k.uid ≡ c.uid → is_overtaken k.uid (back ++ c ∷ []) ≡ true
overtaken [] k c e = ap (λ b. b || false) (eq-eqb c.uid k.uid (sym e))
overtaken (n ∷ back) k c e = ap (λ b. eqb n.uid k.uid || b) (overtaken back k c e) ∙ either (eqb n.uid k.uid)
  where
    either : (b : Bool) → (b || true) ≡ true
    either true = refl
    either false = refl

pub runs_to : (back : List KeptChange) (k c : KeptChange) → eqb (next_of back c) k.before ≡ true → runs_on k (back ++ c ∷ []) ≡ true
runs_to [] k c e = e
runs_to (n ∷ back) k c e = e

goes : (rows : List KeptChange) (k c : KeptChange) (shared : ℕ) → AreKept 0 0 shared (rows ++ c ∷ []) → IsSplit rows c.uid k
    → (t : Bool) → eqb (slice_index (filled 0 rows ++ c.before ∷ []) (k.place + 1)) k.before ≡ t
    → found_in (without_row (cond t (Some k.place) None) rows ++ c ∷ []) ≡ with_kept c (found_in rows)
goes rows k c shared h s false e = found_push rows c shared h
goes rows k c shared h s true e =
    let kept = subst (AreKept 0 0 shared) s.whole (front_kept rows c 0 0 shared h) in
    let whole = subst (λ l. AreKept 0 0 shared (l ++ c ∷ [])) s.whole h in
    let joined = append_assoc s.front (k ∷ s.back) (c ∷ []) in
    let at = at_next s.front s.back k c 0 0 shared kept in
    let index : k.place + 1 - 0 ≡ k.place + 1 = omega arith in
    let next = ap (λ b. eqb b k.before) (sym at ∙ ap (λ i. get_or (filled 0 (s.front ++ k ∷ s.back) ++ c.before ∷ []) i 0) index ∙ ap (λ l. get_or (filled 0 l ++ c.before ∷ []) (k.place + 1) 0) (sym s.whole)) ∙ e in
    let free = any_may_go s.front (s.back ++ c ∷ []) k shared (subst (AreKept 0 0 shared) joined whole) (go (runs_to s.back k c next) (overtaken s.back k c s.uid_is)) in
    ap (λ l. found_in (filter (λ r. not (eqb r.place k.place)) l ++ c ∷ [])) s.whole
    ∙ ap (λ l. found_in (l ++ c ∷ [])) (one_out s.front s.back k 0 0 shared kept)
    ∙ ap found_in (append_assoc s.front s.back (c ∷ []))
    ∙ free
    ∙ ap found_in (sym joined)
    ∙ ap (λ l. found_in (l ++ c ∷ [])) (sym s.whole)
    ∙ found_push rows c shared h
  where
    go : {a b : Bool} → a ≡ true → b ≡ true → (a && b) ≡ true
    go e f = λ i. e i && f i

pub rows_follow : RowsFollow
rows_follow rows c shared h = by (get (latest_after empty rows) c.uid) refl
  where
    by : (o : Option KeptChange) → get (latest_after empty rows) c.uid ≡ o
        → found_in (without_row (place_if_free (filled 0 rows ++ c.before ∷ []) o) rows ++ c ∷ []) ≡ with_kept c (found_in rows)
    by None e = found_push rows c shared h
    by (Some k) e =
        ⊎_elim (λ (no : (get empty c.uid ≡ Some k) × (is_overtaken c.uid rows ≡ false)). absurd (let z : None ≡ Some k = sym (get-empty nat_cmp c.uid) ∙ no.0 in cc z))
        (λ (s : IsSplit rows c.uid k). goes rows k c shared h s (eqb (slice_index (filled 0 rows ++ c.before ∷ []) (k.place + 1)) k.before) refl)
        (split rows empty c.uid k e)

-- ---- several changes

-- what is left of rows is in order, with what follows them
left_kept : (p : ℕ) (rows later : List KeptChange) (done low high : ℕ) → AreKept done low high (rows ++ later) → AreKept done low high (filter (λ k. not (eqb k.place p)) rows ++ later)
left_kept p [] later done low high h = h
left_kept p (k ∷ rows) later done low high h = by (eqb k.place p) (left_kept p rows later (k.place + 1) k.before high h.1)
  where
    by : (t : Bool) → AreKept (k.place + 1) k.before high (filter (λ r. not (eqb r.place p)) rows ++ later)
        → AreKept done low high (cond (not t) (k ∷ filter (λ r. not (eqb r.place p)) rows) (filter (λ r. not (eqb r.place p)) rows) ++ later)
    by true rest =
        let place = h.0.place in
        kept_lower (k.place + 1) done k.before low high (filter (λ r. not (eqb r.place p)) rows ++ later) (omega (arith, place)) h.0.after rest
    by false rest = (h.0, rest)

pub without_kept : (o : Option ℕ) (rows later : List KeptChange) (shared : ℕ) → AreKept 0 0 shared (rows ++ later) → AreKept 0 0 shared (without_row o rows ++ later)
without_kept None rows later shared h = h
without_kept (Some p) rows later shared h = left_kept p rows later 0 0 shared h

pub all_rows_follow : AllRowsFollow
all_rows_follow rows [] shared h = (subst (AreKept 0 0 shared) (append-nil rows) h, refl)
all_rows_follow rows (c ∷ changes) shared h =
    let old = found_in rows in
    let left = without_row (dropped_by c old) rows ++ c ∷ [] in
    let joined = subst (AreKept 0 0 shared) (sym (append_assoc rows (c ∷ []) changes)) h in
    let one = rows_follow rows c shared (front_all (rows ++ c ∷ []) changes 0 0 shared joined) in
    let kept = subst (AreKept 0 0 shared) (sym (append_assoc (without_row (dropped_by c old) rows) (c ∷ []) changes)) (without_kept (dropped_by c old) rows (c ∷ changes) shared h) in
    let rest = all_rows_follow left changes shared kept in (
      subst (λ (o : Own). AreKept 0 0 shared (rows_after o left changes)) one rest.0,
      ap (λ (o : Own). found_in (rows_after o left changes)) (sym one) ∙ rest.1 ∙ ap (with_all changes) one,
    )
  where
    front_all : (kept later : List KeptChange) (done low high : ℕ) → AreKept done low high (kept ++ later) → AreKept done low high kept
    front_all [] later done low high h = tt
    front_all (k ∷ kept) later done low high h = (h.0, front_all kept later (k.place + 1) k.before high h.1)
