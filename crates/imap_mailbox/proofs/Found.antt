-- What is found of kept changes.
use Rattle.std.proofs.Common.{◌≡◌, ℕ, zero, suc, ◌+◌, ◌-◌, ◌≤◌, eqb, Bool, true, false, cond, ◌&&◌, ◌||◌, List, [], ◌∷◌, ◌++◌, length, map, replicate, Some, refl, sym, ap, subst, ◌∙◌, arith}
use Rattle.std.proofs.lemmas.Bool.{eqb-true, eq-eqb}
use Rattle.std.proofs.lemmas.List.{append_assoc}
use Rattle.std.specs.Cmp.{nat_cmp_total, unsigned_tied}
use Rattle.std.specs.FinMap.{get, insert, empty, get-insert, same_map, nat_cmp-IsAntisymmetric}
use Rattle.imap_modseq.specs.Merge.{befores, AreInOrder}
use Rattle.imap_modseq.specs.Numbers.{max_events}
use Rattle.imap_mailbox.specs.declared.kept_change.KeptChange.{KeptChange}
use Rattle.imap_mailbox.specs.declared.own.SeenChange.{SeenChange}
use Rattle.imap_mailbox.specs.KeptRows.{runs_on, is_overtaken, may_go, shortened, AreKept}
use Rattle.imap_mailbox.specs.Own.{Latest, filled, latest_after, found_in, numbered}
use Rattle.imap_mailbox.specs.History.{own_entry}
use Rattle.imap_mailbox.specs.KeptLaws.{AnyMayGo}

-- ---- maps by UIDs

pub same_answers : (m n : Latest) → ((q : ℕ) → get m q ≡ get n q) → m ≡ n
same_answers m n is = same_map nat_cmp_total nat_cmp-IsAntisymmetric m n is

pub got : (m : Latest) (u : ℕ) (k : KeptChange) (q : ℕ) → get (insert m u k) q ≡ cond (eqb q u) (Some k) (get m q)
got m u k q = get-insert nat_cmp_total m u k q ∙ ap (λ b. cond b (Some k) (get m q)) (unsigned_tied q u)

-- the second of one UID is there, and that of another UID beside it
absorbed : (m : Latest) (u : ℕ) (a b : KeptChange) → insert (insert m u a) u b ≡ insert m u b
absorbed m u a b = same_answers _ _ (λ q. got (insert m u a) u b q ∙ by q (eqb q u) refl ∙ sym (got m u b q))
  where
    by : (q : ℕ) (t : Bool) → eqb q u ≡ t → cond t (Some b) (get (insert m u a) q) ≡ cond t (Some b) (get m q)
    by q true e = refl
    by q false e = got m u a q ∙ ap (λ z. cond z (Some a) (get m q)) e

swapped : (m : Latest) (u v : ℕ) (a b : KeptChange) → eqb v u ≡ false → insert (insert m u a) v b ≡ insert (insert m v b) u a
swapped m u v a b apart = same_answers _ _ (λ q. got (insert m u a) v b q ∙ ap (cond (eqb q v) (Some b)) (got m u a q) ∙ by q (eqb q u) (eqb q v) refl refl ∙ sym (got (insert m v b) u a q ∙ ap (cond (eqb q u) (Some a)) (got m v b q)))
  where
    by : (q : ℕ) (s t : Bool) → eqb q u ≡ s → eqb q v ≡ t → cond t (Some b) (cond s (Some a) (get m q)) ≡ cond s (Some a) (cond t (Some b) (get m q))
    by q true true e f = absurd (let z : true ≡ false = sym (eq-eqb v u (sym (eqb-true q v f) ∙ eqb-true q u e)) ∙ apart in cc z)
    by q true false e f = refl
    by q false t e f = refl

-- ---- a change that may go

both : (a b : Bool) → (a && b) ≡ true → (a ≡ true) × (b ≡ true)
both true b e = (refl, e)
both false b e = absurd (cc e)

pub latest_skip : (m : Latest) (k : KeptChange) (later : List KeptChange) → is_overtaken k.uid later ≡ true → latest_after (insert m k.uid k) later ≡ latest_after m later
latest_skip m k [] e = absurd (cc e)
latest_skip m k (n ∷ later) e = by (eqb n.uid k.uid) refl e (latest_skip (insert m n.uid n) k later)
  where
    by : (t : Bool) → eqb n.uid k.uid ≡ t → (t || is_overtaken k.uid later) ≡ true
        → (is_overtaken k.uid later ≡ true → latest_after (insert (insert m n.uid n) k.uid k) later ≡ latest_after (insert m n.uid n) later)
        → latest_after (insert m k.uid k) (n ∷ later) ≡ latest_after m (n ∷ later)
    by true is e rest = ap (λ z. latest_after z later) (subst (λ u. insert (insert m u k) n.uid n ≡ insert m n.uid n) (eqb-true n.uid k.uid is) (absorbed m n.uid k n))
    by false is e rest = ap (λ z. latest_after z later) (swapped m k.uid n.uid k n is) ∙ rest e

replicate_more : (n m b : ℕ) → replicate (n + m) b ≡ replicate n b ++ replicate m b
replicate_more zero m b = ap (λ k. replicate k b) (let z : zero + m ≡ m = omega arith in z)
replicate_more (suc n) m b = ap (λ k. replicate k b) (let z : suc n + m ≡ suc (n + m) = omega arith in z) ∙ ap (λ l. b ∷ l) (replicate_more n m b)

pub filled_skip : (done low high : ℕ) (k : KeptChange) (later : List KeptChange) → AreKept done low high (k ∷ later) → runs_on k later ≡ true
    → filled done (k ∷ later) ≡ filled done later
filled_skip done low high k [] h e = absurd (cc e)
filled_skip done low high k (n ∷ later) h e =
    let here = h.0.place in
    let next = h.1.0.place in
    let same = eqb-true n.before k.before e in
    ap (λ b. replicate (k.place + 1 - done) b ++ filled (k.place + 1) (n ∷ later)) (sym same)
    ∙ sym (append_assoc (replicate (k.place + 1 - done) n.before) (replicate (n.place + 1 - (k.place + 1)) n.before) (filled (n.place + 1) later))
    ∙ ap (λ l. l ++ filled (n.place + 1) later) (sym (replicate_more (k.place + 1 - done) (n.place + 1 - (k.place + 1)) n.before))
    ∙ ap (λ m. replicate m n.before ++ filled (n.place + 1) later) (omega (arith, here, next))

pub kept_lower : (done less low least high : ℕ) (kept : List KeptChange) → less ≤ done → least ≤ low → AreKept done low high kept → AreKept less least high kept
kept_lower done less low least high [] le most h = tt
kept_lower done less low least high (k ∷ kept) le most h =
    let place = h.0.place in
    let before = h.0.after in
    (record { place = omega (arith, place); few = h.0.few; after = omega (arith, before); within = h.0.within }, h.1)

-- any that may go
filled_without : (front back : List KeptChange) (k : KeptChange) (done low high : ℕ) → AreKept done low high (front ++ k ∷ back) → runs_on k back ≡ true
    → filled done (front ++ back) ≡ filled done (front ++ k ∷ back)
filled_without [] back k done low high h e = sym (filled_skip done low high k back h e)
filled_without (f ∷ front) back k done low high h e =
    ap (λ l. replicate (f.place + 1 - done) f.before ++ l) (filled_without front back k (f.place + 1) f.before high h.1 e)

pub latest_without : (front back : List KeptChange) (k : KeptChange) (m : Latest) → is_overtaken k.uid back ≡ true → latest_after m (front ++ back) ≡ latest_after m (front ++ k ∷ back)
latest_without [] back k m e = sym (latest_skip m k back e)
latest_without (f ∷ front) back k m e = latest_without front back k (insert m f.uid f) e

pub any_may_go : AnyMayGo
any_may_go front back k shared h e =
    let t = both (runs_on k back) (is_overtaken k.uid back) e in
    λ i. record { befores = filled_without front back k 0 0 shared h t.0 i; latest = latest_without front back k empty t.1 i }

-- all that may go
filled_short : (kept : List KeptChange) (done low high : ℕ) → AreKept done low high kept → filled done (shortened kept) ≡ filled done kept
filled_short [] done low high h = refl
filled_short (k ∷ kept) done low high h =
    let place = h.0.place in
    by (may_go k kept) refl
    (filled_short kept done low high (kept_lower (k.place + 1) done k.before low high kept (omega (arith, place)) h.0.after h.1))
    (filled_short kept (k.place + 1) k.before high h.1)
  where
    by : (t : Bool) → may_go k kept ≡ t → filled done (shortened kept) ≡ filled done kept → filled (k.place + 1) (shortened kept) ≡ filled (k.place + 1) kept
        → filled done (cond t (shortened kept) (k ∷ shortened kept)) ≡ filled done (k ∷ kept)
    by true e gone kept_on = gone ∙ sym (filled_skip done low high k kept h (both (runs_on k kept) (is_overtaken k.uid kept) e).0)
    by false e gone kept_on = ap (λ l. replicate (k.place + 1 - done) k.before ++ l) kept_on

latest_short : (kept : List KeptChange) (m : Latest) → latest_after m (shortened kept) ≡ latest_after m kept
latest_short [] m = refl
latest_short (k ∷ kept) m = by (may_go k kept) refl (latest_short kept m) (latest_short kept (insert m k.uid k))
  where
    by : (t : Bool) → may_go k kept ≡ t → latest_after m (shortened kept) ≡ latest_after m kept → latest_after (insert m k.uid k) (shortened kept) ≡ latest_after (insert m k.uid k) kept
        → latest_after m (cond t (shortened kept) (k ∷ shortened kept)) ≡ latest_after m (k ∷ kept)
    by true e gone kept_on = gone ∙ sym (latest_skip m k kept (both (runs_on k kept) (is_overtaken k.uid kept) e).1)
    by false e gone kept_on = kept_on

pub found_short : (kept : List KeptChange) (shared : ℕ) → AreKept 0 0 shared kept → found_in (shortened kept) ≡ found_in kept
found_short kept shared h = λ i. record { befores = filled_short kept 0 0 shared h i; latest = latest_short kept empty i }

-- ---- all changes

numbered_kept : (own : List SeenChange) (j low high : ℕ) → AreInOrder low high (befores (map own_entry own)) → j + length own ≤ max_events → AreKept j low high (numbered j own)
numbered_kept [] j low high h few = tt
numbered_kept (s ∷ own) j low high h few = (
  record { place = omega arith; few = omega (arith, few); after = h.0; within = h.1 },
  numbered_kept own (j + 1) s.before high h.2 (omega (arith, few)),
)

pub found_all : (own : List SeenChange) (shared : ℕ) → AreInOrder 0 shared (befores (map own_entry own)) → length own ≤ max_events
    → found_in (shortened (numbered 0 own)) ≡ found_in (numbered 0 own)
found_all own shared order few = found_short (numbered 0 own) shared (numbered_kept own 0 0 shared order (omega (arith, few)))
