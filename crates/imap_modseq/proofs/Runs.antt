-- Own changes by their runs.
use Rattle.std.proofs.Common.{◌≡◌, ℕ, zero, suc, ◌+◌, ◌-◌, ◌<◌, ◌≤◌, eqb, Bool, true, false, List, [], ◌∷◌, ◌++◌, length, map, replicate, drop, get_or, set, refl, sym, ap, subst, ◌∙◌, arith, ⊎_elim, ◌↔◌, IsTrue}
use Rattle.std.proofs.lemmas.Bool.{cases_lt, eqb-true, eq-eqb}
use Rattle.std.proofs.lemmas.List.{append_assoc, append-nil, length-append, length-replicate, get_or-replicate, get_or_append_left, get_or-append-add}
use Rattle.imap_modseq.specs.declared.run.Run.{Run}
use Rattle.imap_modseq.specs.Merge.{AreInOrder}
use Rattle.imap_modseq.specs.Numbers.{own_before}
use Rattle.imap_modseq.specs.Runs.{befores_in, AreRuns, count_in, count_until, ends_at, lengthened}
use Rattle.imap_modseq.proofs.Order.{before_yes, before_no}

-- ---- how many changes there are

pub counts_rise : (low done : ℕ) (runs : List Run) → AreRuns low done runs → done ≤ count_in done runs
counts_rise low done [] h = omega arith
counts_rise low done (r ∷ runs) h =
    let rest = counts_rise (r.before + 1) r.count runs h.2 in
    let more : done < r.count = h.1 in
    omega (arith, rest)

pub length-runs : (low done : ℕ) (runs : List Run) → AreRuns low done runs → length (befores_in done runs) ≡ count_in done runs - done
length-runs low done [] h = omega arith
length-runs low done (r ∷ runs) h =
    let rest = length-runs (r.before + 1) r.count runs h.2 in
    let rise = counts_rise (r.before + 1) r.count runs h.2 in
    let more : done < r.count = h.1 in
    length-append (replicate (r.count - done) r.before) (befores_in r.count runs)
    ∙ omega (arith, length-replicate (r.count - done) r.before, rest, rise)

pub count_is : (runs : List Run) → AreRuns 0 0 runs → count_in 0 runs ≡ length (befores_in 0 runs)
count_is runs h = omega (arith, length-runs 0 0 runs h)

-- the last run has the count
pub last_count : (done : ℕ) (runs : List Run) (d : Run) → 0 < length runs → count_in done runs ≡ (get_or runs (length runs - 1) d).count
last_count done [] d some = absurd (omega (arith, some))
last_count done (r ∷ []) d some = refl
last_count done (r ∷ s ∷ runs) d some =
    last_count r.count (s ∷ runs) d (omega arith) ∙ ap (λ i. (get_or (s ∷ runs) i d).count) (let z : length (s ∷ runs) - 1 ≡ length runs = omega arith in z)
    ∙ ap (λ i. (get_or (r ∷ s ∷ runs) i d).count) (let z : suc (length runs) ≡ length (r ∷ s ∷ runs) - 1 = omega arith in z)

-- ---- the changes before a shared event

many_before : (n b : ℕ) (bs : List ℕ) (p : ℕ) → b ≤ p → own_before (replicate n b ++ bs) p ≡ n + own_before bs p
many_before zero b bs p le = omega arith
many_before (suc n) b bs p le = before_yes b (replicate n b ++ bs) p le ∙ ap (λ m. 1 + m) (many_before n b bs p le) ∙ omega arith

none_before : (n b : ℕ) (bs : List ℕ) (p : ℕ) → 0 < n → p < b → own_before (replicate n b ++ bs) p ≡ 0
none_before zero b bs p some lt = absurd (omega (arith, some))
none_before (suc n) b bs p some lt = before_no b (replicate n b ++ bs) p lt

pub count_zero : (done : ℕ) (runs : List Run) → count_until done runs 0 ≡ done
count_zero done [] = refl
count_zero done (r ∷ runs) = refl

pub runs_before : (low done : ℕ) (runs : List Run) (p : ℕ) → AreRuns low done runs
    → done + own_before (befores_in done runs) p ≡ count_until done runs (own_before (map (λ r. r.before) runs) p)
runs_before low done [] p h = omega arith
runs_before low done (r ∷ runs) p h =
    let some : done < r.count = h.1 in
    ⊎_elim
    (λ (no : p < r.before).
    ap (λ m. done + m) (none_before (r.count - done) r.before (befores_in r.count runs) p (omega arith) no)
    ∙ (let z : done + 0 ≡ done = omega arith in z)
    ∙ ap (count_until done (r ∷ runs)) (sym (before_no r.before (map (λ r. r.before) runs) p no)))
    (λ (le : r.before ≤ p).
    let rest = runs_before (r.before + 1) r.count runs p h.2 in
    ap (λ m. done + m) (many_before (r.count - done) r.before (befores_in r.count runs) p le)
    ∙ (let z : done + ((r.count - done) + own_before (befores_in r.count runs) p) ≡ r.count + own_before (befores_in r.count runs) p = omega arith in z)
    ∙ rest
    ∙ ap (count_until done (r ∷ runs)) (let z : suc (own_before (map (λ r. r.before) runs) p) ≡ own_before (map (λ r. r.before) (r ∷ runs)) p = omega (arith, before_yes r.before (map (λ r. r.before) runs) p le) in z))
    (cases_lt p r.before)

wider : (low less high more : ℕ) (bs : List ℕ) → less ≤ low → high ≤ more → AreInOrder low high bs → AreInOrder less more bs
wider low less high more [] le up h = tt
wider low less high more (b ∷ bs) le up h =
    let first : low ≤ b = h.0 in
    let last : b ≤ high = h.1 in
    (omega arith, omega arith, wider b b high more bs (omega arith) up h.2)

-- runs are in the order that a search asks for, by what is before them and by their counts
pub counts_in_order : (low done : ℕ) (runs : List Run) → AreRuns low done runs → (high : ℕ) × AreInOrder done high (map (λ r. r.count) runs)
counts_in_order low done [] h = (0, tt)
counts_in_order low done (r ∷ runs) h =
    let rest = counts_in_order (r.before + 1) r.count runs h.2 in
    let some : done < r.count = h.1 in
    (rest.0 + r.count, (omega arith, omega arith, wider r.count r.count rest.0 (rest.0 + r.count) (map (λ r. r.count) runs) (omega arith) (omega arith) rest.1))

pub runs_in_order : (low done : ℕ) (runs : List Run) → AreRuns low done runs → (high : ℕ) × AreInOrder low high (map (λ r. r.before) runs)
runs_in_order low done [] h = (0, tt)
runs_in_order low done (r ∷ runs) h =
    let rest = runs_in_order (r.before + 1) r.count runs h.2 in
    (rest.0 + r.before, (h.0, omega arith, wider (r.before + 1) r.before rest.0 (rest.0 + r.before) (map (λ r. r.before) runs) (omega arith) (omega arith) rest.1))

-- what the code reads is the number of changes in the first runs
pub count_at : (done : ℕ) (runs : List Run) (n : ℕ) (d : Run) → n < length runs → count_until done runs (n + 1) ≡ (get_or runs n d).count
count_at done [] n d lt = absurd (omega (arith, lt))
count_at done (r ∷ runs) zero d lt = count_zero r.count runs
count_at done (r ∷ runs) (suc n) d lt =
    ap (count_until done (r ∷ runs)) (let z : suc n + 1 ≡ suc (n + 1) = omega arith in z) ∙ count_at r.count runs n d (omega (arith, lt))

-- ---- the change at a place

pub run_at : (low done : ℕ) (runs : List Run) (p d : ℕ) (e : Run) → AreRuns low done runs → p < length (befores_in done runs)
    → (own_before (map (λ r. r.count) runs) (done + p) < length runs)
    × (get_or (befores_in done runs) p d ≡ (get_or runs (own_before (map (λ r. r.count) runs) (done + p)) e).before)
run_at low done [] p d e h lt = absurd (omega (arith, lt))
run_at low done (r ∷ runs) p d e h lt =
    let some : done < r.count = h.1 in
    let len = length-replicate (r.count - done) r.before in
    ⊎_elim
    (λ (here : done + p < r.count).
    let none = before_no r.count (map (λ r. r.count) runs) (done + p) here in (
      omega (arith, none),
      get_or_append_left (replicate (r.count - done) r.before) (befores_in r.count runs) d p (omega (arith, len))
          ∙ get_or-replicate (r.count - done) p r.before d (omega arith)
          ∙ ap (λ i. (get_or (r ∷ runs) i e).before) (sym none),
    ))
    (λ (past : r.count ≤ done + p).
    let on = before_yes r.count (map (λ r. r.count) runs) (done + p) past in
    let same : done + p ≡ r.count + (p - (r.count - done)) = omega arith in
    let whole = length-append (replicate (r.count - done) r.before) (befores_in r.count runs) in
    let rest = run_at (r.before + 1) r.count runs (p - (r.count - done)) d e h.2 (omega (arith, lt, len, whole)) in
    let shift = ap (λ q. own_before (map (λ r. r.count) runs) q) same in (
      omega (arith, on, shift, rest.0),
      ap (λ q. get_or (replicate (r.count - done) r.before ++ befores_in r.count runs) q d) (let z : p ≡ length (replicate (r.count - done) r.before) + (p - (r.count - done)) = omega (arith, len) in z)
          ∙ get_or-append-add (replicate (r.count - done) r.before) (befores_in r.count runs) (p - (r.count - done)) d
          ∙ rest.1
          ∙ ap (λ i. (get_or (r ∷ runs) (suc i) e).before) (sym shift)
          ∙ ap (λ i. (get_or (r ∷ runs) i e).before) (let z : suc (own_before (map (λ r. r.count) runs) (done + p)) ≡ own_before (map (λ r. r.count) (r ∷ runs)) (done + p) = omega (arith, on) in z),
    ))
    (cases_lt (done + p) r.count)

-- ---- more changes

replicate_more : (n m b : ℕ) → replicate (n + m) b ≡ replicate n b ++ replicate m b
replicate_more zero m b = ap (λ k. replicate k b) (let z : zero + m ≡ m = omega arith in z)
replicate_more (suc n) m b = ap (λ k. replicate k b) (let z : suc n + m ≡ suc (n + m) = omega arith in z) ∙ ap (λ l. b ∷ l) (replicate_more n m b)

pub record AreMore (low done before more : ℕ) (old new : List Run) : Type 0 where
  pub befores : befores_in done new ≡ befores_in done old ++ replicate more before
  pub valid : AreRuns low done new

-- in the run that is the last
pub longer : (low done b m : ℕ) (runs : List Run) → ends_at b runs ≡ true → AreRuns low done runs → AreMore low done b m runs (lengthened m runs)
longer low done b m [] t h = absurd (cc t)
longer low done b m (r ∷ []) t h =
    let some : done < r.count = h.1 in
    record {
      befores = append-nil (replicate (r.count + m - done) r.before)
          ∙ ap (λ n. replicate n r.before) (let z : r.count + m - done ≡ (r.count - done) + m = omega arith in z)
          ∙ replicate_more (r.count - done) m r.before
          ∙ (λ i. sym (append-nil (replicate (r.count - done) r.before)) i ++ replicate m (eqb-true r.before b t i));
      valid = (h.0, omega arith, tt);
    }
longer low done b m (r ∷ s ∷ runs) t h =
    let rest = longer (r.before + 1) r.count b m (s ∷ runs) t h.2 in
    record {
      befores = ap (λ l. replicate (r.count - done) r.before ++ l) rest.befores
          ∙ sym (append_assoc (replicate (r.count - done) r.before) (befores_in r.count (s ∷ runs)) (replicate m b));
      valid = (h.0, h.1, rest.valid);
    }

-- ---- the order of changes

lower : (from low high : ℕ) (bs : List ℕ) → from ≤ low → AreInOrder low high bs → AreInOrder from high bs
lower from low high [] le h = tt
lower from low high (b ∷ bs) le h = let first : low ≤ b = h.0 in (omega arith, h.1, h.2)

-- of the changes of a run, and of those after them
order_rest : (n c : ℕ) (bs : List ℕ) (high from : ℕ) → AreInOrder from high (replicate n c ++ bs) → AreInOrder 0 high bs
order_rest zero c bs high from h = lower 0 from high bs (omega arith) h
order_rest (suc n) c bs high from h = order_rest n c bs high c h.2

order_first : (n c : ℕ) (bs : List ℕ) (high from : ℕ) → 0 < n → AreInOrder from high (replicate n c ++ bs) → c ≤ high
order_first zero c bs high from some order = absurd (omega (arith, some))
order_first (suc n) c bs high from some order = order.1

order_joined : (n c : ℕ) (bs : List ℕ) (high from : ℕ) → from ≤ c → c ≤ high → AreInOrder c high bs → AreInOrder from high (replicate n c ++ bs)
order_joined zero c bs high from le most h = lower from c high bs le h
order_joined (suc n) c bs high from le most h = (le, most, order_joined n c bs high c (omega arith) most h)

-- all have at most as many shared events before them as the last
pub order_of_last : (low done b : ℕ) (runs : List Run) (x : Run) → AreRuns low done runs → 0 < length runs → x ≡ get_or runs (length runs - 1) x → x.before ≤ b
    → AreInOrder low b (befores_in done runs)
order_of_last low done b [] x h some at le = absurd (omega (arith, some))
order_of_last low done b (r ∷ []) x h some at le =
    order_joined (r.count - done) r.before [] b low h.0 (subst (λ (y : Run). y.before ≤ b) at le) tt
order_of_last low done b (r ∷ s ∷ runs) x h some at le =
    let last : length (r ∷ s ∷ runs) - 1 ≡ suc (length (s ∷ runs) - 1) = omega arith in
    let rest = order_of_last (r.before + 1) r.count b (s ∷ runs) x h.2 (omega arith) (at ∙ ap (λ i. get_or (r ∷ s ∷ runs) i x) last) le in
    let up : r.before + 1 ≤ s.before = h.2.0 in
    let many : r.count < s.count = h.2.1 in
    let most = order_first (s.count - r.count) s.before (befores_in s.count runs) b (r.before + 1) (omega (arith, many)) rest in
    order_joined (r.count - done) r.before (befores_in r.count (s ∷ runs)) b low h.0 (omega (arith, up, most)) (lower r.before (r.before + 1) b (befores_in r.count (s ∷ runs)) (omega arith) rest)

pub last_in_order : (low done b : ℕ) (runs : List Run) (x : Run) → AreRuns low done runs → 0 < length runs → x ≡ get_or runs (length runs - 1) x
    → AreInOrder 0 b (befores_in done runs) → x.before ≤ b
last_in_order low done b [] x h some at order = absurd (omega (arith, some))
last_in_order low done b (r ∷ []) x h some at order =
    let many : done < r.count = h.1 in
    subst (λ (y : Run). y.before ≤ b) (sym at) (order_first (r.count - done) r.before [] b 0 (omega (arith, many)) order)
last_in_order low done b (r ∷ s ∷ runs) x h some at order =
    let last : length (r ∷ s ∷ runs) - 1 ≡ suc (length (s ∷ runs) - 1) = omega arith in
    last_in_order (r.before + 1) r.count b (s ∷ runs) x h.2 (omega arith) (at ∙ ap (λ i. get_or (r ∷ s ∷ runs) i x) last)
    (order_rest (r.count - done) r.before (befores_in r.count (s ∷ runs)) b 0 order)

-- in a run of its own
pub added : (low done b m : ℕ) (runs : List Run) → 0 < m → low ≤ b → ends_at b runs ≡ false → AreRuns low done runs → AreInOrder 0 b (befores_in done runs)
    → AreMore low done b m runs (runs ++ record { before = b; count = count_in done runs + m } ∷ [])
added low done b m [] more le t h order = record {
  befores = append-nil (replicate (done + m - done) b) ∙ ap (λ n. replicate n b) (let z : done + m - done ≡ m = omega arith in z);
  valid = (le, omega arith, tt);
}
added low done b m (r ∷ []) more le t h order =
    let some : done < r.count = h.1 in
    let most = order_first (r.count - done) r.before [] b 0 (omega arith) order in
    record {
      befores = ap (λ l. replicate (r.count - done) r.before ++ l) (append-nil (replicate (r.count + m - r.count) b) ∙ ap (λ n. replicate n b) (let z : r.count + m - r.count ≡ m = omega arith in z))
          ∙ ap (λ l. l ++ replicate m b) (sym (append-nil (replicate (r.count - done) r.before)));
      valid = (h.0, h.1, (let z : r.before + 1 ≤ b = less r.before b most (different r.before b t) in z, omega arith, tt));
    }
  where
    different : (m n : ℕ) → eqb m n ≡ false → m ≡ n → ⊥
    different m n f e = let z : true ≡ false = sym (eq-eqb m n e) ∙ f in cc z

    less : (m n : ℕ) → m ≤ n → (m ≡ n → ⊥) → m + 1 ≤ n
    less m n le apart = ⊎_elim (λ (lt : m < n). omega (arith, lt)) (λ (ge : n ≤ m). absurd (apart (omega (arith, le, ge)))) (cases_lt m n)
added low done b m (r ∷ s ∷ runs) more le t h order =
    let tail = order_rest (r.count - done) r.before (befores_in r.count (s ∷ runs)) b 0 order in
    let many : r.count < s.count = h.2.1 in
    let bound = order_first (s.count - r.count) s.before (befores_in s.count runs) b 0 (omega (arith, many)) tail in
    let first : r.before + 1 ≤ s.before = h.2.0 in
    let rest = added (r.before + 1) r.count b m (s ∷ runs) more (omega (arith, bound, first)) t h.2 tail in
    record {
      befores = ap (λ l. replicate (r.count - done) r.before ++ l) rest.befores
          ∙ sym (append_assoc (replicate (r.count - done) r.before) (befores_in r.count (s ∷ runs)) (replicate m b));
      valid = (h.0, h.1, rest.valid);
    }

-- what the code writes is the run with more changes
pub set_last : (done m : ℕ) (runs : List Run) (c : ℕ) (x : Run) → 0 < length runs → x ≡ get_or runs (length runs - 1) x → c ≡ count_in done runs + m
    → set runs (length runs - 1) (record { before = x.before; count = c }) ≡ lengthened m runs
set_last done m [] c x some at is = absurd (omega (arith, some))
set_last done m (r ∷ []) c x some at is = λ i. record { before = (at i).before; count = is i } ∷ []
set_last done m (r ∷ s ∷ runs) c x some at is =
    let last : length (r ∷ s ∷ runs) - 1 ≡ suc (length (s ∷ runs) - 1) = omega arith in
    ap (λ i. set (r ∷ s ∷ runs) i (record { before = x.before; count = c })) last
    ∙ ap (λ l. r ∷ l) (set_last r.count m (s ∷ runs) c x (omega arith) (at ∙ ap (λ i. get_or (r ∷ s ∷ runs) i x) last) is)

pub ends_is : (runs : List Run) (x : Run) (b : ℕ) → 0 < length runs → ((d : Run) → x ≡ get_or runs (length runs - 1) d) → ends_at b runs ≡ eqb x.before b
ends_is [] x b some is = absurd (omega (arith, some))
ends_is (r ∷ []) x b some is = ap (λ (y : Run). eqb y.before b) (sym (is x))
ends_is (r ∷ s ∷ runs) x b some is =
    ends_is (s ∷ runs) x b (omega arith) (λ d. is d ∙ ap (λ i. get_or (r ∷ s ∷ runs) i d) (let z : length (r ∷ s ∷ runs) - 1 ≡ suc (length (s ∷ runs) - 1) = omega arith in z))

-- ---- as the code does it

pub are_longer : (runs lent new : List Run) (b m : ℕ) (t : Bool) → t ≡ ends_at b lent → lent ≡ runs → t ≡ true → new ≡ lengthened m runs → AreRuns 0 0 runs
    → AreMore 0 0 b m runs new
are_longer runs lent new b m t tested same is put h =
    subst (AreMore 0 0 b m runs) (sym put) (longer 0 0 b m runs (ap (ends_at b) (sym same) ∙ sym tested ∙ is) h)

pub are_added : (runs lent new : List Run) (b m : ℕ) (t : Bool) → t ≡ ends_at b lent → lent ≡ runs → t ≡ false
    → new ≡ runs ++ record { before = b; count = count_in 0 runs + m } ∷ [] → 0 < m → AreInOrder 0 b (befores_in 0 runs) → AreRuns 0 0 runs → AreMore 0 0 b m runs new
are_added runs lent new b m t tested same is put more order h =
    subst (AreMore 0 0 b m runs) (sym put) (added 0 0 b m runs more (omega arith) (ap (ends_at b) (sym same) ∙ sym tested ∙ is) h order)

-- ---- the runs of the same changes

none_at : (low done : ℕ) (runs : List Run) (p : ℕ) → p < low → AreRuns low done runs → own_before (befores_in done runs) p ≡ 0
none_at low done [] p lt h = refl
none_at low done (r ∷ runs) p lt h =
    let first : low ≤ r.before = h.0 in
    let some : done < r.count = h.1 in
    none_before (r.count - done) r.before (befores_in r.count runs) p (omega (arith, some)) (omega (arith, first, lt))

count_first : (low done : ℕ) (r : Run) (runs : List Run) → AreRuns low done (r ∷ runs) → own_before (befores_in done (r ∷ runs)) r.before ≡ r.count - done
count_first low done r runs h =
    many_before (r.count - done) r.before (befores_in r.count runs) r.before (omega arith)
    ∙ ap (λ n. r.count - done + n) (none_at (r.before + 1) r.count runs r.before (omega arith) h.2) ∙ omega arith

first_before : (n b : ℕ) (bs : List ℕ) → 0 < n → get_or (replicate n b ++ bs) 0 0 ≡ b
first_before zero b bs some = absurd (omega (arith, some))
first_before (suc n) b bs some = refl

rest_same : (n b : ℕ) (xs ys : List ℕ) → replicate n b ++ xs ≡ replicate n b ++ ys → xs ≡ ys
rest_same zero b xs ys e = e
rest_same (suc n) b xs ys e = rest_same n b xs ys (ap (drop 1) e)

same_runs : (low done : ℕ) (xs ys : List Run) → AreRuns low done xs → AreRuns low done ys → befores_in done xs ≡ befores_in done ys → xs ≡ ys
same_runs low done [] [] g h e = refl
same_runs low done [] (y ∷ ys) g h e =
    let some : done < y.count = h.1 in
    let none = ap length e ∙ length-append (replicate (y.count - done) y.before) (befores_in y.count ys) in
    absurd (omega (arith, some, none, length-replicate (y.count - done) y.before))
same_runs low done (x ∷ xs) [] g h e =
    let some : done < x.count = g.1 in
    let none = ap length (sym e) ∙ length-append (replicate (x.count - done) x.before) (befores_in x.count xs) in
    absurd (omega (arith, some, none, length-replicate (x.count - done) x.before))
same_runs low done (x ∷ xs) (y ∷ ys) g h e =
    let few : done < x.count = g.1 in
    let many : done < y.count = h.1 in
    let some : 0 < x.count - done = omega (arith, few) in
    let others : 0 < y.count - done = omega (arith, many) in
    let before : x.before ≡ y.before =
    sym (first_before (x.count - done) x.before (befores_in x.count xs) some) ∙ ap (λ l. get_or l 0 0) e
    ∙ first_before (y.count - done) y.before (befores_in y.count ys) others in
    let counts : x.count - done ≡ y.count - done =
    sym (count_first low done x xs g) ∙ ap (λ l. own_before l x.before) e
    ∙ ap (own_before (befores_in done (y ∷ ys))) before ∙ count_first low done y ys h in
    let count : x.count ≡ y.count = omega (arith, counts, some, others) in
    let tails : befores_in x.count xs ≡ befores_in y.count ys =
    rest_same (x.count - done) x.before (befores_in x.count xs) (befores_in y.count ys)
    (e ∙ λ i. replicate (sym counts i) (sym before i) ++ befores_in y.count ys) in
    let rest = same_runs (x.before + 1) x.count xs ys g.2
    (subst (λ n. AreRuns n x.count ys) (ap (λ b. b + 1) (sym before)) (subst (λ n. AreRuns (y.before + 1) n ys) (sym count) h.2))
    (tails ∙ ap (λ n. befores_in n ys) (sym count)) in
    λ i. record { before = before i; count = count i } ∷ rest i

pub same_changes : (xs ys : List Run) (t : Bool) → AreRuns 0 0 xs → AreRuns 0 0 ys → (IsTrue t ↔ (xs ≡ ys)) → IsTrue t ↔ (befores_in 0 xs ≡ befores_in 0 ys)
same_changes xs ys t g h tested = (λ is. ap (befores_in 0) (tested.0 is), λ e. tested.1 (same_runs 0 0 xs ys g h e))
