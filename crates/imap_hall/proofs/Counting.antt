-- Counts by number, after a change of one.
use Rattle.std.proofs.Common.{◌≡◌, ◌∙◌, ℕ, suc, ◌+◌, ◌<◌, Bool, true, false, cond, not, eqb, ◌||◌, nat_lt, [], ◌∷◌, ◌++◌, length, set, get_or, Option, Some, None, is_some, subst, true≢false, sym, ap, refl, arith}
use Rattle.std.specs.List.{list_any, position, position_or_len}
use Rattle.std.proofs.lemmas.Bool.Decides.{nat_tests}
use Rattle.imap_hall.specs.Counts.{OwnCounts, IsCountedAt, count_at, raised}

abbrev pub has_number : ℕ → ℕ × ℕ → Bool
has_number n e = eqb e.0 n

-- a number without a count gets the count 0
pub count-push : (es : OwnCounts) (n m : ℕ) → count_at (es ++ (n, 0) ∷ []) m ≡ count_at es m
count-push [] n m = by (eqb n m)
  where
    by : (b : Bool) → ◌≡◌ {A = ℕ} (cond b 0 0) 0
    by true = refl
    by false = refl
count-push (e ∷ es) n m = ap (λ c. cond (eqb e.0 m) e.1 c) (count-push es n m)

pub there-push : (es : OwnCounts) (n : ℕ) → list_any (has_number n) (es ++ (n, 0) ∷ []) ≡ true
there-push [] n = by (eqb n n) (grind (arith, nat_tests))
  where
    by : (b : Bool) → b ≡ true → (b || false) ≡ true
    by true is = refl
    by false is = is
there-push (e ∷ es) n = by (eqb e.0 n) (there-push es n)
  where
    by : (b : Bool) → list_any (has_number n) (es ++ (n, 0) ∷ []) ≡ true → (b || list_any (has_number n) (es ++ (n, 0) ∷ [])) ≡ true
    by true h = refl
    by false h = h

one_more : (j : ℕ) → 1 + j ≡ suc j
one_more j = omega arith

shift : (j l : ℕ) → nat_lt (1 + j) (suc l) ≡ nat_lt j l
shift j l = grind (arith, nat_tests)

-- the first entry with the number
abbrev pub first : ℕ → OwnCounts → ℕ
first n es = position_or_len (has_number n) es

pub any-first : (n : ℕ) (es : OwnCounts) → nat_lt (first n es) (length es) ≡ list_any (has_number n) es
any-first n [] = refl
any-first n (e ∷ es) = by (eqb e.0 n) (any-first n es)
  where
    by : (b : Bool) → nat_lt (first n es) (length es) ≡ list_any (has_number n) es
        → nat_lt (cond (not b) (1 + first n es) 0) (length (e ∷ es)) ≡ (b || list_any (has_number n) es)
    by true h = grind (arith, nat_tests)
    by false h = shift (first n es) (length es) ∙ h

abbrev pub with_more : ℕ → OwnCounts → OwnCounts
with_more n es = set es (first n es) (raised (get_or es (first n es) (0, 0)))

pub one-raised : (n : ℕ) (es : OwnCounts) → list_any (has_number n) es ≡ true → count_at (with_more n es) n ≡ count_at es n + 1
one-raised n [] h = absurd (cc)
one-raised n (e ∷ es) h = by (eqb e.0 n) refl h (one-raised n es)
  where
    by : (b : Bool) → eqb e.0 n ≡ b → (b || list_any (has_number n) es) ≡ true
        → (list_any (has_number n) es ≡ true → count_at (with_more n es) n ≡ count_at es n + 1)
        → count_at (with_more n (e ∷ es)) n ≡ cond (eqb e.0 n) e.1 (count_at es n) + 1
    by true is h rest = rw is (ap (λ b. cond b (e.1 + 1) (count_at es n)) is)
    by false is h rest =
        rw is (subst (λ k. count_at (set (e ∷ es) k (raised (get_or (e ∷ es) k (0, 0)))) n ≡ count_at es n + 1) (sym (one_more (first n es)))
        (ap (λ b. cond b e.1 (count_at (with_more n es) n)) is ∙ rest h))

pub others-raised : (n : ℕ) (es : OwnCounts) (m : ℕ) → eqb m n ≡ false → count_at (with_more n es) m ≡ count_at es m
others-raised n [] m other = refl
others-raised n (e ∷ es) m other = by (eqb e.0 n) refl (others-raised n es m other)
  where
    apart : eqb e.0 n ≡ true → eqb e.0 m ≡ false
    apart is = grind (arith, nat_tests, is, other)

    by : (b : Bool) → eqb e.0 n ≡ b → count_at (with_more n es) m ≡ count_at es m
        → count_at (with_more n (e ∷ es)) m ≡ cond (eqb e.0 m) e.1 (count_at es m)
    by true is rest = rw (is, apart is) refl
    by false is rest =
        rw is (subst (λ k. count_at (set (e ∷ es) k (raised (get_or (e ∷ es) k (0, 0)))) m ≡ cond (eqb e.0 m) e.1 (count_at es m)) (sym (one_more (first n es)))
        (ap (λ c. cond (eqb e.0 m) e.1 c) rest))

pub counted_at : (n : ℕ) (es : OwnCounts) → list_any (has_number n) es ≡ true → IsCountedAt n es (with_more n es)
counted_at n es h = record { one = one-raised n es h; others = λ m other. others-raised n es m other }

pub at-first : (n : ℕ) (es : OwnCounts) → list_any (has_number n) es ≡ true → (get_or es (first n es) (0, 0)).1 ≡ count_at es n
at-first n [] h = absurd (cc)
at-first n (e ∷ es) h = by (eqb e.0 n) refl h (at-first n es)
  where
    by : (b : Bool) → eqb e.0 n ≡ b → (b || list_any (has_number n) es) ≡ true
        → (list_any (has_number n) es ≡ true → (get_or es (first n es) (0, 0)).1 ≡ count_at es n)
        → (get_or (e ∷ es) (first n (e ∷ es)) (0, 0)).1 ≡ cond (eqb e.0 n) e.1 (count_at es n)
    by true is h rest = rw is refl
    by false is h rest =
        rw is (subst (λ k. (get_or (e ∷ es) k (0, 0)).1 ≡ count_at es n) (sym (one_more (first n es))) (rest h))

some_if : (b : Bool) (j : ℕ) → is_some (cond b (Some j) None) ≡ b
some_if true j = refl
some_if false j = refl

pub any-position : (n : ℕ) (es : OwnCounts) → is_some (position (has_number n) es) ≡ list_any (has_number n) es
any-position n es = some_if (nat_lt (first n es) (length es)) (first n es) ∙ any-first n es

-- what a search for the place finds
found : (b : Bool) (j i : ℕ) → Some i ≡ cond b (Some j) None → (b ≡ true) × (j ≡ i)
found true j i is = (refl, cc)
found false j i is = absurd (cc)

pub record IsPlaced (n : ℕ) (es : OwnCounts) (i : ℕ) : Type 0 where
  pub within : i < length es
  pub count : (get_or es i (0, 0)).1 ≡ count_at es n
  pub more : IsCountedAt n es (set es i (raised (get_or es i (0, 0))))

first_placed : (n : ℕ) (es : OwnCounts) → nat_lt (first n es) (length es) ≡ true → IsPlaced n es (first n es)
first_placed n es less =
    let there : list_any (has_number n) es ≡ true = sym (any-first n es) ∙ less in
    record { within = grind (arith, nat_tests, less); count = at-first n es there; more = counted_at n es there }

pub placed : (n : ℕ) (es : OwnCounts) (i : ℕ) → Some i ≡ position (has_number n) es → IsPlaced n es i
placed n es i is =
    let at : (nat_lt (first n es) (length es) ≡ true) × (first n es ≡ i) = found (nat_lt (first n es) (length es)) (first n es) i is in
    subst (IsPlaced n es) at.1 (first_placed n es at.0)

pub same_push : (old new : OwnCounts) (n : ℕ) → new ≡ old ++ (n, 0) ∷ [] → (m : ℕ) → count_at new m ≡ count_at old m
same_push old new n is m = ap (λ es. count_at es m) is ∙ count-push old n m

pub has_push : (old new : OwnCounts) (n : ℕ) → new ≡ old ++ (n, 0) ∷ [] → is_some (position (has_number n) new) ≡ true
has_push old new n is = any-position n new ∙ ap (list_any (has_number n)) is ∙ there-push old n

module _ (n : ℕ) (es items : OwnCounts) (i : ℕ) (is : Some i ≡ position (has_number n) items) (same : items ≡ es) where
  pub bound_at : count_at es n < 9223372036854775808 → (get_or items i (0, 0)).1 < 9223372036854775808
  bound_at less = subst (λ c. c < 9223372036854775808) (sym ((placed n items i is).count ∙ ap (λ x. count_at x n) same)) less

  pub raised_at : (new : OwnCounts) → new ≡ set items i (raised (get_or items i (0, 0))) → IsCountedAt n es new
  raised_at new to = subst (IsCountedAt n es) (sym to) (subst (λ x. IsCountedAt n x (set items i (raised (get_or items i (0, 0))))) same (placed n items i is).more)

pub nowhere : (o p : Option ℕ) → o ≡ None → o ≡ p → is_some p ≡ true → ⊥
nowhere o p none is some = true≢false (sym some ∙ ap is_some (sym is ∙ none))
