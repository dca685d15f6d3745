-- How often a number stands in a list.
use Rattle.std.proofs.Common.{◌≡◌, ◌≢◌, ℕ, ◌+◌, ◌<◌, ◌≤◌, eqb, leb, ltb, not, Bool, true, false, cond, ◌&&◌, ◌||◌, List, [], ◌∷◌, ◌++◌, filter, refl, sym, ap, ◌∙◌, arith, ⊎_elim}
use Rattle.std.proofs.lemmas.Bool.{cases_lt, ne_eqb, eq-eqb, eqb-true, lt-leb, le-leb, lt-ltb, le-ltb}
use Rattle.imap_mailbox.specs.Rows.{is_among}
use Rattle.imap_mailbox.specs.Summary.{count_of, given_once}

-- 1 if both are one number
abbrev pub one : ℕ → ℕ → ℕ
one m n = cond (eqb m n) 1 0

pub one_other : (m p : ℕ) → m ≢ p → one m p ≡ 0
one_other m p apart = ap (λ b. cond b 1 0) (ne_eqb m p apart)

pub one_same : (m p : ℕ) → m ≡ p → one m p ≡ 1
one_same m p is = ap (λ b. cond b 1 0) (eq-eqb m p is)

pub count_more : (p m : ℕ) (ns : List ℕ) → count_of p (m ∷ ns) ≡ one m p + count_of p ns
count_more p m ns = by (eqb m p)
  where
    by : (b : Bool) → cond b (1 + count_of p ns) (count_of p ns) ≡ cond b 1 0 + count_of p ns
    by true = refl
    by false = omega arith

pub count_push : (p m : ℕ) (ns : List ℕ) → count_of p (ns ++ m ∷ []) ≡ count_of p ns + one m p
count_push p m [] = omega (arith, count_more p m [])
count_push p m (n ∷ ns) = omega (arith, count_more p n (ns ++ m ∷ []), count_more p n ns, count_push p m ns)

apart_by : (m n : ℕ) → eqb m n ≡ false → m ≢ n
apart_by m n e = λ is. absurd (cc (sym e ∙ eq-eqb m n is))

-- without one number
pub count_without : (uid q : ℕ) (us : List ℕ) → count_of q (filter (λ u. not (eqb u uid)) us) ≡ cond (eqb uid q) 0 (count_of q us)
count_without uid q [] = by (eqb uid q)
  where
    by : (b : Bool) → count_of q [] ≡ cond b 0 (count_of q [])
    by true = refl
    by false = refl
count_without uid q (u ∷ us) = by (eqb u uid) (eqb uid q) refl refl (count_without uid q us)
  where
    rest : List ℕ
    rest = filter (λ u. not (eqb u uid)) us

    by : (t v : Bool) → eqb u uid ≡ t → eqb uid q ≡ v → count_of q rest ≡ cond v 0 (count_of q us) → count_of q (cond (not t) (u ∷ rest) rest) ≡ cond v 0 (count_of q (u ∷ us))
    by true true e f later = later
    by true false e f later =
        let is = eqb-true u uid e in
        let other = apart_by uid q f in
        let none = one_other u q (λ same. other (sym is ∙ same)) in
        omega (arith, later, none, count_more q u us)
    by false true e f later =
        let is = eqb-true uid q f in
        let other = apart_by u uid e in
        let none = one_other u q (λ same. other (same ∙ sym is)) in
        omega (arith, later, none, count_more q u rest)
    by false false e f later = omega (arith, later, count_more q u rest, count_more q u us)

pub among_counts : (q : ℕ) (us : List ℕ) → is_among q us ≡ true → 1 ≤ count_of q us
among_counts q [] e = absurd (cc e)
among_counts q (u ∷ us) e = by (eqb u q) e (among_counts q us)
  where
    by : (b : Bool) → b || is_among q us ≡ true → (is_among q us ≡ true → 1 ≤ count_of q us) → 1 ≤ cond b (1 + count_of q us) (count_of q us)
    by true e later = omega arith
    by false e later = later e

-- ---- UIDs that were given

given_low : (n q : ℕ) → q < 1 → given_once n q ≡ 0
given_low n q lt = ap (λ b. cond (b && ltb q n) 1 0) (lt-leb 1 q lt)

given_high : (n q : ℕ) → n ≤ q → given_once n q ≡ 0
given_high n q le = ap (λ b. cond (leb 1 q && b) 1 0) (le-ltb q n le) ∙ by (leb 1 q)
  where
    zeros : ℕ
    zeros = 0

    by : (b : Bool) → cond (b && false) 1 zeros ≡ zeros
    by true = refl
    by false = refl

pub given_yes : (n q : ℕ) → 1 ≤ q → q < n → given_once n q ≡ 1
given_yes n q low high = λ i. cond (le-leb 1 q low i && lt-ltb q n high i) 1 0

pub given_most : (n q : ℕ) → given_once n q ≤ 1
given_most n q = by (leb 1 q && ltb q n)
  where
    by : (b : Bool) → cond b 1 0 ≤ 1
    by true = omega arith
    by false = omega arith

-- one UID more is given
pub given_more : (n q : ℕ) → 1 ≤ n → given_once (n + 1) q ≡ given_once n q + one n q
given_more n q first = ⊎_elim
    (λ (lt : q < n). let none = one_other n q (λ e. omega (arith, e, lt)) in ⊎_elim
    (λ (low : q < 1). omega (arith, none, given_low (n + 1) q low, given_low n q low))
    (λ (le : 1 ≤ q). omega (arith, none, given_yes (n + 1) q le (omega (arith, lt)), given_yes n q le lt))
    (cases_lt q 1))
    (λ (le : n ≤ q). ⊎_elim
    (λ (far : n < q). omega (arith, one_other n q (λ e. omega (arith, e, far)), given_high (n + 1) q (omega (arith, far)), given_high n q le))
    (λ (near : q ≤ n). omega (arith, one_same n q (omega (arith, le, near)), given_yes (n + 1) q (omega (arith, le, first)) (omega (arith, near)), given_high n q le))
    (cases_lt n q))
    (cases_lt q n)

pub none_given : (q : ℕ) → 0 ≡ given_once 1 q
none_given q = ⊎_elim (λ (low : q < 1). sym (given_low 1 q low)) (λ (le : 1 ≤ q). sym (given_high 1 q le)) (cases_lt q 1)
