-- How many of some UIDs pass a test.
use Rattle.std.proofs.Common.{◌≡◌, ℕ, ◌+◌, ◌<◌, ◌≤◌, eqb, not, ◌&&◌, ◌||◌, Bool, true, false, cond, List, [], ◌∷◌, ◌++◌, filter, map, refl, ap, ◌∙◌, arith}
use Rattle.std.specs.Prelude.{count_by}
use Rattle.std.proofs.lemmas.Bool.{ne_eqb, eqb-true}
use Rattle.std.proofs.lemmas.List.Sums.{sum_by-cons}
use Rattle.imap_mailbox.specs.Rows.{is_among}
use Rattle.imap_mailbox.specs.Summary.{Rises}

abbrev pub one_of : Bool → ℕ
one_of b = cond b 1 0

pub among_above : (uid low high : ℕ) (us : List ℕ) → uid < low → Rises low high us → is_among uid us ≡ false
among_above uid low high [] lt h = refl
among_above uid low high (u ∷ us) lt h =
    let at : low ≤ u = h.0 in
    ap (λ b. b || is_among uid us) (ne_eqb u uid (λ e. omega (arith, at, lt, e))) ∙ among_above uid (u + 1) high us (omega (arith, at, lt)) h.1

pub counts : {X : Type 0} (p : X → Bool) (x : X) (xs : List X) → count_by p (x ∷ xs) ≡ one_of (p x) + count_by p xs
counts {X} p x xs = sum_by-cons (λ (x : X). cond (p x) 1 0) x xs

pub counted_alike : {X : Type 0} (p q : X → Bool) (xs : List X) → ((x : X) → p x ≡ q x) → count_by p xs ≡ count_by q xs
counted_alike p q xs same = λ i. count_by (λ x. same x i) xs

module _ (q : ℕ → Bool) where
  -- another answer for one of the UIDs
  pub answered : (uid : ℕ) (b : Bool) (low high : ℕ) (us : List ℕ) → Rises low high us
      → count_by (λ u. cond (eqb u uid) b (q u)) us + one_of (is_among uid us && q uid) ≡ count_by q us + one_of (is_among uid us && b)
  answered uid b low high [] h = refl
  answered uid b low high (u ∷ us) h = by (eqb u uid) refl (answered uid b (u + 1) high us h.1)
    where
      new : ℕ → Bool
      new u = cond (eqb u uid) b (q u)

      by : (t : Bool) → eqb u uid ≡ t → count_by new us + one_of (is_among uid us && q uid) ≡ count_by q us + one_of (is_among uid us && b)
          → count_by new (u ∷ us) + one_of ((eqb u uid || is_among uid us) && q uid) ≡ count_by q (u ∷ us) + one_of ((eqb u uid || is_among uid us) && b)
      by true e later =
          let is = eqb-true u uid e in
          let none : is_among uid us ≡ false = among_above uid (u + 1) high us (omega (arith, is)) h.1 in
          let rest : count_by new us ≡ count_by q us = (let z = ap (λ a. one_of (a && q uid)) none in let w = ap (λ a. one_of (a && b)) none in omega (arith, later, z, w)) in
          let first : one_of (new u) ≡ one_of b = ap (λ t. one_of (cond t b (q u))) e in
          let old : one_of (q u) ≡ one_of (q uid) = ap (λ n. one_of (q n)) is in
          let left : one_of ((eqb u uid || is_among uid us) && q uid) ≡ one_of (q uid) = ap (λ t. one_of ((t || is_among uid us) && q uid)) e in
          let right : one_of ((eqb u uid || is_among uid us) && b) ≡ one_of b = ap (λ t. one_of ((t || is_among uid us) && b)) e in
          omega (arith, counts new u us, counts q u us, rest, first, old, left, right)
      by false e later =
          let first : one_of (new u) ≡ one_of (q u) = ap (λ t. one_of (cond t b (q u))) e in
          let left : one_of ((eqb u uid || is_among uid us) && q uid) ≡ one_of (is_among uid us && q uid) = ap (λ t. one_of ((t || is_among uid us) && q uid)) e in
          let right : one_of ((eqb u uid || is_among uid us) && b) ≡ one_of (is_among uid us && b) = ap (λ t. one_of ((t || is_among uid us) && b)) e in
          omega (arith, counts new u us, counts q u us, later, first, left, right)

  pub counted_there : (uid : ℕ) (us : List ℕ) → is_among uid us ≡ true → one_of (q uid) ≤ count_by q us
  counted_there uid [] e = absurd (cc e)
  counted_there uid (u ∷ us) e = by (eqb u uid) refl e (counted_there uid us)
    where
      by : (t : Bool) → eqb u uid ≡ t → t || is_among uid us ≡ true → (is_among uid us ≡ true → one_of (q uid) ≤ count_by q us) → one_of (q uid) ≤ count_by q (u ∷ us)
      by true is there later = let same : one_of (q u) ≡ one_of (q uid) = ap (λ n. one_of (q n)) (eqb-true u uid is) in omega (arith, counts q u us, same)
      by false is there later = let rest = later there in omega (arith, counts q u us, rest)

  -- one UID less
  pub counted_without : (uid low high : ℕ) (us : List ℕ) → Rises low high us
      → count_by q (filter (λ u. not (eqb u uid)) us) + one_of (is_among uid us && q uid) ≡ count_by q us
  counted_without uid low high [] h = refl
  counted_without uid low high (u ∷ us) h = by (eqb u uid) refl (counted_without uid (u + 1) high us h.1)
    where
      rest : List ℕ
      rest = filter (λ u. not (eqb u uid)) us

      by : (t : Bool) → eqb u uid ≡ t → count_by q rest + one_of (is_among uid us && q uid) ≡ count_by q us
          → count_by q (cond (not t) (u ∷ rest) rest) + one_of ((t || is_among uid us) && q uid) ≡ count_by q (u ∷ us)
      by true e later =
          let is = eqb-true u uid e in
          let none : is_among uid us ≡ false = among_above uid (u + 1) high us (omega (arith, is)) h.1 in
          let old : one_of (q u) ≡ one_of (q uid) = ap (λ n. one_of (q n)) is in
          let nothing : one_of (is_among uid us && q uid) ≡ 0 = ap (λ a. one_of (a && q uid)) none in
          omega (arith, counts q u us, later, old, nothing)
      by false e later = omega (arith, counts q u us, counts q u rest, later)

  pub counted_push : (u : ℕ) (us : List ℕ) → count_by q (us ++ u ∷ []) ≡ count_by q us + one_of (q u)
  counted_push u [] = omega (arith, counts q u [])
  counted_push u (v ∷ us) = let rest = counted_push u us in omega (arith, counts q v us, counts q v (us ++ u ∷ []), rest)

-- by what they are the UIDs of
pub counted_map : {X Y : Type 0} (q : Y → Bool) (f : X → Y) (xs : List X) → count_by (λ x. q (f x)) xs ≡ count_by q (map f xs)
counted_map q f [] = refl
counted_map q f (x ∷ xs) =
    let rest = counted_map q f xs in
    omega (arith, rest, counts (λ x. q (f x)) x xs, counts q (f x) (map f xs))
