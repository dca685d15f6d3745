-- UIDs that are known, and rise.
use Rattle.std.proofs.Common.{◌≡◌, ℕ, ◌+◌, ◌<◌, ◌≤◌, eqb, Bool, true, false, ◌&&◌, ◌||◌, List, [], ◌∷◌, ◌++◌, refl, sym, ap, ◌∙◌, arith}
use Rattle.std.specs.Prelude.{nat_le}
use Rattle.std.proofs.lemmas.Bool.{and_parts, and_from, ne_eqb, eq-eqb, leb-true}
use Rattle.imap_mailbox.specs.Rows.{is_among}
use Rattle.imap_mailbox.specs.Summary.{Rises}
use Rattle.imap_batch.specs.Batch.{are_known}
use Rattle.imap_batch.proofs.Steps.{among_given}

pub among_append : (uid : ℕ) (a b : List ℕ) → is_among uid a ≡ true → is_among uid (a ++ b) ≡ true
among_append uid [] b e = absurd (cc e)
among_append uid (u ∷ a) b e = by (eqb u uid) e (among_append uid a b)
  where
    by : (x : Bool) → x || is_among uid a ≡ true → (is_among uid a ≡ true → is_among uid (a ++ b) ≡ true) → x || is_among uid (a ++ b) ≡ true
    by true e rest = refl
    by false e rest = rest e

pub among_last : (uid : ℕ) (a : List ℕ) → is_among uid (a ++ uid ∷ []) ≡ true
among_last uid [] = ap (λ b. b || false) (eq-eqb uid uid refl)
among_last uid (u ∷ a) = ap (λ b. eqb u uid || b) (among_last uid a) ∙ or_true (eqb u uid)
  where
    or_true : (b : Bool) → b || true ≡ true
    or_true true = refl
    or_true false = refl

-- UIDs that are known are below the end of those that there are
pub known_within : (l low high : ℕ) (uids known : List ℕ) → l ≤ high → Rises low high known → are_known l uids known ≡ true → Rises l high uids
known_within l low high [] known le h e = le
known_within l low high (uid ∷ uids) known le h e =
    let first = and_parts (nat_le l uid) (is_among uid known && are_known (uid + 1) uids known) e in
    let rest = and_parts (is_among uid known) (are_known (uid + 1) uids known) first.1 in
    let within = among_given low high uid known h rest.0 in
    (leb-true l uid first.0, known_within (uid + 1) low high uids known (omega (arith, within.1)) h rest.1)

-- the first of those that there are is none of those that come after it
pub known_drop : (l u : ℕ) (uids us : List ℕ) → u < l → are_known l uids (u ∷ us) ≡ true → are_known l uids us ≡ true
known_drop l u [] us lt e = refl
known_drop l u (uid ∷ uids) us lt e =
    let first = and_parts (nat_le l uid) (is_among uid (u ∷ us) && are_known (uid + 1) uids (u ∷ us)) e in
    let rest = and_parts (is_among uid (u ∷ us)) (are_known (uid + 1) uids (u ∷ us)) first.1 in
    let le : l ≤ uid = leb-true l uid first.0 in
    and_from (nat_le l uid) (is_among uid us && are_known (uid + 1) uids us) first.0
    (and_from (is_among uid us) (are_known (uid + 1) uids us)
    (ap (λ b. b || is_among uid us) (sym (ne_eqb u uid (λ e. omega (arith, e, le, lt)))) ∙ rest.0)
    (known_drop (uid + 1) u uids us (omega (arith, le, lt)) rest.1))

pub known_append : (l : ℕ) (uids a b : List ℕ) → are_known l uids a ≡ true → are_known l uids (a ++ b) ≡ true
known_append l [] a b e = refl
known_append l (uid ∷ uids) a b e =
    let first = and_parts (nat_le l uid) (is_among uid a && are_known (uid + 1) uids a) e in
    let rest = and_parts (is_among uid a) (are_known (uid + 1) uids a) first.1 in
    and_from (nat_le l uid) (is_among uid (a ++ b) && are_known (uid + 1) uids (a ++ b)) first.0
    (and_from (is_among uid (a ++ b)) (are_known (uid + 1) uids (a ++ b)) (among_append uid a b rest.0) (known_append (uid + 1) uids a b rest.1))
