-- The UIDs that are told: sets that rise.
use Rattle.std.proofs.Common.{◌≡◌, ℕ, zero, suc, ◌+◌, ◌<◌, ◌≤◌, true, cond, ◌&&◌, not, List, [], ◌∷◌, ◌++◌, length, Some, None, refl, ap, ◌∙◌, arith}
use Rattle.std.specs.Prelude.{nat_lt}
use Rattle.std.specs.List.{range_with_len}
use Rattle.std.proofs.lemmas.Bool.{and_from, lt-ltb, ne_eqb}
use Rattle.imap_mailbox.specs.Rows.{first_uid}
use Rattle.imap_mailbox.specs.Summary.{Rises}
use Rattle.imap_print.specs.Sets.{rise_above, set_of}
use Rattle.imap_changes.specs.CopiedUids.{uids_from}
use Rattle.imap_changes.specs.Finding.{both_sets, with_sets}

-- ---- sets

rising : (below low high : ℕ) (uids : List ℕ) → below < low → Rises low high uids → rise_above below uids ≡ true
rising below low high [] lt h = refl
rising below low high (u ∷ uids) lt h =
    let at : low ≤ u = h.0 in
    and_from (nat_lt below u) (rise_above u uids) (lt-ltb below u (omega (arith, lt, at))) (rising u (u + 1) high uids (omega arith) h.1)

counted : (below first count : ℕ) → below < first → rise_above below (range_with_len first count) ≡ true
counted below first zero lt = refl
counted below first (suc n) lt = and_from (nat_lt below first) (rise_above first (range_with_len (first + 1) n)) (lt-ltb below first lt) (counted first (first + 1) n (omega arith))

is_set : (n : ℕ) (numbers : List ℕ) → rise_above 0 (n ∷ numbers) ≡ true → set_of (n ∷ numbers) ≡ Some (n ∷ numbers)
is_set n numbers e =
    let some = ne_eqb (length (n ∷ numbers)) 0 (λ z. omega (arith, z)) in
    λ j. cond (not (some j) && e j) (Some (n ∷ numbers)) None

pub both_are : (validity next high : ℕ) (uids : List ℕ) → Rises first_uid high uids → first_uid ≤ next → both_sets validity uids (range_with_len next (length uids)) ≡ uids_from validity next uids
both_are validity next high [] h le = refl
both_are validity next high (u ∷ uids) h le =
    let source = is_set u uids (rising 0 first_uid high (u ∷ uids) (omega arith) h) in
    let target = is_set next (range_with_len (next + 1) (length uids)) (counted 0 next (suc (length uids)) (omega (arith, le))) in
    λ j. with_sets validity (source j) (target j)

-- ---- one number after another

last_more : (a n : ℕ) → range_with_len a (suc n) ≡ range_with_len a n ++ (a + n) ∷ []
last_more a zero = let z : a ≡ a + 0 = omega arith in ap (λ k. k ∷ []) z
last_more a (suc n) =
    let z : (a + 1) + n ≡ a + suc n = omega arith in
    ap (λ ns. a ∷ ns) (last_more (a + 1) n ∙ ap (λ k. range_with_len (a + 1) n ++ k ∷ []) z)

pub one_more : (a n : ℕ) → range_with_len a (n + 1) ≡ range_with_len a n ++ (a + n) ∷ []
one_more a n = let on : n + 1 ≡ suc n = omega arith in ap (range_with_len a) on ∙ last_more a n
