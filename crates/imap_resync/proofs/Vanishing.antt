-- The UIDs of VANISHED, sorted from those that are gone.
use Rattle.std.proofs.Common.{◌≡◌, ℕ, zero, suc, ◌+◌, ◌-◌, ◌<◌, ◌≤◌, eqb, Bool, true, false, cond, ◌&&◌, ◌||◌, List, [], ◌∷◌, filter, map-id, inl, inr, ◌⊎◌, ⊎_elim, le_antisymm, refl, sym, ap, subst, ◌∙◌, arith, IsPermutation}
use Rattle.std.specs.Prelude.{nat_lt, Option, Some, None, option_map}
use Rattle.std.specs.List.{range_with_len}
use Rattle.std.specs.List.Sorted.{IsNonDecreasing}
use Rattle.std.proofs.lemmas.Bool.{and_from, and_parts, cases_lt, eq-eqb, eqb-true, lt-ltb}
use Rattle.std.proofs.lemmas.List.Sorted.{IsPermutation-sym}
use Rattle.imap_mailbox.specs.Brought.{highest_in}
use Rattle.imap_mailbox.specs.Lent.{gone_after_number}
use Rattle.imap_mailbox.specs.Order.{AreGoneInOrder, uids_gone}
use Rattle.imap_mailbox.specs.Rows.{first_uid}
use Rattle.imap_mailbox.specs.Shown.{Content}
use Rattle.imap_mailbox.specs.Summary.{Rises, count_of, given_once}
use Rattle.imap_mailbox.proofs.Counts.{count_more, one_same}
use Rattle.imap_mailbox.proofs.Reordered.{Has, count_moved, given_most, given_within, has_moved, rises_sorted, same_rising}
use Rattle.imap_mailbox.proofs.Rising.{rises_lower}
use Rattle.imap_print.specs.declared.response.Response.{Response}
use Rattle.imap_print.specs.Sets.{rise_above}
use Rattle.imap_resync.specs.UidSet.{UidSet, includes}
use Rattle.imap_resync.specs.Vanished.{earlier_line, vanished, vanished_of, went_after}

-- ---- elements of a filter

filter_has : {X : Type 0} (p : X → Bool) (xs : List X) (x : X) → Has (filter p xs) x → Has xs x × (p x ≡ true)
filter_has p [] x h = absurd h
filter_has p (y ∷ ys) x h = by (p y) refl (filter_has p ys x) h
  where
    by : (b : Bool) → p y ≡ b → (Has (filter p ys) x → Has ys x × (p x ≡ true)) → Has (cond b (y ∷ filter p ys) (filter p ys)) x → ((y ≡ x) ⊎ Has ys x) × (p x ≡ true)
    by true e later (inl is) = (inl is, ap p (sym is) ∙ e)
    by true e later (inr has) = let rest = later has in (inr rest.0, rest.1)
    by false e later has = let rest = later has in (inr rest.0, rest.1)

has_filter : {X : Type 0} (p : X → Bool) (xs : List X) (x : X) → Has xs x → p x ≡ true → Has (filter p xs) x
has_filter p [] x h t = absurd h
has_filter p (y ∷ ys) x h t = by (p y) refl (λ has. has_filter p ys x has t) h
  where
    by : (b : Bool) → p y ≡ b → (Has ys x → Has (filter p ys) x) → (y ≡ x) ⊎ Has ys x → Has (cond b (y ∷ filter p ys) (filter p ys)) x
    by true e later (inl is) = inl is
    by true e later (inr has) = inr (later has)
    by false e later (inl is) = absurd (cc (sym e ∙ ap p is ∙ t))
    by false e later (inr has) = later has

count_kept : (p : ℕ → Bool) (m : ℕ) (ns : List ℕ) → count_of m (filter p ns) ≤ count_of m ns
count_kept p m [] = omega arith
count_kept p m (n ∷ ns) = by (p n) (count_kept p m ns)
  where
    by : (b : Bool) → count_of m (filter p ns) ≤ count_of m ns → count_of m (cond b (n ∷ filter p ns) (filter p ns)) ≤ count_of m (n ∷ ns)
    by true le = omega (arith, le, count_more m n (filter p ns), count_more m n ns)
    by false le = omega (arith, le, count_more m n ns)

rises_kept : (p : ℕ → Bool) (low high : ℕ) (ns : List ℕ) → Rises low high ns → Rises low high (filter p ns)
rises_kept p low high [] h = h
rises_kept p low high (n ∷ ns) h = by (p n) (rises_kept p (n + 1) high ns h.1)
  where
    by : (b : Bool) → Rises (n + 1) high (filter p ns) → Rises low high (cond b (n ∷ filter p ns) (filter p ns))
    by true rest = (h.0, rest)
    by false rest = let from : low ≤ n = h.0 in rises_lower (n + 1) low high (filter p ns) (omega (arith, from)) rest

-- ---- ranges

range_rises : (low n high : ℕ) → low + n ≡ high → Rises low high (range_with_len low n)
range_rises low zero high is = omega (arith, is)
range_rises low (suc n) high is = (omega arith, range_rises (low + 1) n high (omega (arith, is)))

in_range : (low n x : ℕ) → low ≤ x → x < low + n → Has (range_with_len low n) x
in_range low zero x le lt = absurd (omega (arith, le, lt))
in_range low (suc n) x le lt =
    ⊎_elim (λ (less : low < x). inr (in_range (low + 1) n x (omega (arith, less)) (omega (arith, lt)))) (λ (most : x ≤ low). inl (le_antisymm le most)) (cases_lt low x)

-- ---- numbers that rise

rises_above : (below low high : ℕ) (ns : List ℕ) → below < low → Rises low high ns → rise_above below ns ≡ true
rises_above below low high [] lt h = refl
rises_above below low high (n ∷ ns) lt h =
    let from : low ≤ n = h.0 in
    and_from (nat_lt below n) (rise_above n ns) (lt-ltb below n (omega (arith, lt, from))) (rises_above n (n + 1) high ns (omega arith) h.1)

-- lists that rise and have the same elements
same_risen : (low high more end : ℕ) (ns ms : List ℕ) → Rises low high ns → Rises more end ms → ((x : ℕ) → Has ns x → Has ms x) → ((x : ℕ) → Has ms x → Has ns x) → ns ≡ ms
same_risen low high more end ns ms h k = same_rising (λ (n : ℕ). n) low high more end ns ms (subst (Rises low high) (sym (map-id ns)) h) (subst (Rises more end) (sym (map-id ms)) k)

-- ---- the UIDs of messages that went

late_has : (since uid : ℕ) (gone : List (ℕ × ℕ)) → Has (uids_gone (gone_after_number since gone)) uid → went_after since gone uid ≡ true
late_has since uid [] h = absurd h
late_has since uid (g ∷ gone) h = by (nat_lt since g.1) (late_has since uid gone) h
  where
    or_true : (b : Bool) → (b || true) ≡ true
    or_true true = refl
    or_true false = refl

    by : (b : Bool) → (Has (uids_gone (gone_after_number since gone)) uid → went_after since gone uid ≡ true)
        → Has (uids_gone (cond b (g ∷ gone_after_number since gone) (gone_after_number since gone))) uid → ((eqb g.0 uid && b) || went_after since gone uid) ≡ true
    by true later (inl is) = ap (λ b. (b && true) || went_after since gone uid) (eq-eqb g.0 uid is)
    by true later (inr has) = ap (λ b. (eqb g.0 uid && true) || b) (later has) ∙ or_true (eqb g.0 uid && true)
    by false later has = ap (λ b. (eqb g.0 uid && false) || b) (later has) ∙ or_true (eqb g.0 uid && false)

has_late : (since uid : ℕ) (gone : List (ℕ × ℕ)) → went_after since gone uid ≡ true → Has (uids_gone (gone_after_number since gone)) uid
has_late since uid [] e = absurd (cc e)
has_late since uid (g ∷ gone) e = by (eqb g.0 uid) refl (nat_lt since g.1) (has_late since uid gone) e
  where
    by : (a : Bool) → eqb g.0 uid ≡ a → (b : Bool) → (went_after since gone uid ≡ true → Has (uids_gone (gone_after_number since gone)) uid)
        → ((a && b) || went_after since gone uid) ≡ true → Has (uids_gone (cond b (g ∷ gone_after_number since gone) (gone_after_number since gone))) uid
    by true is true later f = inl (eqb-true g.0 uid is)
    by true is false later f = later f
    by false is true later f = inr (later f)
    by false is false later f = later f

has_count : (m : ℕ) (ns : List ℕ) → Has ns m → 0 < count_of m ns
has_count m [] h = absurd h
has_count m (n ∷ ns) (inl is) = omega (arith, count_more m n ns, one_same n m is)
has_count m (n ∷ ns) (inr has) = let some = has_count m ns has in omega (arith, count_more m n ns, some)

count_late : (since uid : ℕ) (gone : List (ℕ × ℕ)) → count_of uid (uids_gone (gone_after_number since gone)) ≤ count_of uid (uids_gone gone)
count_late since uid [] = omega arith
count_late since uid (g ∷ gone) = by (nat_lt since g.1) (count_late since uid gone)
  where
    by : (b : Bool) → count_of uid (uids_gone (gone_after_number since gone)) ≤ count_of uid (uids_gone gone)
        → count_of uid (uids_gone (cond b (g ∷ gone_after_number since gone) (gone_after_number since gone))) ≤ count_of uid (uids_gone (g ∷ gone))
    by true rest = omega (arith, rest, count_more uid g.0 (uids_gone (gone_after_number since gone)), count_more uid g.0 (uids_gone gone))
    by false rest = omega (arith, rest, count_more uid g.0 (uids_gone gone))

-- each UID that is gone was given, and none stands twice
module _ (next since : ℕ) (uids : Option UidSet) (gone : List (ℕ × ℕ)) (given : (uid : ℕ) → count_of uid (uids_gone gone) ≤ given_once next uid) where
  abbrev late : List ℕ
  late = uids_gone (gone_after_number since gone)

  once : (uid : ℕ) → count_of uid late ≤ given_once next uid
  once uid = let few = count_late since uid gone in let most = given uid in omega (arith, few, most)

  abbrev test : ℕ → Bool
  test uid = went_after since gone uid && includes uids uid

  pub late_vanished : (uid : ℕ) → Has late uid → includes uids uid ≡ true → Has (vanished next since uids gone) uid
  late_vanished uid has chosen =
      let some = has_count uid late has in
      let most = once uid in
      let within = given_within next uid (omega (arith, some, most)) in
      has_filter test (range_with_len first_uid (next - first_uid)) uid (in_range 1 (next - 1) uid within.0 (omega (arith, within.0, within.1)))
      (and_from (went_after since gone uid) (includes uids uid) (late_has since uid gone has) chosen)

  pub vanished_late : (uid : ℕ) → Has (vanished next since uids gone) uid → Has late uid × (includes uids uid ≡ true)
  vanished_late uid has =
      let parts = filter_has test (range_with_len first_uid (next - first_uid)) uid has in
      let tests = and_parts (went_after since gone uid) (includes uids uid) parts.1 in
      (has_late since uid gone tests.0, tests.1)

  module _ (found : List ℕ) (same : IsPermutation (filter (includes uids) (uids_gone (gone_after_number since gone))) found) (sorted : IsNonDecreasing found) where
    chosen : (uid : ℕ) → count_of uid found ≤ count_of uid late
    chosen uid = let moved = count_moved uid (filter (includes uids) late) found same in let kept = count_kept (includes uids) uid late in omega (arith, moved, kept)

    found_rises : Rises 1 (next + 1) found
    found_rises =
        rises_sorted 1 (next + 1) found (omega arith) sorted
        (λ uid. let few = chosen uid in let most = once uid in let one = given_most next uid in omega (arith, few, most, one))
        (λ uid some. let few = chosen uid in let most = once uid in let within = given_within next uid (omega (arith, some, few, most)) in (within.0, omega (arith, within.1)))

    there : (uid : ℕ) → Has found uid → Has (vanished next since uids gone) uid
    there uid has =
        let parts = filter_has (includes uids) late uid (has_moved found (filter (includes uids) late) (IsPermutation-sym (filter (includes uids) late) found same) uid has) in
        late_vanished uid parts.0 parts.1

    back : (uid : ℕ) → Has (vanished next since uids gone) uid → Has found uid
    back uid has =
        let parts = vanished_late uid has in
        has_moved (filter (includes uids) late) found same uid (has_filter (includes uids) late uid parts.0 parts.1)

    pub found_vanished : found ≡ vanished next since uids gone
    found_vanished =
        same_risen 1 (next + 1) 1 (1 + (next - 1)) found (vanished next since uids gone) found_rises
        (rises_kept test 1 (1 + (next - 1)) (range_with_len 1 (next - 1)) (range_rises 1 (next - 1) (1 + (next - 1)) refl)) there back

    pub found_above : rise_above 0 found ≡ true
    found_above = rises_above 0 1 (next + 1) found (omega arith) found_rises

-- ---- in what is shown of a mailbox

pub shown_vanished : (since : ℕ) (uids : Option UidSet) (content : Option Content) (gone : List (ℕ × ℕ)) → Some gone ≡ option_map (λ c. c.gone) content
    → ((c : Content) → content ≡ Some c → AreGoneInOrder c.next (highest_in c) c.gone)
    → (lines : List Response) → ((next highest : ℕ) → AreGoneInOrder next highest gone → lines ≡ earlier_line (vanished next since uids gone))
    → lines ≡ earlier_line (vanished_of since uids content)
shown_vanished since uids None gone is valid lines h = absurd (cc is)
shown_vanished since uids (Some content) gone is valid lines h =
    let same : gone ≡ content.gone = cc is in
    h content.next (highest_in content) (subst (AreGoneInOrder content.next (highest_in content)) (sym same) (valid content refl))
    ∙ ap (λ (g : List (ℕ × ℕ)). earlier_line (vanished content.next since uids g)) same
