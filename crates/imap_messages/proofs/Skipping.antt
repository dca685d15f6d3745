-- From one message that changed to the next.
use Rattle.std.proofs.Common.{◌≡◌, ◌⊎◌, inl, inr, ℕ, zero, suc, ◌+◌, ◌<◌, ◌≤◌, eqb, Bool, true, false, cond, List, [], ◌∷◌, length, get_or, Option, Some, None, is_some, refl, sym, ap, subst, ◌∙◌, arith}
use Rattle.std.specs.Prelude.{nat_lt}
use Rattle.std.specs.List.{prefix_len}
use Rattle.std.proofs.lemmas.Bool.{cases_lt, eq-eqb, le-ltb, ltb-true}
use Rattle.std.proofs.lemmas.List.{get_or-map, get_or_default, length-map}
use Rattle.std.proofs.lemmas.List.Sums.{prefix_len_passes}
use Rattle.imap_mailbox.specs.Above.{AreAtMostFrom}
use Rattle.imap_mailbox.specs.Lent.{place_in, row_uids}
use Rattle.imap_mailbox.specs.Rows.{Row, first_uid}
use Rattle.imap_mailbox.specs.Summary.{AreRising}
use Rattle.imap_mailbox.proofs.Finding.{number_there, up}
use Rattle.imap_messages.specs.Changed.{AreLeft, AreThere, is_changed}
use Rattle.imap_targets.specs.Held.{UidsRise, uid_limit}
use Rattle.imap_targets.proofs.Named.{row_at, row_nowhere, row_within}
use Rattle.imap_targets.specs.MessageNumbers.{row_with}

-- ---- a row that is there

row_here : (uid : ℕ) (rows : List Row) (i : ℕ) → i < length rows → ((r : Row) → r ≡ get_or rows i r → uid ≡ r.uid) → is_some (row_with uid rows) ≡ true
row_here uid [] i lt is = absurd (omega arith)
row_here uid (r ∷ rows) i lt is = by (eqb r.uid uid) refl (λ j. row_here uid rows j) i lt is
  where
    by : (b : Bool) → eqb r.uid uid ≡ b → ((j : ℕ) → j < length rows → ((x : Row) → x ≡ get_or rows j x → uid ≡ x.uid) → is_some (row_with uid rows) ≡ true)
        → (i : ℕ) → i < length (r ∷ rows) → ((x : Row) → x ≡ get_or (r ∷ rows) i x → uid ≡ x.uid) → is_some (cond b (Some r) (row_with uid rows)) ≡ true
    by true e rest i lt is = refl
    by false e rest zero lt is = let z : true ≡ false = sym (eq-eqb r.uid uid (sym (is r refl))) ∙ e in absurd (cc z)
    by false e rest (suc i) lt is = rest i (omega (arith, lt)) is

-- one more is there
pub there_more : (rows : List Row) (known : List ℕ) (start index place x : ℕ) → place < length rows → ((r : Row) → r ≡ get_or rows place r → x ≡ r.uid) → ((d : ℕ) → x ≡ get_or known index d)
    → AreThere rows known start index → AreThere rows known start (index + 1)
there_more rows known start index place x lt is same before i d from to = by (cases_lt i index)
  where
    by : (i < index) ⊎ (index ≤ i) → is_some (row_with (get_or known i d) rows) ≡ true
    by (inl below) = before i d from below
    by (inr at) =
        let here : i ≡ index = omega (arith, at, to) in
        subst (λ j. is_some (row_with (get_or known j d) rows) ≡ true) (sym here) (row_here (get_or known index d) rows place lt (λ r e. sym (same d) ∙ is r e))

-- the message at the index, by any default
pub uid_is : (known : List ℕ) (index : ℕ) (m : ℕ) → index < length known → m ≡ get_or known index m → (d : ℕ) → m ≡ get_or known index d
uid_is known index m lt is d = is ∙ get_or_default known index m d lt

-- ---- rows between that haven't changed

module _ (since u place p : ℕ) (rows : List Row) (rises : AreRising (row_uids rows)) (from : place ≡ prefix_len (λ r. nat_lt r.uid u) rows) (low : AreAtMostFrom since place p rows) where
  low_at : (uid i : ℕ) (d : Row) → u ≤ uid → (p < length rows → uid < (get_or rows p d).uid) → place_in uid (row_uids rows) ≡ Some i → is_changed (Some since) (row_with uid rows) ≡ false
  low_at uid i d le stop e = ap (is_changed (Some since)) (row_at uid rows i d e) ∙ le-ltb since (get_or rows i d).number (low i (get_or rows i d) (after (cases_lt i place)) (before (cases_lt i p)) (get_or_default rows i d (get_or rows i d) lt))
    where
      lt : i < length rows
      lt = row_within uid rows i e

      at : (get_or rows i d).uid ≡ uid
      at = sym (get_or-map (λ (r : Row). r.uid) rows i d 0 lt) ∙ number_there uid (row_uids rows) i 0 e

      after : (i < place) ⊎ (place ≤ i) → place ≤ i
      after (inl less) =
          let passes = prefix_len_passes (λ (r : Row). nat_lt r.uid u) rows i d (subst (λ n. i < n) from less) in
          let lower = ltb-true (get_or rows i d).uid u passes in
          absurd (omega (arith, lower, at, le))
      after (inr more) = more

      before : (i < p) ⊎ (p ≤ i) → i < p
      before (inl less) = less
      before (inr more) =
          let count = length-map rows (λ (r : Row). r.uid) in
          let rise = up rises.0 rises.1 (row_uids rows) p i 0 rises.2 more (omega (arith, count, lt)) in
          let here = get_or-map (λ (r : Row). r.uid) rows i d 0 lt in
          let there = get_or-map (λ (r : Row). r.uid) rows p d 0 (omega (arith, more, lt)) in
          let above = stop (omega (arith, more, lt)) in
          absurd (omega (arith, rise, here, there, above, at))

  low_row : (uid : ℕ) → u ≤ uid → ((d : Row) → p < length rows → uid < (get_or rows p d).uid) → is_changed (Some since) (row_with uid rows) ≡ false
  low_row uid le stop = by rows refl (place_in uid (row_uids rows)) refl
    where
      by : (rs : List Row) → rs ≡ rows → (o : Option ℕ) → place_in uid (row_uids rows) ≡ o → is_changed (Some since) (row_with uid rows) ≡ false
      by rs same None e = ap (is_changed (Some since)) (row_nowhere uid rows e)
      by [] same (Some i) e = ap (λ rs. is_changed (Some since) (row_with uid rs)) (sym same)
      by (r ∷ rs) same (Some i) e = low_at uid i r le (stop r) e

  module _ (known : List ℕ) (index : ℕ) (order : UidsRise known) (first : (d : ℕ) → u ≡ (get_or known index d)) where
    uids_up : (i : ℕ) (d : ℕ) → index ≤ i → i < length known → u ≤ (get_or known i d)
    uids_up i d le lt =
        let rise = up first_uid uid_limit known index i d order le lt in
        omega (arith, rise, first d)

    pub left_to_end : (end : ℕ) → p ≡ length rows → AreLeft since rows known index end
    left_to_end end none i d le to lt = low_row (get_or known i d) (uids_up i d le lt) (λ r less. absurd (omega (arith, none, less)))

    pub left_to_next : (next x : ℕ) → p < length rows → ((r : Row) → r ≡ get_or rows p r → x ≡ r.uid) → next ≡ prefix_len (λ k. nat_lt k x) known → AreLeft since rows known index next
    left_to_next next x within is stops i d le to lt =
        low_row (get_or known i d) (uids_up i d le lt) (λ r less.
        let passes = prefix_len_passes (λ (k : ℕ). nat_lt k x) known i d (subst (λ n. i < n) stops to) in
        let lower = ltb-true (get_or known i d) x passes in
        let uid_is = is (get_or rows p r) (get_or_default rows p r (get_or rows p r) less) in
        omega (arith, lower, uid_is))
