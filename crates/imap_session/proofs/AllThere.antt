-- Known messages that are all there.
use Rattle.std.proofs.Common.{◌≡◌, ℕ, zero, suc, ◌+◌, ◌-◌, ◌<◌, ◌≤◌, eqb, ltb, MatchBool, Bool, true, false, List, [], ◌∷◌, length, drop, get_or, refl, sym, ap, subst, ◌∙◌, arith}
use Rattle.std.specs.List.{prefix_len}
use Rattle.std.proofs.lemmas.Bool.{eqb-true, ltb-true}
use Rattle.std.proofs.lemmas.List.{get_or-drop, length-drop}
use Rattle.std.proofs.lemmas.List.Sums.{prefix_len_passes}
use Rattle.imap_mailbox.specs.Rows.{Row}
use Rattle.imap_session.specs.ByUid.{AgreeByUid}
use Rattle.imap_session.specs.Cursors.{AreFirst, AreLow, IsKnownRun}
use Rattle.imap_session.proofs.Worded.{row_at}

-- the first known message is the first row, or is gone
module _ (number : ℕ) (k : ℕ) (known : List ℕ) (r : Row) (rows : List Row) where
  agree_by : (P : Type 0) → AgreeByUid number (k ∷ known) (r ∷ rows) → (k ≡ r.uid → AgreeByUid number known rows → P)
      → (k < r.uid → AgreeByUid number known (r ∷ rows) → P) → P
  agree_by P h same gone = by (eqb k r.uid) refl h
    where
      by : (b : Bool) → eqb k r.uid ≡ b → MatchBool b (AgreeByUid number known rows) ((k < r.uid) × AgreeByUid number known (r ∷ rows)) → P
      by true e h = same (eqb-true k r.uid e) h
      by false e h = gone h.0 h.1

  both_first : (n : ℕ) → k ≡ r.uid → AreFirst n known rows → AreFirst (suc n) (k ∷ known) (r ∷ rows)
  both_first n same rest = record { few = omega (arith, rest.few); there = omega (arith, rest.there); same = at }
    where
      at : (i x : ℕ) (y : Row) → i < suc n → get_or (k ∷ known) i x ≡ (get_or (r ∷ rows) i y).uid
      at zero x y lt = same
      at (suc i) x y lt = rest.same i x y (omega (arith, lt))

  later_first : (n : ℕ) → AreFirst (suc n) (k ∷ known) (r ∷ rows) → AreFirst n known rows
  later_first n first = record { few = omega (arith, first.few); there = omega (arith, first.there); same = λ i x y lt. first.same (suc i) x y (omega (arith, lt)) }

pub none_first : (known : List ℕ) (rows : List Row) → AreFirst 0 known rows
none_first known rows = record { few = omega arith; there = omega arith; same = λ i k r lt. absurd (omega (arith, lt)) }

-- the rows before the place n have lower UIDs
abbrev pub AreBelow : (uid n : ℕ) → List Row → Type 0
AreBelow uid n rows = (i : ℕ) (r : Row) → i < n → i < length rows → (get_or rows i r).uid < uid

-- the known messages up to the UID are fewer than the rows that have lower ones, which are known
too_few : (number uid m : ℕ) (known : List ℕ) (rows : List Row) (d : ℕ) → AgreeByUid number known rows → m < length known → get_or known m d ≡ uid
    → AreBelow uid (m + 1) rows → m < length rows → ⊥
too_few number uid m [] rows d h few is below lt = absurd (omega (arith, few))
too_few number uid m (k ∷ known) [] d h few is below lt = absurd (omega (arith, lt))
too_few number uid zero (k ∷ known) (r ∷ rows) d h few is below lt =
    let low : r.uid < uid = below 0 r (omega arith) (omega arith) in
    let one : k ≡ uid = is in
    agree_by number k known r rows ⊥ h (λ same later. absurd (omega (arith, same, low, one))) (λ gone later. absurd (omega (arith, gone, low, one)))
too_few number uid (suc m) (k ∷ known) (r ∷ rows) d h few is below lt =
    agree_by number k known r rows ⊥ h
    (λ same later. too_few number uid m known rows d later (omega (arith, few)) is (λ i x i_lt within. below (suc i) x (omega (arith, i_lt)) (omega (arith, within))) (omega (arith, lt)))
    (λ gone later. too_few number uid m known (r ∷ rows) d later (omega (arith, few)) is (λ i x i_lt within. below i x (omega (arith, i_lt)) within) (omega (arith, lt)))

-- the known message at the place m stands at the place m, and rows before have lower UIDs
pub all_there : (number uid m : ℕ) (known : List ℕ) (rows : List Row) (d : ℕ) (x : Row) → AgreeByUid number known rows → m < length known → get_or known m d ≡ uid
    → AreBelow uid m rows → m < length rows → (get_or rows m x).uid ≡ uid → AreFirst (suc m) known rows
all_there number uid m [] rows d x h few is below lt at = absurd (omega (arith, few))
all_there number uid m (k ∷ known) [] d x h few is below lt at = absurd (omega (arith, lt))
all_there number uid zero (k ∷ known) (r ∷ rows) d x h few is below lt at =
    both_first number k known r rows 0 (is ∙ sym at) (none_first known rows)
all_there number uid (suc m) (k ∷ known) (r ∷ rows) d x h few is below lt at =
    agree_by number k known r rows (AreFirst (suc (suc m)) (k ∷ known) (r ∷ rows)) h
    (λ same later. both_first number k known r rows (suc m) same
    (all_there number uid m known rows d x later (omega (arith, few)) is (λ i y i_lt within. below (suc i) y (omega (arith, i_lt)) (omega (arith, within))) (omega (arith, lt)) at))
    (λ gone later. absurd (too_few number uid m known (r ∷ rows) d later (omega (arith, few)) is (λ i y i_lt within. below i y (omega (arith, i_lt)) within) (omega (arith, lt))))

-- of these the first m did not change
pub run_there : (number n m : ℕ) (known : List ℕ) (rows : List Row) → AgreeByUid number known rows → AreFirst n known rows → m ≤ n → AreLow number m rows
    → IsKnownRun number m known rows
run_there number n zero known rows h first le low = record { few = omega arith; same = refl; low = tt }
run_there number zero (suc m) known rows h first le low = absurd (omega (arith, le))
run_there number (suc n) (suc m) [] rows h first le low = let few = first.few in absurd (omega (arith, few))
run_there number (suc n) (suc m) (k ∷ known) [] h first le low = let there = first.there in absurd (omega (arith, there))
run_there number (suc n) (suc m) (k ∷ known) (r ∷ rows) h first le low =
    agree_by number k known r rows (IsKnownRun number (suc m) (k ∷ known) (r ∷ rows)) h
    (λ same later.
    let rest = run_there number n m known rows later (later_first number k known r rows n first) (omega (arith, le)) (λ i x lt is. low (suc i) x (omega (arith, lt)) is) in
    let few = rest.few in
    record { few = omega (arith, few); same = λ j. same j ∷ rest.same j; low = (low 0 r (omega arith) refl, rest.low) })
    (λ gone later. let same : k ≡ r.uid = first.same 0 k r (omega arith) in absurd (omega (arith, gone, same)))

-- ---- known messages from a place on, and rows from a place on

-- the last of n known messages, `k`, stands before `end`, and rows before have lower UIDs
pub last_there : (number p s n : ℕ) (known : List ℕ) (rows : List Row) (k : ℕ) → AgreeByUid number (drop p known) (drop s rows) → 0 < n → p + n ≤ length known
    → s + n ≤ length rows → k ≡ get_or known (p + n - 1) k → ((r : Row) → r ≡ get_or rows (s + n - 1) r → k ≡ r.uid) → s + n - 1 ≡ prefix_len (λ (r : Row). ltb r.uid k) rows
    → AreFirst n (drop p known) (drop s rows)
last_there number p s n known rows k agree some few within is at place =
    let m : ℕ = n - 1 in
    let stands = row_at rows (s + n - 1) (omega (arith, some, within)) in
    let last : p + m ≡ p + n - 1 = omega (arith, some) in
    let ends : s + m ≡ s + n - 1 = omega (arith, some) in
    let one : suc m ≡ n = omega (arith, some) in
    subst (λ (l : ℕ). AreFirst l (drop p known) (drop s rows)) one
    (all_there number k m (drop p known) (drop s rows) k stands.row agree (omega (arith, length-drop p known, some, few))
    (get_or-drop p known m k ∙ ap (λ i. get_or known i k) last ∙ sym is)
    (λ i r lt inside. ap_low (get_or-drop s rows i r) (ltb-true (get_or rows (s + i) r).uid k (prefix_len_passes (λ (x : Row). ltb x.uid k) rows (s + i) r (omega (arith, lt, ends, place)))))
    (omega (arith, length-drop s rows, some, within))
    (ap (λ (x : Row). x.uid) (get_or-drop s rows m stands.row ∙ ap (λ i. get_or rows i stands.row) ends ∙ sym stands.is) ∙ sym (at stands.row stands.is)))
  where
    ap_low : {x y : Row} → x ≡ y → y.uid < k → x.uid < k
    ap_low e lt = subst (λ (z : Row). z.uid < k) (sym e) lt
