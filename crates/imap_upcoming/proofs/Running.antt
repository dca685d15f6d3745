-- A run of rows that a session knows.
use Rattle.std.proofs.Common.{◌≡◌, ℕ, zero, suc, ◌+◌, ◌-◌, ◌<◌, ◌≤◌, eqb, Bool, true, false, MatchBool, List, [], ◌∷◌, Some, length, take, drop, get_or, refl, sym, ap, ◌∙◌, arith}
use Rattle.std.proofs.lemmas.Bool.{eqb-true}
use Rattle.std.proofs.lemmas.List.{get_or-drop}
use Rattle.imap_batch.specs.Planned.{first_uid}
use Rattle.imap_batch.specs.Untouched.{IsRunTo}
use Rattle.imap_mailbox.specs.Lent.{row_uids}
use Rattle.imap_mailbox.specs.Order.{AreAtMost}
use Rattle.imap_mailbox.specs.Rows.{Row}
use Rattle.imap_mailbox.specs.Summary.{Rises}
use Rattle.imap_session.specs.ByUid.{AgreeByUid}
use Rattle.imap_session.specs.Cursors.{IsKnownRun}

-- the UID of the message at a place, or 0 past the end
abbrev known_uid : List ℕ → ℕ → ℕ
known_uid [] i = 0
known_uid (k ∷ known) zero = k
known_uid (k ∷ known) (suc i) = known_uid known i

abbrev row_uid : List Row → ℕ → ℕ
row_uid [] i = 0
row_uid (r ∷ rows) zero = r.uid
row_uid (r ∷ rows) (suc i) = row_uid rows i

-- what agreement says of a first known message and a first row
data Agrees (n : ℕ) (k : ℕ) (r : Row) (known : List ℕ) (rows : List Row) : Type 0 where
  Same : k ≡ r.uid → AgreeByUid n known rows → Agrees n k r known rows
  Gone : k < r.uid → AgreeByUid n known (r ∷ rows) → Agrees n k r known rows

agrees : (n : ℕ) (k : ℕ) (r : Row) (known : List ℕ) (rows : List Row) → AgreeByUid n (k ∷ known) (r ∷ rows) → Agrees n k r known rows
agrees n k r known rows h = by (eqb k r.uid) refl h
  where
    by : (b : Bool) → eqb k r.uid ≡ b → MatchBool b (AgreeByUid n known rows) ((k < r.uid) × AgreeByUid n known (r ∷ rows))
        → Agrees n k r known rows
    by true e h = Same (eqb-true k r.uid e) h
    by false e h = Gone h.0 h.1

-- rows up to the mod-sequence n are known: there are as many known messages
as_many : (n m : ℕ) (known : List ℕ) (rows : List Row) → AgreeByUid n known rows → m ≤ length rows → AreAtMost n (take m rows) → m ≤ length known
as_many n zero known rows h le low = omega arith
as_many n (suc m) known [] h le low = absurd (omega (arith, le))
as_many n (suc m) [] (r ∷ rows) h le low = absurd (omega (arith, h.0, low.0))
as_many n (suc m) (k ∷ known) (r ∷ rows) h le low =
    by (agrees n k r known rows h) (λ h. as_many n m known rows h (omega (arith, le)) low.1) (λ h. as_many n (suc m) known (r ∷ rows) h le low)
  where
    by : Agrees n k r known rows → (AgreeByUid n known rows → m ≤ length known) → (AgreeByUid n known (r ∷ rows) → suc m ≤ length known) → suc m ≤ suc (length known)
    by (Same uid h) same gone = omega (arith, same h)
    by (Gone lt h) same gone = omega (arith, gone h)

rising : (low high j : ℕ) (known : List ℕ) → Rises low high known → suc j < length known → known_uid known j < known_uid known (suc j)
rising low high j [] h lt = absurd (omega (arith, lt))
rising low high j (k ∷ []) h lt = absurd (omega (arith, lt))
rising low high zero (k ∷ l ∷ known) h lt = omega (arith, h.1.0)
rising low high (suc j) (k ∷ l ∷ known) h lt = rising (k + 1) high j (l ∷ known) h.1 (omega (arith, lt))

-- a row stands at the place of its known message, or before it
at_or_before : (n low high i : ℕ) (known : List ℕ) (rows : List Row) → AgreeByUid n known rows → Rises low high known
    → i < length rows → AreAtMost n (take (suc i) rows) → known_uid known i ≤ row_uid rows i
at_or_before n low high i known [] h rise lt few = absurd (omega (arith, lt))
at_or_before n low high i [] (r ∷ rows) h rise lt few = absurd (omega (arith, h.0, few.0))
at_or_before n low high zero (k ∷ known) (r ∷ rows) h rise lt few = by (agrees n k r known rows h)
  where
    by : Agrees n k r known rows → k ≤ r.uid
    by (Same uid h) = omega (arith, uid)
    by (Gone lt h) = omega (arith, lt)
at_or_before n low high (suc j) (k ∷ known) (r ∷ rows) h rise lt few =
    by (agrees n k r known rows h) (λ h. at_or_before n (k + 1) high j known rows h rise.1 (omega (arith, lt)) few.1)
    (λ h. at_or_before n (k + 1) high (suc j) known (r ∷ rows) h rise.1 lt few)
  where
    by : Agrees n k r known rows → (AgreeByUid n known rows → known_uid known j ≤ row_uid rows j) → (AgreeByUid n known (r ∷ rows) → known_uid known (suc j) ≤ row_uid rows j)
        → known_uid known j ≤ row_uid rows j
    by (Same uid h) same gone = same h
    by (Gone less h) same gone =
        omega (arith, gone h, rising (k + 1) high j known rise.1 (omega (arith, as_many n (suc (suc j)) known (r ∷ rows) h (omega (arith, lt)) few)))

-- a row at the place of its known message: so are all before it
run_known : (n low high i : ℕ) (known : List ℕ) (rows : List Row) → AgreeByUid n known rows → Rises low high known
    → i < length rows → AreAtMost n (take (suc i) rows) → known_uid known i ≡ row_uid rows i → take (suc i) known ≡ row_uids (take (suc i) rows)
run_known n low high i known [] h rise lt few e = absurd (omega (arith, lt))
run_known n low high i [] (r ∷ rows) h rise lt few e = absurd (omega (arith, h.0, few.0))
run_known n low high zero (k ∷ known) (r ∷ rows) h rise lt few e = by (agrees n k r known rows h)
  where
    by : Agrees n k r known rows → k ∷ [] ≡ r.uid ∷ []
    by (Same uid h) = ap (λ x. x ∷ []) uid
    by (Gone less h) = absurd (omega (arith, less, e))
run_known n low high (suc j) (k ∷ known) (r ∷ rows) h rise lt few e =
    by (agrees n k r known rows h) (λ h. run_known n (k + 1) high j known rows h rise.1 (omega (arith, lt)) few.1 e)
  where
    by : Agrees n k r known rows → (AgreeByUid n known rows → take (suc j) known ≡ row_uids (take (suc j) rows))
        → k ∷ take (suc j) known ≡ r.uid ∷ row_uids (take (suc j) rows)
    by (Same uid h) later = λ t. uid t ∷ later h t
    by (Gone less h) later =
        absurd (omega (
          arith,
          e,
          at_or_before n (k + 1) high (suc j) known (r ∷ rows) h rise.1 lt few,
          rising (k + 1) high j known rise.1 (omega (arith, as_many n (suc (suc j)) known (r ∷ rows) h (omega (arith, lt)) few)),
        ))

-- ---- from a place on

known_uid_at : (known : List ℕ) (i : ℕ) (k : ℕ) → i < length known → k ≡ get_or known i k → known_uid known i ≡ k
known_uid_at [] i k lt is = absurd (omega (arith, lt))
known_uid_at (x ∷ known) zero k lt is = sym is
known_uid_at (x ∷ known) (suc i) k lt is = known_uid_at known i k (omega (arith, lt)) is

row_uid_at : (rows : List Row) (i uid : ℕ) → first_uid (drop i rows) ≡ Some uid → row_uid rows i ≡ uid
row_uid_at [] zero uid e = absurd (cc e)
row_uid_at [] (suc i) uid e = absurd (cc e)
row_uid_at (r ∷ rows) zero uid e = cc e
row_uid_at (r ∷ rows) (suc i) uid e = row_uid_at rows i uid e

rises_from : (low high p : ℕ) (known : List ℕ) → Rises low high known → (from : ℕ) × Rises from high (drop p known)
rises_from low high zero known h = (low, h)
rises_from low high (suc p) [] h = (low, h)
rises_from low high (suc p) (k ∷ known) h = rises_from (k + 1) high p known h.1

pub is_known_run : (n low high p len uid : ℕ) (known : List ℕ) (rows : List Row) (k : ℕ) → AgreeByUid n (drop p known) rows → Rises low high known
    → IsRunTo n uid len rows → k ≡ get_or known (p + (len - 1)) k → k ≡ uid → IsKnownRun n len (drop p known) rows
is_known_run n low high p len uid known rows k agree rise run at same = by len run at
  where
    by : (len : ℕ) → IsRunTo n uid len rows → k ≡ get_or known (p + (len - 1)) k → IsKnownRun n len (drop p known) rows
    by zero run at = absurd (omega (arith, run.some))
    by (suc i) run at =
        let rises = rises_from low high p known rise in
        let few = as_many n (suc i) (drop p known) rows agree run.few run.numbers in
        let place : p + (suc i - 1) ≡ p + i = omega arith in
        let before : suc i - 1 ≡ i = omega arith in
        let here : k ≡ get_or (drop p known) i k = at ∙ ap (λ j. get_or known j k) place ∙ sym (get_or-drop p known i k) in
        let last : first_uid (drop i rows) ≡ Some uid = ap (λ j. first_uid (drop j rows)) (sym before) ∙ run.last in
        let uids = known_uid_at (drop p known) i k (omega (arith, few)) here ∙ same ∙ sym (row_uid_at rows i uid last) in
        record { few = few; same = run_known n rises.0 high i (drop p known) rows agree rises.1 (omega (arith, run.few)) run.numbers uids; low = run.numbers }
