-- Rows that a batch leaves as they are.
use Rattle.std.proofs.Common.{◌≡◌, ◌≢◌, ◌⊎◌, inl, inr, ℕ, zero, suc, ◌+◌, ◌-◌, ◌<◌, ◌≤◌, false, not, cond, ◌||◌, List, [], ◌∷◌, ◌++◌, Some, length, take, drop, get_or, refl, sym, ap, subst, ◌∙◌, arith, ne_eqb}
use Rattle.std.specs.Prelude.{is_some}
use Rattle.std.proofs.lemmas.Bool.{cases_lt}
use Rattle.std.proofs.lemmas.List.{append_assoc, drop-drop, get_or-map, length-append, length-drop, length-map, length-take-le}
use Rattle.std.proofs.lemmas.List.Elements.{filter-append}
use Rattle.imap_mailbox.specs.Lent.{row_uids}
use Rattle.imap_mailbox.specs.Order.{AreAtMost}
use Rattle.imap_mailbox.specs.Rows.{Row, is_among}
use Rattle.imap_mailbox.specs.Summary.{AreRising}
use Rattle.imap_mailbox.proofs.Finding.{up}
use Rattle.imap_batch.specs.declared.batch.FlagUpdate.{FlagUpdate}
use Rattle.imap_batch.specs.declared.marks_left.MarksLeft.{MarksLeft}
use Rattle.imap_batch.specs.Batch.{one_if}
use Rattle.imap_batch.specs.Planned.{own_after, first_uid, marked_by, row_marked, rows_left, rows_marked, StartsLeft}
use Rattle.imap_batch.specs.Untouched.{AreLeft, IsBeforeMarks, IsRunTo}
use Rattle.imap_batch.proofs.Walking.{first_stays, first_uid_left, row_at}

-- ---- rows one after another

abbrev Each : (P : Row → Type 0) → List Row → Type 0
Each P [] = Unit {0}
Each P (r ∷ rows) = P r × Each P rows

each_at : (P : Row → Type 0) (rows : List Row) (p k : ℕ) → p + k ≤ length rows → ((i : ℕ) (r : Row) → p ≤ i → i < p + k → r ≡ get_or rows i r → P r) → Each P (take k (drop p rows))
each_at P rows p zero le h = tt
each_at P [] p (suc k) le h = absurd (omega (arith, le))
each_at P (r ∷ rows) zero (suc k) le h = (h 0 r (omega arith) (omega arith) refl, each_at P rows zero k (omega (arith, le)) (λ i s from to is. h (suc i) s (omega arith) (omega (arith, to)) is))
each_at P (r ∷ rows) (suc p) (suc k) le h = each_at P rows p (suc k) (omega (arith, le)) (λ i s from to is. h (suc i) s (omega (arith, from)) (omega (arith, to)) is)

each_most : (n : ℕ) (rows : List Row) → Each (λ r. r.number ≤ n) rows → AreAtMost n rows
each_most n [] h = tt
each_most n (r ∷ rows) h = (h.0, each_most n rows h.1)

-- none of them is expunged
all_staying : (uids : List ℕ) (rows : List Row) → Each (λ r. is_among r.uid uids ≡ false) rows → rows_left uids rows ≡ rows
all_staying uids [] h = refl
all_staying uids (r ∷ rows) h = first_stays uids r rows h.0 ∙ ap (λ l. r ∷ l) (all_staying uids rows h.1)

-- they come before the first mark
unmarked : (shared own : ℕ) (mark : FlagUpdate) (marks : List FlagUpdate) (k : ℕ) (rows : List Row) → Each (λ r. r.uid < mark.uid) (take k rows)
    → rows_marked shared own (mark ∷ marks) rows ≡ take k rows ++ rows_marked shared own (mark ∷ marks) (drop k rows)
unmarked shared own mark marks zero rows h = refl
unmarked shared own mark marks (suc k) [] h = refl
unmarked shared own mark marks (suc k) (r ∷ rows) h =
    ap (λ b. cond b (row_marked shared own mark r ∷ rows_marked (shared + one_if (is_some mark.flags)) (own_after own mark.seen) marks rows) (r ∷ rows_marked shared own (mark ∷ marks) rows))
    (ne_eqb mark.uid r.uid (λ e. absurd (omega (arith, h.0, e))))
    ∙ ap (λ l. r ∷ l) (unmarked shared own mark marks k rows h.1)

unmarked_run : (m : MarksLeft) (k : ℕ) (rows : List Row) → ((mark : FlagUpdate) (marks : List FlagUpdate) → m.marks.now ≡ mark ∷ marks → Each (λ r. r.uid < mark.uid) (take k rows))
    → marked_by m rows ≡ take k rows ++ marked_by m (drop k rows)
unmarked_run m k rows h = by m.marks.now h
  where
    joined : (k : ℕ) (rows : List Row) → rows ≡ take k rows ++ drop k rows
    joined zero rows = refl
    joined (suc k) [] = refl
    joined (suc k) (r ∷ rows) = ap (λ l. r ∷ l) (joined k rows)

    by : (ms : List FlagUpdate) → ((mark : FlagUpdate) (marks : List FlagUpdate) → ms ≡ mark ∷ marks → Each (λ r. r.uid < mark.uid) (take k rows))
        → rows_marked m.shared m.own ms rows ≡ take k rows ++ rows_marked m.shared m.own ms (drop k rows)
    by [] h = joined k rows
    by (mark ∷ marks) h = unmarked m.shared m.own mark marks k rows (h mark marks refl)

-- ---- past rows that are left as they are

drop_front : (k : ℕ) (rows rest : List Row) → k ≤ length rows → drop k (take k rows ++ rest) ≡ rest
drop_front zero rows rest le = refl
drop_front (suc k) [] rest le = absurd (omega (arith, le))
drop_front (suc k) (r ∷ rows) rest le = drop_front k rows rest (omega (arith, le))

take_front : (k : ℕ) (rows rest : List Row) → k ≤ length rows → take k (take k rows ++ rest) ≡ take k rows
take_front zero rows rest le = refl
take_front (suc k) [] rest le = absurd (omega (arith, le))
take_front (suc k) (r ∷ rows) rest le = ap (λ l. r ∷ l) (take_front k rows rest (omega (arith, le)))

-- the rows that are planned
abbrev plan : MarksLeft → List ℕ → List Row → List Row → List Row
plan m uids added rows = rows_left uids (marked_by m rows) ++ added

-- the batch marks and expunges none of the `len` rows from the place p on
pub record IsRun (m : MarksLeft) (uids : List ℕ) (rows : List Row) (p len : ℕ) : Type 0 where
  pub there : p + len ≤ length rows
  pub left : AreLeft m.marks.now uids p (p + len) rows

-- a part of them
pub fewer : (m : MarksLeft) (uids : List ℕ) (rows : List Row) (p len k : ℕ) → k ≤ len → IsRun m uids rows p len → IsRun m uids rows p k
fewer m uids rows p len k le h = record {
  there = let there = h.there in omega (arith, there, le);
  left = record {
    unmarked = λ i r from to is. h.left.unmarked i r from (omega (arith, to, le)) is;
    staying = λ i r from to is. h.left.staying i r from (omega (arith, to, le)) is;
  };
}

pub run_until : (m : MarksLeft) (uids : List ℕ) (rows : List Row) (p end : ℕ) → p ≤ end → end ≤ length rows → AreLeft m.marks.now uids p end rows → IsRun m uids rows p (end - p)
run_until m uids rows p end le within left =
    let all : end ≡ p + (end - p) = omega (arith, le) in
    record { there = omega (arith, le, within); left = subst (λ n. AreLeft m.marks.now uids p n rows) all left }

module _ (m : MarksLeft) (uids : List ℕ) (added rows : List Row) (p len : ℕ) (h : IsRun m uids rows p len) where
  fits : len ≤ length (drop p rows)
  fits = let there = h.there in omega (arith, length-drop p rows, there)

  split : plan m uids added (drop p rows) ≡ take len (drop p rows) ++ plan m uids added (drop len (drop p rows))
  split =
      ap (λ l. rows_left uids l ++ added) (unmarked_run m len (drop p rows) before)
      ∙ ap (λ l. l ++ added) (filter-append (λ (r : Row). not (is_among r.uid uids)) (take len (drop p rows)) (marked_by m (drop len (drop p rows))))
      ∙ ap (λ l. (l ++ rows_left uids (marked_by m (drop len (drop p rows)))) ++ added)
      (all_staying uids (take len (drop p rows)) (each_at (λ r. is_among r.uid uids ≡ false) rows p len h.there h.left.staying))
      ∙ append_assoc (take len (drop p rows)) (rows_left uids (marked_by m (drop len (drop p rows)))) added
    where
      before : (mark : FlagUpdate) (marks : List FlagUpdate) → m.marks.now ≡ mark ∷ marks → Each (λ r. r.uid < mark.uid) (take len (drop p rows))
      before mark marks is = each_at (λ r. r.uid < mark.uid) rows p len h.there (λ i r from to at. subst (λ ms. IsBeforeMarks r.uid ms) is (h.left.unmarked i r from to at))

  pub skipped : plan m uids added (drop (p + len) rows) ≡ drop len (plan m uids added (drop p rows))
  skipped =
      sym (ap (drop len) split ∙ drop_front len (drop p rows) (plan m uids added (drop len (drop p rows))) fits ∙ ap (plan m uids added) (drop-drop len p rows))

  pub planned_length : len ≤ length (plan m uids added (drop p rows))
  planned_length = omega (arith, ap length split, length-append (take len (drop p rows)) (plan m uids added (drop len (drop p rows))), length-take-le len (drop p rows) fits)

  numbers_to : (number : ℕ) → ((i : ℕ) (r : Row) → p ≤ i → i < p + len → r ≡ get_or rows i r → r.number ≤ number) → AreAtMost number (take len (plan m uids added (drop p rows)))
  numbers_to number low =
      subst (AreAtMost number) (sym (ap (take len) split ∙ take_front len (drop p rows) (plan m uids added (drop len (drop p rows))) fits))
      (each_most number (take len (drop p rows)) (each_at (λ r. r.number ≤ number) rows p len h.there low))

-- the UID of the last of them
last_of : (m : MarksLeft) (uids : List ℕ) (added rows : List Row) (p k uid : ℕ) → IsRun m uids rows p (k + 1) → ((row : Row) → row ≡ get_or rows (p + k) row → row.uid ≡ uid)
    → first_uid (drop k (plan m uids added (drop p rows))) ≡ Some uid
last_of m uids added rows p k uid h named =
    let lt : p + k < length rows = let there = h.there in omega (arith, there) in
    let at = row_at rows (p + k) lt in
    let starts : StartsLeft uids (drop (p + k) rows) = subst (StartsLeft uids) (sym at.left) (h.left.staying (p + k) at.row (omega arith) (omega arith) at.is) in
    ap first_uid (sym (skipped m uids added rows p k (fewer m uids rows p (k + 1) k (omega arith) h)))
    ∙ first_uid_left uids rows (p + k) m added lt starts ∙ ap Some (named at.row at.is)

pub run_to : (m : MarksLeft) (uids : List ℕ) (added rows : List Row) (p len number last : ℕ) → IsRun m uids rows p len → 0 < len
    → ((i : ℕ) (r : Row) → p ≤ i → i < p + len → r ≡ get_or rows i r → r.number ≤ number)
    → ((row : Row) → row ≡ get_or rows (p + len - 1) row → row.uid ≡ last)
    → IsRunTo number last len (plan m uids added (drop p rows))
run_to m uids added rows p len number last h some low named = record {
  some = some;
  few = planned_length m uids added rows p len h;
  numbers = numbers_to m uids added rows p len h number low;
  last = last_of m uids added rows p (len - 1) last (subst (IsRun m uids rows p) whole h) (λ row is. named row (is ∙ ap (λ i. get_or rows i row) place));
}
  where
    whole : len ≡ len - 1 + 1
    whole = omega (arith, some)

    place : p + (len - 1) ≡ p + len - 1
    place = omega (arith, some)

-- ---- UIDs from a place on

pub uids_up : (rows : List Row) (p i : ℕ) (r : Row) (uid : ℕ) → AreRising (row_uids rows) → p ≤ i → i < length rows → ((row : Row) → row ≡ get_or rows p row → uid ≡ row.uid) → r ≡ get_or rows i r
    → uid ≤ r.uid
uids_up rows p i r uid (low, high, rises) le lt first is =
    let at = row_at rows p (omega (arith, le, lt)) in
    let later = up low high (row_uids rows) p i 0 rises le (omega (arith, lt, length-map rows (λ (x : Row). x.uid))) in
    let here : get_or (row_uids rows) p 0 ≡ at.row.uid = get_or-map (λ (x : Row). x.uid) rows p at.row 0 (omega (arith, le, lt)) ∙ ap (λ (x : Row). x.uid) (sym at.is) in
    let there : get_or (row_uids rows) i 0 ≡ r.uid = get_or-map (λ (x : Row). x.uid) rows i r 0 lt ∙ ap (λ (x : Row). x.uid) (sym is) in
    omega (arith, later, here, there, first at.row at.is)

-- ---- the first of rising UIDs that isn't less than another

absent : (uid : ℕ) (uids : List ℕ) → ((k : ℕ) → k < length uids → get_or uids k 0 ≢ uid) → is_among uid uids ≡ false
absent uid [] h = refl
absent uid (u ∷ uids) h = ap (λ b. b || is_among uid uids) (ne_eqb u uid (h 0 (omega arith))) ∙ absent uid uids (λ k lt. h (suc k) (omega (arith, lt)))

pub none_from : (low i uid : ℕ) (uids : List ℕ) → ((k : ℕ) → k < i → get_or uids k 0 < low) → length uids ≤ i → low ≤ uid → is_among uid uids ≡ false
none_from low i uid uids below all le = absent uid uids (λ k lt e. let less = below k (omega (arith, lt, all)) in omega (arith, less, e, le))

pub none_before : (low i first uid : ℕ) (uids : List ℕ) → AreRising uids → ((k : ℕ) → k < i → get_or uids k 0 < low) → i < length uids → first ≡ get_or uids i 0 → low ≤ uid → uid < first
    → is_among uid uids ≡ false
none_before low i first uid uids (least, most, rises) below there is le less = absent uid uids (λ k lt. by k lt (cases_lt k i))
  where
    by : (k : ℕ) → k < length uids → (k < i) ⊎ (i ≤ k) → get_or uids k 0 ≢ uid
    by k lt (inl before) e = let lower = below k before in absurd (omega (arith, lower, e, le))
    by k lt (inr after) e = let higher = up least most uids i k 0 rises after lt in absurd (omega (arith, higher, is, less, e))
