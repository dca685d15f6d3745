-- The rows that a batch will leave, one row further.
use Rattle.std.proofs.Common.{◌≡◌, ℕ, zero, suc, ◌+◌, ◌<◌, ◌≤◌, eqb, not, Bool, true, false, cond, List, [], ◌∷◌, ◌++◌, Some, length, drop, get_or, refl, sym, ap, subst, ◌∙◌, arith}
use Rattle.std.specs.Prelude.{is_some}
use Rattle.std.proofs.lemmas.List.{drop_more, drop_all}
use Rattle.imap_mailbox.specs.Rows.{Row, is_among}
use Rattle.imap_batch.specs.declared.batch.FlagUpdate.{FlagUpdate}
use Rattle.imap_batch.specs.declared.marks_left.MarksLeft.{MarksLeft}
use Rattle.imap_batch.specs.Batch.{one_if}
use Rattle.imap_batch.specs.Planned.{own_after, rows_left, rows_marked, marked_by, row_marked, first_uid, row_with_first, with_first, StartsLeft}
use Rattle.imap_batch.proofs.Planning.{none_marked, uid_marked}

-- the row at a place, and those from it on
pub record IsAt (rows : List Row) (p : ℕ) : Type 0 where
  pub row : Row
  pub is : row ≡ get_or rows p row
  pub left : drop p rows ≡ row ∷ drop (p + 1) rows

record There (rows : List Row) (p : ℕ) : Type 0 where
  row : Row
  is : row ≡ get_or rows p row

there : (rows : List Row) (p : ℕ) → p < length rows → There rows p
there [] p lt = absurd (omega arith)
there (r ∷ rows) zero lt = record { row = r; is = refl }
there (r ∷ rows) (suc p) lt = let later = there rows p (omega arith) in record { row = later.row; is = later.is }

pub row_at : (rows : List Row) (p : ℕ) → p < length rows → IsAt rows p
row_at rows p lt =
    let at = there rows p lt in
    record { row = at.row; is = at.is; left = drop_more rows p at.row lt ∙ ap (λ r. r ∷ drop (p + 1) rows) (sym at.is) }

-- a mark leaves the UID
pub uid_with_first : (m : MarksLeft) (r : Row) → (with_first m r).uid ≡ r.uid
uid_with_first m r = by m.marks.now
  where
    by : (marks : List FlagUpdate) → (row_with_first m.shared m.own marks r).uid ≡ r.uid
    by [] = refl
    by (k ∷ marks) = at (eqb k.uid r.uid)
      where
        at : (b : Bool) → (cond b (row_marked m.shared m.own k r) r).uid ≡ r.uid
        at true = uid_marked m.shared m.own k r
        at false = refl

-- a row that isn't expunged is the first that is left
pub first_stays : (uids : List ℕ) (r : Row) (rows : List Row) → is_among r.uid uids ≡ false → rows_left uids (r ∷ rows) ≡ r ∷ rows_left uids rows
first_stays uids r rows e = ap (λ b. cond (not b) (r ∷ rows_left uids rows) (rows_left uids rows)) e

-- one that is expunged isn't
pub first_goes : (uids : List ℕ) (r : Row) (rows : List Row) → is_among r.uid uids ≡ true → rows_left uids (r ∷ rows) ≡ rows_left uids rows
first_goes uids r rows e = ap (λ b. cond (not b) (r ∷ rows_left uids rows) (rows_left uids rows)) e

pub starts_here : (uids : List ℕ) (rows : List Row) (p uid : ℕ) → p < length rows → ((row : Row) → row ≡ get_or rows p row → uid ≡ row.uid)
    → is_among uid uids ≡ false → StartsLeft uids (drop p rows)
starts_here uids rows p uid lt h e =
    let at = row_at rows p lt in
    subst (StartsLeft uids) (sym at.left) (ap (λ u. is_among u uids) (sym (h at.row at.is)) ∙ e)

-- past an expunged row
pub passed : (uids : List ℕ) (rows : List Row) (p uid : ℕ) (m n : MarksLeft) → p < length rows → ((row : Row) → row ≡ get_or rows p row → uid ≡ row.uid)
    → ((row : Row) (later : List Row) → row.uid ≡ uid → marked_by m (row ∷ later) ≡ with_first m row ∷ marked_by n later)
    → is_among uid uids ≡ true → rows_left uids (marked_by n (drop (p + 1) rows)) ≡ rows_left uids (marked_by m (drop p rows))
passed uids rows p uid m n lt h marked e =
    let at = row_at rows p lt in
    let is : uid ≡ at.row.uid = h at.row at.is in
    let gone : is_among (with_first m at.row).uid uids ≡ true = ap (λ u. is_among u uids) (uid_with_first m at.row ∙ sym is) ∙ e in
    sym (first_goes uids (with_first m at.row) (marked_by n (drop (p + 1) rows)) gone)
    ∙ ap (rows_left uids) (sym (marked at.row (drop (p + 1) rows) (sym is)) ∙ ap (marked_by m) (sym at.left))

-- what is left from a row on that isn't expunged
pub stepped : (uids : List ℕ) (rows : List Row) (p uid : ℕ) (m n : MarksLeft) (lt : p < length rows) → ((row : Row) → row ≡ get_or rows p row → uid ≡ row.uid)
    → ((row : Row) (later : List Row) → row.uid ≡ uid → marked_by m (row ∷ later) ≡ with_first m row ∷ marked_by n later)
    → StartsLeft uids (drop p rows)
    → rows_left uids (marked_by m (drop p rows)) ≡ with_first m (row_at rows p lt).row ∷ rows_left uids (marked_by n (drop (p + 1) rows))
stepped uids rows p uid m n lt h marked starts =
    let at = row_at rows p lt in
    let is : uid ≡ at.row.uid = h at.row at.is in
    let here : is_among at.row.uid uids ≡ false = subst (StartsLeft uids) at.left starts in
    let stays : is_among (with_first m at.row).uid uids ≡ false = ap (λ u. is_among u uids) (uid_with_first m at.row) ∙ here in
    ap (rows_left uids) (ap (marked_by m) at.left ∙ marked at.row (drop (p + 1) rows) (sym is))
    ∙ first_stays uids (with_first m at.row) (marked_by n (drop (p + 1) rows)) stays

-- ---- the first row that is left

abbrev later_of : (shared own : ℕ) → List FlagUpdate → Row → List Row → List Row
later_of shared own [] r rows = rows
later_of shared own (k ∷ marks) r rows =
    cond (eqb k.uid r.uid) (rows_marked (shared + one_if (is_some k.flags)) (own_after own k.seen) marks rows) (rows_marked shared own (k ∷ marks) rows)

first_of : (shared own : ℕ) (marks : List FlagUpdate) (r : Row) (rows : List Row)
    → rows_marked shared own marks (r ∷ rows) ≡ row_with_first shared own marks r ∷ later_of shared own marks r rows
first_of shared own [] r rows = refl
first_of shared own (k ∷ marks) r rows = by (eqb k.uid r.uid)
  where
    by : (b : Bool)
        → cond b (row_marked shared own k r ∷ rows_marked (shared + one_if (is_some k.flags)) (own_after own k.seen) marks rows) (r ∷ rows_marked shared own (k ∷ marks) rows)
        ≡ cond b (row_marked shared own k r) r ∷ cond b (rows_marked (shared + one_if (is_some k.flags)) (own_after own k.seen) marks rows) (rows_marked shared own (k ∷ marks) rows)
    by true = refl
    by false = refl

left_from : (uids : List ℕ) (rows : List Row) (p : ℕ) (m : MarksLeft) (lt : p < length rows) → StartsLeft uids (drop p rows)
    → rows_left uids (marked_by m (drop p rows))
    ≡ with_first m (row_at rows p lt).row ∷ rows_left uids (later_of m.shared m.own m.marks.now (row_at rows p lt).row (drop (p + 1) rows))
left_from uids rows p m lt starts =
    let at = row_at rows p lt in
    let here : is_among at.row.uid uids ≡ false = subst (StartsLeft uids) at.left starts in
    let stays : is_among (with_first m at.row).uid uids ≡ false = ap (λ u. is_among u uids) (uid_with_first m at.row) ∙ here in
    let left = later_of m.shared m.own m.marks.now at.row (drop (p + 1) rows) in
    ap (rows_left uids) (ap (marked_by m) at.left ∙ first_of m.shared m.own m.marks.now at.row (drop (p + 1) rows))
    ∙ first_stays uids (with_first m at.row) left stays

pub head_is : (uids : List ℕ) (rows : List Row) (p : ℕ) (m : MarksLeft) (added : List Row) (lt : p < length rows) → StartsLeft uids (drop p rows)
    → (row : Row) (later : List Row) → rows_left uids (marked_by m (drop p rows)) ++ added ≡ row ∷ later → with_first m (row_at rows p lt).row ≡ row
head_is uids rows p m added lt starts row later e =
    cc (sym (ap (λ rs. rs ++ added) (left_from uids rows p m lt starts)) ∙ e)

pub first_uid_left : (uids : List ℕ) (rows : List Row) (p : ℕ) (m : MarksLeft) (added : List Row) (lt : p < length rows) → StartsLeft uids (drop p rows)
    → first_uid (rows_left uids (marked_by m (drop p rows)) ++ added) ≡ Some (row_at rows p lt).row.uid
first_uid_left uids rows p m added lt starts =
    let at = row_at rows p lt in
    ap (λ rs. first_uid (rs ++ added)) (left_from uids rows p m lt starts) ∙ ap Some (uid_with_first m at.row)

-- past all rows those that are added are left
pub ended : (uids : List ℕ) (rows : List Row) (p : ℕ) (m : MarksLeft) (added : List Row) → length rows ≤ p → rows_left uids (marked_by m (drop p rows)) ++ added ≡ added
ended uids rows p m added le =
    ap (λ rs. rows_left uids (marked_by m rs) ++ added) (drop_all p rows le)
    ∙ ap (λ rs. rows_left uids rs ++ added) (none_marked m.shared m.own m.marks.now)
