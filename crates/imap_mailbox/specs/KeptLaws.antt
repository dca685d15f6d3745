-- What holds of the own changes that are kept.
use Rattle.std.specs.Prelude.{◌≡◌, ◌≢◌, ℕ, ◌+◌, ◌<◌, ◌≤◌, true, List, [], ◌∷◌, ◌++◌, length, map, Some}
use Rattle.std.specs.FinMap as fin
use Rattle.std.specs.List.{AllByRecursion}
use Rattle.imap_modseq.specs.Numbers.{max_events, highest_after}
use Rattle.imap_mailbox.specs.declared.kept_change.KeptChange.{KeptChange}
use Rattle.imap_mailbox.specs.declared.own.SeenChange.{SeenChange}
use Rattle.imap_mailbox.specs.History.{History, IsLawful, changes_at, rows, gone, highest}
use Rattle.imap_mailbox.specs.KeptRows.{AreKept, AreNeeded, dropped_by, dropped_for, may_go, rows_after, shortened}
use Rattle.imap_mailbox.specs.KeptRows.{without_row}
use Rattle.imap_mailbox.specs.Own.{Own, found_in, numbered, with_all, with_changes, with_kept}
use Rattle.imap_mailbox.specs.Rows.{is_among}
use Rattle.imap_mailbox.specs.Summary.{summary_of, row_in, gone_in}

-- By the own changes that are kept a user is shown what all events tell.
abbrev pub KeptIsEnough : Type 0
KeptIsEnough = (history : History) (user : List ℕ)
    → IsLawful history user → length (changes_at history.own user) ≤ max_events →
    let s = summary_of history in
    let own = found_in (shortened (numbered 0 (changes_at history.own user))) in
    (map (row_in own) s.messages ≡ rows history user)
    × (map (gone_in own) s.gone ≡ gone history user)
    × (highest_after s.shared (length own.befores) ≡ highest history user)

-- The same is found while any of those that may go are still there, as in a store from before.
abbrev pub AnyMayGo : Type 0
AnyMayGo = (front back : List KeptChange) (k : KeptChange) (shared : ℕ) → AreKept 0 0 shared (front ++ k ∷ back)
    → may_go k back ≡ true → found_in (front ++ back) ≡ found_in (front ++ k ∷ back)

-- A change drops at most one row, and the rows that are left stand for the changes with it.
abbrev pub RowsFollow : Type 0
RowsFollow = (rows : List KeptChange) (c : KeptChange) (shared : ℕ) → AreKept 0 0 shared (rows ++ c ∷ [])
    → found_in (without_row (dropped_by c (found_in rows)) rows ++ c ∷ []) ≡ with_kept c (found_in rows)

-- So it is of several changes. The rows that are left are again in order.
abbrev pub AllRowsFollow : Type 0
AllRowsFollow = (rows changes : List KeptChange) (shared : ℕ) → AreKept 0 0 shared (rows ++ changes) →
    let old = found_in rows in
    let left = rows_after old rows changes in
    AreKept 0 0 shared left × (found_in left ≡ with_all changes old)

-- Changes that get the next places are those with these places.
abbrev pub ChangesAreNumbered : Type 0
ChangesAreNumbered = (own : Own) (changes : List SeenChange)
    → with_changes changes own ≡ with_all (numbered (length own.befores) changes) own

-- What a change of one message drops stays after a change of another, if it was found with the number of shared events
-- before that one.
abbrev pub DroppedStays : Type 0
DroppedStays = (own : Own) (c : KeptChange) (uid before : ℕ) → c.uid ≢ uid → c.place ≡ length own.befores
    → ((k : KeptChange) → fin.get own.latest uid ≡ Some k → k.place < length own.befores)
    → dropped_for uid before (with_kept c own) ≡ dropped_for uid c.before own

-- the changes are of these messages
abbrev pub AreOf : List ℕ → List KeptChange → Type 0
AreOf uids kept = AllByRecursion (λ (k : KeptChange). is_among k.uid uids ≡ true) kept

-- There are no more than messages that the user changed, and one for each shared event and one after them.
abbrev pub FewAreKept : Type 0
FewAreKept = (kept : List KeptChange) (uids : List ℕ) (shared : ℕ) → AreKept 0 0 shared kept → AreOf uids kept
    → length (shortened kept) ≤ length uids + (shared + 1)

-- A change leaves no row that may go, if none was there, and so they stay as few.
abbrev pub RowsStayFew : Type 0
RowsStayFew = (rows : List KeptChange) (c : KeptChange) (uids : List ℕ) (shared : ℕ)
    → AreKept 0 0 shared (rows ++ c ∷ []) → AreNeeded rows →
    let left = without_row (dropped_by c (found_in rows)) rows ++ c ∷ [] in
    AreNeeded left × (AreOf uids left → length left ≤ length uids + (shared + 1))
