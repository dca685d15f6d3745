-- What holds of notices and known lists.
use Rattle.std.specs.Prelude.{◌≡◌, ◌↔◌, ℕ, Bool, true, false, not, List, [], map, filter, if◌then◌else◌}
use Rattle.imap_print.specs.declared.response.Response.{Response}
use Rattle.imap_print.specs.declared.response.Response.TheVariants as response
use Rattle.imap_mailbox.specs.Rows.{Row}
use Rattle.imap_mailbox.specs.Brought.{told_of}
use Rattle.imap_mailbox.specs.Lent.{row_uids}
use Rattle.imap_mailbox.specs.Order.{AreAtMost}
use Rattle.imap_session.specs.declared.options.NoticeOptions.{NoticeOptions}
use Rattle.imap_session.specs.Compared.{Comparison, comparisons, new_rows, any_changed, known_after}
use Rattle.imap_session.specs.Notices.{notices, fetch_lines, expunged_uids}
use Rattle.imap_session.specs.Following.{has_uid}
use Rattle.imap_session.specs.Delta.{applied}

-- if expunges may be told, the session knows the messages of the mailbox afterwards
abbrev pub ToldIsThere : Type 0
ToldIsThere = (uids : List ℕ) (rows : List Row) → known_after true uids rows ≡ row_uids rows

-- the known list stays, and each message that is there is known as it is
pub record StaysKnown (o : NoticeOptions) (up_to : ℕ) (uids : List ℕ) (rows : List Row) : Type 0 where
  pub list : known_after o.expunges uids rows ≡ uids
  pub changed : any_changed up_to (comparisons uids rows) ≡ false

-- nothing is told exactly if nothing differs
abbrev pub ToldIfDifferent : Type 0
ToldIfDifferent =
    (o : NoticeOptions) (up_to : ℕ) (uids : List ℕ) (rows : List Row)
    → (notices o up_to [] uids rows ≡ []) ↔ StaysKnown o up_to uids rows

-- a session that knows all messages of the mailbox, and was told all of them, is told nothing
abbrev pub AllKnownIsQuiet : Type 0
AllKnownIsQuiet =
    (o : NoticeOptions) (up_to : ℕ) (told : List ℕ) (rows : List Row)
    → AreAtMost up_to rows → notices o up_to told (row_uids rows) rows ≡ []

-- notices tell of a row its UID, flags and mod-sequence alone
abbrev pub AlikeIsToldAlike : Type 0
AlikeIsToldAlike =
    (o : NoticeOptions) (up_to : ℕ) (told uids : List ℕ) (rows others : List Row)
    → map told_of rows ≡ map told_of others
    → notices o up_to told uids rows ≡ notices o up_to told uids others

-- the change that notices make of known UIDs gives what the session knows afterwards
abbrev pub ChangesAreApplied : (uids : List ℕ) → Type 0
ChangesAreApplied uids =
    (o : NoticeOptions) (rows : List Row)
    → applied (if o.expunges then expunged_uids (comparisons uids rows) else [])
    (row_uids (new_rows uids rows)) uids
    ≡ known_after o.expunges uids rows

-- ---- messages of which the command's own lines told

-- the line is a FETCH line with one of the UIDs
abbrev pub tells_of : (uids : List ℕ) → Response → Bool
tells_of uids (response.Fetch n items) = has_uid uids items.uid
tells_of uids _ = false

-- the session is told of the other messages, as it would be without these lines
abbrev pub ToldOnce : Type 0
ToldOnce =
    (o : NoticeOptions) (up_to : ℕ) (told : List ℕ) (n : ℕ) (cs : List Comparison)
    → fetch_lines o up_to told n cs ≡ filter (λ line. not (tells_of told line)) (fetch_lines o up_to [] n cs)
