-- A session by the list of its messages as it was last told of each: UID, flags and mod-sequence. What notices tell is
-- the difference of this list and the mailbox, though the session keeps UIDs and one mod-sequence alone (RFC 9051,
-- sections 7.4.1, 7.5.1 and 7.5.2; RFC 7162, section 3.1.2.1).
use Rattle.std.specs.Prelude.{◌≡◌, ◌↔◌, IsTrue, ℕ, ◌+◌, ◌==◌, Bool, ◌||◌, List, [], ◌∷◌, ◌++◌, length, map}
use Rattle.std.specs.Prelude.{Some, if◌then◌else◌}
use Rattle.imap_print.specs.declared.response.Response.{Response}
use Rattle.imap_mailbox.specs.declared.known.KnownMessage.{KnownMessage}
use Rattle.imap_mailbox.specs.Brought.{Agree, AreToldBy, IsBrought, IsOrdered, highest_in, known_uids, told_of}
use Rattle.imap_mailbox.specs.Rows.{Row, is_among}
use Rattle.imap_mailbox.specs.Shown.{Content}
use Rattle.imap_mailbox.specs.Summary.{AreRising}
use Rattle.imap_session.specs.declared.options.NoticeOptions.{NoticeOptions}
use Rattle.imap_session.specs.Compared.{comparisons, known_after, new_rows}
use Rattle.imap_session.specs.Following.{ClientMessage, after_lines, held_after, unknown_messages}
use Rattle.imap_session.specs.Notices.{exists_line, expunge_notices, fetch_line, flag_set, notices}

-- the test passes just equal values
abbrev pub TestsMessages : (same : KnownMessage → KnownMessage → Bool) → Type 0
TestsMessages same = (k l : KnownMessage) → IsTrue (same k l) ↔ (k ≡ l)

-- a line for each message of the list that is still there, and isn't as the list has it, but for those with the UIDs
-- `told`. The first one has the number n
abbrev pub listed_lines : (same : KnownMessage → KnownMessage → Bool) → NoticeOptions → (told : List ℕ) →
    ℕ → List KnownMessage → List Row → List Response
listed_lines same o told n [] rows = []
listed_lines same o told n (k ∷ known) [] =
    if o.expunges then listed_lines same o told n known [] else listed_lines same o told (n + 1) known []
listed_lines same o told n (k ∷ known) (r ∷ rows) =
    if k.uid == r.uid
    then (if is_among r.uid told || same (told_of r) k
    then listed_lines same o told (n + 1) known rows
    else fetch_line o n (told_of r) ∷ listed_lines same o told (n + 1) known rows)
    else (if o.expunges
    then listed_lines same o told n known (r ∷ rows)
    else listed_lines same o told (n + 1) known (r ∷ rows))

-- the messages as they are, and those that are gone too, if expunges may not be told
abbrev pub kept_with : List KnownMessage → List Row → List KnownMessage
kept_with [] rows = map told_of rows
kept_with (k ∷ known) [] = k ∷ kept_with known []
kept_with (k ∷ known) (r ∷ rows) =
    if k.uid == r.uid then told_of r ∷ kept_with known rows else k ∷ kept_with known (r ∷ rows)

-- the list after notices
abbrev pub listed_after : (expunges : Bool) → List KnownMessage → List Row → List KnownMessage
listed_after expunges known rows = if expunges then map told_of rows else kept_with known rows

-- notices by the list
abbrev pub listed_notices : (same : KnownMessage → KnownMessage → Bool) → NoticeOptions → (told : List ℕ) →
    List KnownMessage → List Row → List Response
listed_notices same o told known rows =
    expunge_notices o (comparisons (known_uids known) rows)
    ++ (exists_line (length (listed_after o.expunges known rows)) (new_rows (known_uids known) rows)
    ++ listed_lines same o told 1 known rows)

-- ---- laws

-- Whatever the messages were when the session was told of them: notices are the difference of that list and the
-- messages that are there.
abbrev pub NoticesAreByList : Type 0
NoticesAreByList =
    (same : KnownMessage → KnownMessage → Bool) (o : NoticeOptions) (up_to : ℕ) (told : List ℕ)
    (known : List KnownMessage) (rows : List Row)
    → TestsMessages same → AreToldBy up_to known → Agree up_to known rows
    → notices o up_to told (known_uids known) rows ≡ listed_notices same o told known rows

-- After notices the session was told so of each message: of those that are there as they are, and of no others, if
-- expunges may be told.
pub record IsListed (expunges : Bool) (known : List KnownMessage) (c : Content) : Type 0 where
  pub uids : known_uids (listed_after expunges known c.rows) ≡ known_after expunges (known_uids known) c.rows
  pub brought : IsBrought (highest_in c) (listed_after expunges known c.rows) c

abbrev pub NoticesLeaveList : Type 0
NoticesLeaveList =
    (expunges : Bool) (up_to : ℕ) (known : List KnownMessage) (c : Content)
    → IsOrdered c → IsBrought up_to known c → IsListed expunges known c

-- what a client holds of a message of which it was told all
abbrev pub client_known : KnownMessage → ClientMessage
client_known k = record { uid = Some k.uid; flags = Some (flag_set k.flags k.seen) }

-- A client that holds the list, and follows the lines, holds the messages that are still there as they are.
abbrev pub ClientFollowsList : Type 0
ClientFollowsList =
    (o : NoticeOptions) (up_to : ℕ) (known : List KnownMessage) (rows : List Row)
    → AreRising (known_uids known) → Agree up_to known rows →
    let cs = comparisons (known_uids known) rows in
    after_lines (notices o up_to [] (known_uids known) rows) (map client_known known)
    ≡ held_after o.expunges (map client_known known) cs
    ++ unknown_messages (length (new_rows (known_uids known) rows))
