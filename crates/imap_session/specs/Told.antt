-- What a session is told of its mailbox at the end of a command, and what it knows afterwards.
use Rattle.std.specs.Prelude.{◌≡◌, ℕ, ◌<◌, Bool, true, List, [], Option, Some, None}
use Rattle.imap_print.specs.declared.response.Response.{Response}
use Rattle.imap_mailbox.specs.Brought.{highest_in, IsOrdered}
use Rattle.imap_mailbox.specs.Lent.{row_uids}
use Rattle.imap_mailbox.specs.Order.{AreAtMost}
use Rattle.imap_mailbox.specs.Rows.{Row}
use Rattle.imap_mailbox.specs.Shown.{Content}
use Rattle.imap_names.specs.Name.{Name}
use Rattle.imap_listing.specs.ReadableMailbox.{Readable}
use Rattle.imap_session.specs.declared.options.NoticeOptions.{NoticeOptions}
use Rattle.imap_session.specs.Held.{uid_limit}
use Rattle.imap_session.specs.InStep.{IsInStep}
use Rattle.imap_session.specs.Notices.{notices}
use Rattle.imap_session.specs.Select.{selected_as}
use Rattle.imap_session.specs.State.{Selection, SessionState, with_telling, with_told}
use Rattle.imap_session.specs.Telling.{Telling, difference, if_any}

-- the session is in step with the mailbox c, which has these rows and this HIGHESTMODSEQ
abbrev pub IsSelectedInStep : (highest : ℕ) → List Row → Content → Selection → Type 0
IsSelectedInStep highest rows c s = IsInStep s.up_to highest s.known rows c

-- the session is in step with a mailbox of these rows, if one is selected
abbrev pub IsInStepIfSelected : (highest : ℕ) → List Row → Option Selection → Type 0
IsInStepIfSelected highest rows None = Unit {0}
IsInStepIfSelected highest rows (Some s) = (c : Content) × IsSelectedInStep highest rows c s

-- ---- lines, and what the session then knows. The rows are those after the command

-- the command's own lines told of the messages with the UIDs `told`
abbrev pub session_lines : NoticeOptions → (told : List ℕ) → List Row → Option Selection → List Response
session_lines o told rows None = []
session_lines o told rows (Some s) = notices o s.up_to told s.known rows

-- None if the session knows all that is there as it is
abbrev pub selection_telling : NoticeOptions → List Row → (highest : ℕ) → Selection → Option Telling
selection_telling o rows highest s = if_any (difference o.expunges s.up_to s.known rows highest)

abbrev pub session_telling : NoticeOptions → List Row → (highest : ℕ) → Option Selection → Option Telling
session_telling o rows highest None = None
session_telling o rows highest (Some s) = selection_telling o rows highest s

-- ---- afterwards

abbrev pub selection_after : Option Telling → Selection → Selection
selection_after None s = s
selection_after (Some t) s = with_telling t s

-- a session that is told nothing stays as it is
abbrev pub session_after : Option Telling → SessionState → SessionState
session_after None state = state
session_after (Some t) state = with_told t state

-- ---- laws

-- the selected mailbox of a session that was told so
abbrev pub NotesWhatIsTold : Type 0
NotesWhatIsTold =
    (t : Option Telling) (state : SessionState) (s : Selection) → state.selected ≡ Some s
    → (session_after t state).selected ≡ Some (selection_after t s)

-- after notices the session is in step with the same mailbox: up to HIGHESTMODSEQ if it was told anything,
-- and else as before
abbrev pub NoticesKeepSelectionInStep : Type 0
NoticesKeepSelectionInStep =
    (o : NoticeOptions) (highest : ℕ) (rows : List Row) (c : Content) (s : Selection)
    → IsSelectedInStep highest rows c s
    → IsSelectedInStep highest rows c (selection_after (selection_telling o rows highest s) s)

-- the session knows the messages that are there, and was told all of each
pub record KnowsRows (rows : List Row) (s : Selection) : Type 0 where
  pub uids : s.known ≡ row_uids rows
  pub told : AreAtMost s.up_to rows

-- if expunges may be told, the session knows the messages of the mailbox afterwards
abbrev pub NoticesTellSelection : Selection → Type 0
NoticesTellSelection s =
    (o : NoticeOptions) (highest : ℕ) (rows : List Row) → o.expunges ≡ true → AreAtMost highest rows
    → KnowsRows rows (selection_after (selection_telling o rows highest s) s)

-- a session that is told nothing is given no line
abbrev pub UntoldIsSilent : Type 0
UntoldIsSilent =
    (o : NoticeOptions) (told : List ℕ) (rows : List Row) (highest : ℕ) (selected : Option Selection)
    → session_telling o rows highest selected ≡ None → session_lines o told rows selected ≡ []

-- a session that selects a mailbox is in step with it
abbrev pub SelectingIsInStep : Type 0
SelectingIsInStep =
    (name : Name) (read_only : Bool) (mailbox : Readable) (c : Content)
    → c.rows ≡ mailbox.rows → highest_in c ≡ mailbox.highest → IsOrdered c → c.next < uid_limit
    → IsSelectedInStep mailbox.highest mailbox.rows c (selected_as name read_only mailbox)
