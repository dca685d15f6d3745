-- SELECT and EXAMINE with parameters (RFC 7162, sections 3.1.8 and 3.2.5).
use Rattle.std.specs.Prelude.{ℕ, ◌+◌, ◌==◌, nat_lt, Bool, false, not, ◌&&◌, ◌||◌, List, [], ◌∷◌, ◌++◌}
use Rattle.std.specs.Prelude.{Option, Some, None, true, is_some, if◌then◌else◌}
use Rattle.std.specs.FinMap as map
use Rattle.imap_answer.specs.Answer.{Answer, enabling, followed_by}
use Rattle.imap_answer.specs.Fit.{is_refusal}
use Rattle.imap_answer.specs.Name.{name_of_text}
use Rattle.imap_commands.specs.declared.commands.select.QresyncArg.{QresyncArg}
use Rattle.imap_commands.specs.declared.commands.select.SelectParameters.{SelectParameters}
use Rattle.imap_mailbox.specs.Brought.{told_of}
use Rattle.imap_mailbox.specs.Rows.{Row}
use Rattle.imap_mailbox.specs.Shown.{Content}
use Rattle.imap_names.specs.Name.{Name}
use Rattle.imap_print.specs.declared.enabled.EnabledCapabilities.{EnabledCapabilities}
use Rattle.imap_print.specs.declared.response.Response.{Response}
use Rattle.imap_print.specs.declared.response.Response.TheVariants as response
use Rattle.imap_targets.specs.Selecting.{Selecting}
use Rattle.imap_targets.specs.Notices.{notice_items}
use Rattle.imap_targets.specs.Select.{select_answer}
use Rattle.imap_targets.specs.State.{SessionState}
use Rattle.imap_view.specs.declared.readable.Readable.{Readable}
use Rattle.imap_view.specs.Readable.{readable_of}
use Rattle.imap_view.specs.Seen.{Seen}
use Rattle.imap_view.specs.View.{View}
use Rattle.imap_resync.specs.UidSet.{UidSet, includes, known_set}
use Rattle.imap_resync.specs.Vanished.{earlier_line, vanished}

-- QRESYNC is for one who enabled it
abbrev pub is_malformed : EnabledCapabilities → SelectParameters → Bool
is_malformed enabled parameters = is_some parameters.qresync && not enabled.qresync

-- ---- a line for each message with a greater mod-sequence

abbrev pub is_changed : (since : ℕ) → Option UidSet → Row → Bool
is_changed since uids row = nat_lt since row.number && includes uids row.uid

abbrev pub changed_line : (number : ℕ) → Row → Response
changed_line number row = response.Fetch number (notice_items true (told_of row))

-- no line, if it isn't changed
abbrev pub line_if_changed : (since : ℕ) → Option UidSet → (number : ℕ) → Row → List Response
line_if_changed since uids number row =
    if is_changed since uids row then changed_line number row ∷ [] else []

-- the first row is that of the message with the number n
abbrev pub changed_lines : (since : ℕ) → Option UidSet → (n : ℕ) → List Row → List Response
changed_lines since uids n [] = []
changed_lines since uids n (row ∷ rows) =
    line_if_changed since uids n row ++ changed_lines since uids (n + 1) rows

-- ---- the lines of QRESYNC

-- of the UIDs that the client knows, if it names them
abbrev pub resync_lines : QresyncArg → Content → List Response
resync_lines known content =
    let uids = known_set known.known_uids in
    earlier_line (vanished content.next known.mod_seq uids content.gone)
    ++ changed_lines known.mod_seq uids 1 content.rows

-- none under another UIDVALIDITY
abbrev pub lines_if_readable : QresyncArg → Option Readable → Option Content → List Response
lines_if_readable known (Some mailbox) (Some content) =
    if known.validity == mailbox.validity then resync_lines known content else []
lines_if_readable known _ _ = []

abbrev pub lines_if_seen : QresyncArg → Option Seen → List Response
lines_if_seen known None = []
lines_if_seen known (Some seen) = lines_if_readable known (readable_of seen) seen.messages.content

abbrev pub lines_if_named : View → QresyncArg → Option Name → List Response
lines_if_named view known None = []
lines_if_named view known (Some name) = lines_if_seen known (map.get view.seen name)

abbrev pub lines_if_asked : View → (mailbox : List ℕ) → Option QresyncArg → List Response
lines_if_asked view mailbox None = []
lines_if_asked view mailbox (Some known) = lines_if_named view known (name_of_text view mailbox)

-- ---- the answer

-- either parameter enables CONDSTORE
abbrev pub enabled_by : SelectParameters → EnabledCapabilities
enabled_by parameters = record {
  condstore = parameters.condstore || is_some parameters.qresync;
  imap4rev2 = false;
  qresync = false;
}

-- a command that is refused enables nothing
abbrev pub enabling_unless_refused : SelectParameters → Answer → Answer
enabling_unless_refused parameters answer =
    if is_refusal answer.last then answer else enabling (enabled_by parameters) answer

-- the answer without parameters, with these lines before its last one
abbrev pub with_lines : SelectParameters → List Response → Selecting → Selecting
with_lines parameters lines selecting = record {
  answer = enabling_unless_refused parameters (followed_by lines selecting.answer);
  selection = selecting.selection;
}

abbrev pub select_with_parameters : View → SessionState → (tag : List ℕ) → (read_only : Bool) →
    (mailbox : List ℕ) → SelectParameters → Selecting
select_with_parameters view own tag read_only mailbox parameters =
    with_lines parameters (lines_if_asked view mailbox parameters.qresync)
    (select_answer view own tag read_only mailbox)
