-- What a session is told of its mailbox before the last line of a command's answer (RFC 9051, section 7; RFC
-- 7162, section 3.2.10): by what its user sees once the command's effect is made.
use Rattle.std.specs.Prelude.{ℕ, Bool, true, false, not, ◌||◌, List, [], Option, Some, None, if◌then◌else◌}
use Rattle.imap_answer.specs.Alike.{view_after_asking}
use Rattle.imap_answer.specs.Answer.{Answer}
use Rattle.imap_commands.specs.declared.command.Command.{Command}
use Rattle.imap_commands.specs.declared.command.Command.TheVariants as command
use Rattle.imap_targets.specs.MessageNumbers.{is_by_uid}
use Rattle.imap_print.specs.declared.enabled.EnabledCapabilities.{EnabledCapabilities}
use Rattle.imap_print.specs.declared.response.Refusal.TheVariants.{Malformed, WrongState}
use Rattle.imap_print.specs.declared.response.Response.{Response}
use Rattle.imap_print.specs.declared.response.Response.TheVariants as response
use Rattle.imap_session.specs.declared.options.NoticeOptions.{NoticeOptions}
use Rattle.imap_session.specs.Lost.{is_lost}
use Rattle.imap_session.specs.State.{Selection, SessionState, both_enabled}
use Rattle.imap_session.specs.Telling.{Telling}
use Rattle.imap_session.specs.Told.{session_lines, session_telling}
use Rattle.imap_view.specs.declared.readable.Readable.{Readable}
use Rattle.imap_view.specs.Readable.{readable_in}
use Rattle.imap_view.specs.View.{View}
use Rattle.imap_sessions.specs.declared.sessions.SessionEffect.{SessionEffect}
use Rattle.imap_sessions.specs.declared.sessions.SessionEffect.TheVariants as session

-- BAD: it was no command, or none of this state (RFC 9051, section 7.1.3)
abbrev pub is_bad : Response → Bool
is_bad (response.Refused tag Malformed) = true
is_bad (response.Refused tag WrongState) = true
is_bad _ = false

-- a message's number stays while FETCH, STORE and SEARCH name messages by their numbers (RFC 9051, section 7.5.1)
abbrev pub may_tell_expunges : Command → Bool
may_tell_expunges (command.Fetch numbering messages items since vanished) = is_by_uid numbering
may_tell_expunges (command.Search numbering returns charset keys) = is_by_uid numbering
may_tell_expunges (command.Store numbering messages store) = is_by_uid numbering
may_tell_expunges _ = true

abbrev pub notice_options : (expunges : Bool) → EnabledCapabilities → NoticeOptions
notice_options expunges enabled =
    record { expunges = expunges; qresync = enabled.qresync; condstore = enabled.condstore }

-- what the command enables is enabled for its notices, too
abbrev pub options_after : (expunges : Bool) → SessionState → Answer → NoticeOptions
options_after expunges own answer = notice_options expunges (both_enabled answer.enables own.enabled)

abbrev pub selected_mailbox : View → Option Selection → Option Readable
selected_mailbox view None = None
selected_mailbox view (Some s) = readable_in view s.name

-- the selected mailbox, unless the session has lost it
abbrev pub mailbox_left : View → SessionState → Option Readable
mailbox_left view own = if is_lost view own then None else selected_mailbox view own.selected

-- the mailbox of which the session is told, as the command leaves it
abbrev pub mailbox_after : View → SessionState → Answer → Option Readable
mailbox_after view own answer =
    if is_bad answer.last then None else mailbox_left (view_after_asking answer.effect view) own

-- `told` are the UIDs of messages of which the answer tells by its own lines
abbrev pub notice_lines : NoticeOptions → (told : List ℕ) → Option Selection → Option Readable → List Response
notice_lines o told selected None = []
notice_lines o told selected (Some mailbox) = session_lines o told mailbox.rows selected

-- what the session then knows: None if nothing was told
abbrev pub notice_telling : NoticeOptions → Option Selection → Option Readable → Option Telling
notice_telling o selected None = None
notice_telling o selected (Some mailbox) = session_telling o mailbox.rows mailbox.highest selected

abbrev pub enables_nothing : EnabledCapabilities → Bool
enables_nothing enables = not (enables.condstore || (enables.imap4rev2 || enables.qresync))

-- what a session notes of an answer
abbrev pub noting : EnabledCapabilities → Option Telling → SessionEffect
noting enables None = if enables_nothing enables then session.Keep else session.Note enables None
noting enables (Some told) = session.Note enables (Some told)

-- ---- while a session idles (RFC 2177): expunges are told, too

abbrev pub idle_lines : View → SessionState → List Response
idle_lines view own =
    notice_lines (notice_options true own.enabled) [] own.selected (mailbox_left view own)

abbrev pub idle_telling : View → SessionState → Option Telling
idle_telling view own =
    notice_telling (notice_options true own.enabled) own.selected (mailbox_left view own)
