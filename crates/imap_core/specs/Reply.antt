-- What a step is answered, what becomes of its session, and what it asks of the mailboxes: by what the
-- user sees, and the user's own sessions, alone.
use Rattle.std.specs.Prelude.{ℕ, Bool, true, false, not, ◌&&◌, nat_le, List, [], ◌∷◌, ◌++◌}
use Rattle.std.specs.Prelude.{Option, Some, None, if◌then◌else◌}
use Rattle.std.specs.FinMap as map
use Rattle.imap_answer.specs.Answer.{Answer, done, done_line, followed_by, nothing_enabled, preceded_by}
use Rattle.imap_answer.specs.Answer.{refusal, refused_line}
use Rattle.imap_commands.specs.declared.request.Request.{Request}
use Rattle.imap_commands.specs.declared.request.Request.TheVariants as request
use Rattle.imap_commands.specs.declared.command.Command.{Command}
use Rattle.imap_commands.specs.declared.commands.select.SelectParameters.{SelectParameters}
use Rattle.imap_commands.specs.declared.command.Command.TheVariants as command
use Rattle.imap_syntax.specs.Moments.{Moment}
use Rattle.imap_print.specs.declared.response.Response.{Response}
use Rattle.imap_print.specs.declared.response.Response.TheVariants as response
use Rattle.imap_changes.specs.Expunge.{close_answer}
use Rattle.imap_print.specs.declared.response.Farewell.TheVariants.{LimitReached, MailboxUnavailable}
use Rattle.imap_print.specs.declared.response.Refusal.{Refusal}
use Rattle.imap_print.specs.declared.response.Refusal.TheVariants.{Limit, Malformed, WrongState}
use Rattle.imap_session.specs.declared.select.Selecting.{Selecting}
use Rattle.imap_messages.specs.Select.{is_malformed, select_with_parameters}
use Rattle.imap_session.specs.Lost.{is_lost}
use Rattle.imap_session.specs.State.{Selection, SessionState}
use Rattle.imap_view.specs.declared.readable.Readable.{Readable}
use Rattle.imap_view.specs.View.{View}
use Rattle.imap_core.specs.declared.idling.Idling.{Idling}
use Rattle.imap_core.specs.declared.idling.Idling.TheVariants as idling
use Rattle.imap_sessions.specs.declared.sessions.SessionEffect.TheVariants as session
use Rattle.imap_core.specs.declared.step.Act.{Act}
use Rattle.imap_core.specs.declared.step.Act.TheVariants as act
use Rattle.imap_core.specs.declared.step.Step.{Step}
use Rattle.imap_core.specs.Commands.Session.{logout_answer}
use Rattle.imap_sessions.specs.Notices.{idle_lines, idle_telling, mailbox_after, may_tell_expunges}
use Rattle.imap_sessions.specs.Notices.{notice_lines, notice_telling, noting, options_after, selected_mailbox}
use Rattle.imap_core.specs.Outcome.{Outcome, answered, said, silence}
use Rattle.imap_sessions.specs.Sessions.{Own, max_sessions}
use Rattle.imap_core.specs.Answers.{command_answer}

-- ---- commands, with what becomes of the session

abbrev pub newly_enables_condstore : SessionState → Answer → Bool
newly_enables_condstore own answer = answer.enables.condstore && not own.enabled.condstore

abbrev pub highest_line : Option Readable → List Response
highest_line None = []
highest_line (Some mailbox) = response.HighestModSeq mailbox.highest ∷ []

-- who newly enables CONDSTORE is told HIGHESTMODSEQ of the selected mailbox, as it is before the command (RFC
-- 7162, section 3.1)
abbrev pub with_highest : View → SessionState → Answer → Answer
with_highest view own answer =
    if newly_enables_condstore own answer
    then preceded_by (highest_line (selected_mailbox view own.selected)) answer
    else answer

-- notices stand before the last line
abbrev pub with_notices : View → SessionState → (expunges : Bool) → Answer → Outcome
with_notices view own expunges answer =
    let o = options_after expunges own answer in
    let mailbox = mailbox_after view own answer in
    answered (followed_by (notice_lines o answer.told own.selected mailbox) answer)
    (noting answer.enables (notice_telling o own.selected mailbox))

abbrev pub outcome_of_answer : View → SessionState → (expunges : Bool) → Answer → Outcome
outcome_of_answer view own expunges answer = with_notices view own expunges (with_highest view own answer)

-- IDLE (RFC 2177) begins, a session that idles is polled, or DONE ends it: the session is told of its mailbox
abbrev pub idle_outcome : View → SessionState → Idling → Outcome
idle_outcome view own (idling.Begins tag) =
    said (response.Idling ∷ idle_lines view own) (session.Idle (Some tag) (idle_telling view own))
idle_outcome view own idling.Polls =
    said (idle_lines view own) (noting nothing_enabled (idle_telling view own))
idle_outcome view own (idling.Ends tag) =
    said (idle_lines view own ++ done_line tag ∷ []) (session.Idle None (idle_telling view own))

-- a command that leaves its session as it is
abbrev pub kept : Answer → Outcome
kept answer = answered answer session.Keep

-- what a selection newly enables goes with it
abbrev pub outcome_of_selecting : Selecting → Outcome
outcome_of_selecting selecting =
    answered selecting.answer (session.Select selecting.answer.enables selecting.selection)

-- QRESYNC that isn't enabled is BAD, and leaves what is selected (RFC 7162, section 3.2.5)
abbrev pub select_outcome : View → SessionState → (tag : List ℕ) → (read_only : Bool) →
    (mailbox : List ℕ) → SelectParameters → Outcome
select_outcome view own tag read_only mailbox parameters =
    if is_malformed own.enabled parameters then kept (refusal tag Malformed)
    else outcome_of_selecting (select_with_parameters view own tag read_only mailbox parameters)

-- a command that needs a mailbox selected (RFC 9051, section 3)
abbrev pub if_selected : Option Selection → (tag : List ℕ) → Outcome → Outcome
if_selected None tag outcome = kept (refusal tag WrongState)
if_selected (Some s) tag outcome = outcome

abbrev pub unselect_outcome : SessionState → (tag : List ℕ) → Outcome
unselect_outcome own tag =
    if_selected own.selected tag (answered (done tag) (session.Select nothing_enabled None))

-- CLOSE tells nothing of the mailbox that it closes
abbrev pub close_outcome : View → SessionState → (tag : List ℕ) → Outcome
close_outcome view own tag =
    if_selected own.selected tag
    (answered (close_answer view own tag) (session.Select nothing_enabled None))

abbrev pub command_outcome : View → SessionState → (tag : List ℕ) → (at : Moment) → Command → Outcome
command_outcome view own tag at command.Logout = answered (logout_answer tag) session.End
command_outcome view own tag at (command.Select mailbox parameters) =
    select_outcome view own tag false mailbox parameters
command_outcome view own tag at (command.Examine mailbox parameters) =
    select_outcome view own tag true mailbox parameters
command_outcome view own tag at command.Close = close_outcome view own tag
command_outcome view own tag at command.Unselect = unselect_outcome own tag
command_outcome view own tag at command.Idle = idle_outcome view own (idling.Begins tag)
command_outcome view own tag at command =
    outcome_of_answer view own (may_tell_expunges command) (command_answer view own tag at command)

-- the line that refuses a request, with its tag if it has one
abbrev pub refused : Option (List ℕ) → Refusal → Outcome
refused tag refusal = said (response.Refused tag refusal ∷ []) session.Keep

abbrev pub request_outcome : View → SessionState → (at : Moment) → Request → Outcome
request_outcome view own at (request.Command tag command) = command_outcome view own tag at command
request_outcome view own at (request.Malformed tag) = refused tag Malformed
request_outcome view own at (request.TooBig tag) = refused (Some tag) Limit

-- the session begins
abbrev pub opened : Outcome
opened = said (response.Greeting ∷ []) session.Open

-- of a session that doesn't idle. A poll brings nothing; DONE (RFC 2177) is malformed, and has no tag
abbrev pub reply_of_act : View → SessionState → (at : Moment) → Act → Outcome
reply_of_act view own at (act.Do request) = request_outcome view own at request
reply_of_act view own at act.Done = refused None Malformed
reply_of_act view own at _ = silence

-- of a session that idles: a line other than DONE ends its IDLE, with the tag of that, and isn't carried out
abbrev pub reply_to_idle : View → SessionState → (tag : List ℕ) → Act → Outcome
reply_to_idle view own tag act.Poll = idle_outcome view own idling.Polls
reply_to_idle view own tag act.Done = idle_outcome view own (idling.Ends tag)
reply_to_idle view own tag _ = said (refused_line tag Malformed ∷ []) (session.Idle None None)

abbrev pub reply_by_idle : View → SessionState → (at : Moment) → Act → Option (List ℕ) → Outcome
reply_by_idle view own at asked None = reply_of_act view own at asked
reply_by_idle view own at asked (Some tag) = reply_to_idle view own tag asked

-- a session that has lost its mailbox ends, whatever its client asks
abbrev pub lost : Outcome
lost = said (response.Bye MailboxUnavailable ∷ []) session.End

abbrev pub unless_lost : Bool → Outcome → Outcome
unless_lost true outcome = lost
unless_lost false outcome = outcome

-- a session that is open begins anew
abbrev pub reply_when_open : View → SessionState → (at : Moment) → Act → Outcome
reply_when_open view own at act.Open = opened
reply_when_open view own at act.Leave = said [] session.End
reply_when_open view own at (act.Do request) =
    unless_lost (is_lost view own) (reply_by_idle view own at (act.Do request) own.idle)
reply_when_open view own at act.Poll =
    unless_lost (is_lost view own) (reply_by_idle view own at act.Poll own.idle)
reply_when_open view own at act.Done =
    unless_lost (is_lost view own) (reply_by_idle view own at act.Done own.idle)

-- of one user no more than the limit are open
abbrev pub open_outcome : Own → Outcome
open_outcome own =
    if nat_le max_sessions (map.len own) then said (response.Bye LimitReached ∷ []) session.Keep else opened

-- what a client says to a session that isn't open is lost
abbrev pub reply_when_closed : Own → Act → Outcome
reply_when_closed own act.Open = open_outcome own
reply_when_closed own _ = silence

abbrev pub reply_by_session : View → Own → Step → Option SessionState → Outcome
reply_by_session view own step None = reply_when_closed own step.act
reply_by_session view own step (Some active) = reply_when_open view active step.at step.act

abbrev pub reply : View → Own → Step → Outcome
reply view own step = reply_by_session view own step (map.get own step.who.number)
