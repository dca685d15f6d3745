-- What a client is answered until it has logged in (RFC 9051, section 6.2).
use Rattle.std.specs.Prelude.{ℕ, ◌-◌, ◌==◌, Bool, true, false, List, [], ◌∷◌, ◌++◌, length, take, nat_lt}
use Rattle.std.specs.Prelude.{if◌then◌else◌, Option, Some, None}
use Rattle.base64.specs.Engines.{standard}
use Rattle.base64.specs.GeneralPurpose.{decoded_of}
use Rattle.imap_lex.specs.declared.frame.Frame.{Frame}
use Rattle.imap_lex.specs.declared.frame.Frame.TheVariants as frame
use Rattle.imap_lex.specs.CommandTag.{tag_of}
use Rattle.imap_lex.specs.Framing.{Framing, beginning, octet_outcome}
use Rattle.imap_lex.specs.Limits.{max_command_octets}
use Rattle.imap_login.specs.declared.asked.Asked.{Asked}
use Rattle.imap_login.specs.declared.asked.Asked.TheVariants as asked
use Rattle.imap_login.specs.declared.outcome.Outcome.TheVariants as outcome
use Rattle.imap_login.specs.declared.progress.Progress.{Progress}
use Rattle.imap_login.specs.declared.progress.Stage.{Stage}
use Rattle.imap_login.specs.declared.progress.Stage.TheVariants as stage
use Rattle.imap_login.specs.Asked.{asked_of}
use Rattle.imap_login.specs.Credentials.{Known, are_right, is_right_message}
use Rattle.imap_login.specs.Replies.{capability_line, challenge, limit_reached, logging_out, ready}
use Rattle.imap_login.specs.Replies.{tagged, untagged, welcome}

-- how many logins of a connection may fail
abbrev pub max_failures : ℕ
max_failures = 3

abbrev pub first_progress : (capabilities : List ℕ) → Progress
first_progress capabilities = record {
  stage = stage.Waiting;
  tries = max_failures;
  pending = None;
  capabilities = capabilities;
}

-- what a frame is answered, and how far the login has come then
pub record Answer : Type 0 where
  pub text : List ℕ
  pub next : Progress

abbrev pub answer : List ℕ → Progress → Answer
answer text next = record { text = text; next = next }

abbrev pub at_stage : Stage → Progress → Progress
at_stage reached p = record p { stage = reached }

-- an AUTHENTICATE with this tag awaits its response, or none does
abbrev pub awaiting : Option (List ℕ) → Progress → Progress
awaiting tag p = record p { pending = tag }

-- one try less; after the last one the connection ends
abbrev pub failed : (tag : List ℕ) → Progress → Answer
failed tag p =
    if nat_lt 1 p.tries
    then answer (tagged tag outcome.AuthenticationFailed) (record p { tries = p.tries - 1 })
    else answer (tagged tag outcome.AuthenticationFailed ++ limit_reached) (at_stage stage.Closed p)

-- a name and a secret were given, or a message of PLAIN: the right ones or not
abbrev pub judged : (right : Bool) → (tag : List ℕ) → Progress → Answer
judged true tag p = answer (welcome p.capabilities tag) (at_stage stage.Entered p)
judged false tag p = failed tag p

-- ---- AUTHENTICATE PLAIN

-- `=` stands for an empty initial response (RFC 4959, section 3)
abbrev pub is_empty_response : List ℕ → Bool
is_empty_response [] = false
is_empty_response (b ∷ []) = b == 61
is_empty_response (b ∷ c ∷ others) = false

abbrev pub initial_message : List ℕ → Option (List ℕ)
initial_message response = if is_empty_response response then Some [] else decoded_of standard response

-- the response on a line of its own, without its CRLF
abbrev pub line_message : List ℕ → Option (List ℕ)
line_message line = decoded_of standard (take (length line - 2) line)

-- a response that isn't base64, as the `*` that takes the command back, is malformed (section 6.2.2)
abbrev pub message_answer : Known → (tag : List ℕ) → Option (List ℕ) → Progress → Answer
message_answer known tag (Some message) p = judged (is_right_message known message) tag (awaiting None p)
message_answer known tag None p = answer (tagged tag outcome.Malformed) (awaiting None p)

abbrev pub plain_answer : Known → (tag : List ℕ) → Option (List ℕ) → Progress → Answer
plain_answer known tag (Some response) p = message_answer known tag (initial_message response) p
plain_answer known tag None p = answer challenge (awaiting (Some tag) p)

-- ---- frames

abbrev pub asked_answer : Known → (tag : List ℕ) → Asked → Progress → Answer
asked_answer known tag asked.Capability p =
    answer (capability_line p.capabilities ++ tagged tag outcome.Done) p
asked_answer known tag asked.Noop p = answer (tagged tag outcome.Done) p
asked_answer known tag asked.Logout p =
    answer (logging_out ++ tagged tag outcome.Done) (at_stage stage.Closed p)
asked_answer known tag (asked.Login name password) p = judged (are_right known name password) tag p
asked_answer known tag (asked.Plain response) p = plain_answer known tag response p
asked_answer known tag asked.OtherMechanism p = answer (tagged tag outcome.Cannot) p
asked_answer known tag asked.Other p = answer (tagged tag outcome.WrongState) p

abbrev pub command_answer : Known → Option (List ℕ) → (octets : List ℕ) → Progress → Answer
command_answer known (Some tag) octets p = asked_answer known tag (asked_of tag octets) p
command_answer known None octets p = answer untagged p

-- a line that came whole: the response that is awaited, or a command
abbrev pub whole_answer : Known → Option (List ℕ) → (octets : List ℕ) → Progress → Answer
whole_answer known (Some tag) octets p = message_answer known tag (line_message octets) p
whole_answer known None octets p = command_answer known (tag_of octets) octets p

-- the connection ends for a line or a literal that is too long
abbrev pub frame_answer : Known → Frame → Progress → Answer
frame_answer known (frame.Whole octets) p = whole_answer known p.pending octets p
frame_answer known frame.Continue p = answer ready p
frame_answer known (frame.Reject tag) p = answer limit_reached (at_stage stage.Closed p)
frame_answer known frame.Hangup p = answer limit_reached (at_stage stage.Closed p)

abbrev pub after : List ℕ → Answer → Answer
after text later = answer (text ++ later.text) later.next

abbrev pub frames_answer : Known → List Frame → Progress → Answer
frames_answer known [] p = answer [] p
frames_answer known (f ∷ fs) p =
    after (frame_answer known f p).text (frames_answer known fs (frame_answer known f p).next)

-- ---- octets

-- how far a client has come, and the rest of whose command is awaited
pub record LoginState : Type 0 where
  pub framing : Framing
  pub progress : Progress

-- the literals of a command may have as many octets as the rest of it
abbrev pub first_state : (capabilities : List ℕ) → LoginState
first_state capabilities =
    record { framing = beginning max_command_octets; progress = first_progress capabilities }

-- what octets are answered, and those that are left once the login has ended
pub record Heard : Type 0 where
  pub text : List ℕ
  pub state : LoginState
  pub unread : List ℕ

abbrev pub octet_answer : Known → LoginState → ℕ → Answer
octet_answer known state b =
    frames_answer known (octet_outcome state.framing b).frames state.progress

abbrev pub octet_state : Known → LoginState → ℕ → LoginState
octet_state known state b =
    record { framing = (octet_outcome state.framing b).next; progress = (octet_answer known state b).next }

abbrev pub is_waiting : Stage → Bool
is_waiting stage.Waiting = true
is_waiting stage.Entered = false
is_waiting stage.Closed = false

abbrev pub with_text : List ℕ → Heard → Heard
with_text text heard = record { text = text ++ heard.text; state = heard.state; unread = heard.unread }

abbrev pub unheard : LoginState → List ℕ → Heard
unheard state octets = record { text = []; state = state; unread = octets }

abbrev pub heard : Known → LoginState → List ℕ → Heard
heard known state [] = unheard state []
heard known state (b ∷ octets) =
    if is_waiting state.progress.stage
    then with_text (octet_answer known state b).text (heard known (octet_state known state b) octets)
    else unheard state (b ∷ octets)
