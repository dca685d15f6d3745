-- What no client can do.
use Rattle.std.specs.Prelude.{◌≡◌, ◌⊎◌, ◌↔◌, ◌≤◌, ℕ, ◌+◌, Bool, true, false, cond, List, [], ◌∷◌, ◌++◌}
use Rattle.std.specs.Prelude.{if◌then◌else◌, not, Option, Some, None}
use Rattle.imap_lex.specs.declared.frame.Frame.{Frame}
use Rattle.imap_lex.specs.declared.frame.Frame.TheVariants as frame
use Rattle.imap_lex.specs.CommandTag.{tag_of}
use Rattle.imap_login.specs.declared.asked.Asked.{Asked}
use Rattle.imap_login.specs.declared.asked.Asked.TheVariants as asked
use Rattle.imap_login.specs.declared.progress.Progress.{Progress}
use Rattle.imap_login.specs.declared.progress.Stage.TheVariants as stage
use Rattle.imap_login.specs.Asked.{asked_of}
use Rattle.imap_login.specs.Credentials.{Known, are_right, is_right_message, plain_message}
use Rattle.imap_login.specs.Differences.{are_same}
use Rattle.imap_login.specs.Login.{first_progress, frame_answer, heard, initial_message, is_waiting}
use Rattle.imap_login.specs.Login.{line_message, max_failures, with_text, Heard, LoginState}
use Rattle.imap_login.specs.Replies.{session_greeting}
use Rattle.imap_print.specs.declared.response.Response.TheVariants as response
use Rattle.imap_print.specs.Printed.{capabilities, line}

-- two texts are the same where they differ nowhere
abbrev pub SameIsEqual : Type 0
SameIsEqual = (wanted given : List ℕ) → (are_same wanted given ≡ true) ↔ (wanted ≡ given)

-- ---- the right login

-- the message is base64 of the user's name and secret, and the user acts as the user
abbrev pub IsRightMessage : Known → Option (List ℕ) → Type 0
IsRightMessage known (Some message) =
    (message ≡ plain_message [] known) ⊎ (message ≡ plain_message known.name known)
IsRightMessage known None = ⊥

-- LOGIN with the user's name and secret, or AUTHENTICATE PLAIN with the right initial response
abbrev pub IsRightRequest : Known → Asked → Type 0
IsRightRequest known (asked.Login name password) = (name ≡ known.name) × (password ≡ known.password)
IsRightRequest known (asked.Plain (Some response)) = IsRightMessage known (initial_message response)
IsRightRequest known (asked.Plain None) = ⊥
IsRightRequest known asked.Capability = ⊥
IsRightRequest known asked.Noop = ⊥
IsRightRequest known asked.Logout = ⊥
IsRightRequest known asked.OtherMechanism = ⊥
IsRightRequest known asked.Other = ⊥

abbrev pub IsRightCommand : Known → Option (List ℕ) → (octets : List ℕ) → Type 0
IsRightCommand known (Some tag) octets = IsRightRequest known (asked_of tag octets)
IsRightCommand known None octets = ⊥

-- the right login, or the right response to the AUTHENTICATE that awaits one
abbrev pub IsRightLine : Known → (pending : Option (List ℕ)) → (octets : List ℕ) → Type 0
IsRightLine known (Some tag) octets = IsRightMessage known (line_message octets)
IsRightLine known None octets = IsRightCommand known (tag_of octets) octets

abbrev pub IsRight : Known → (pending : Option (List ℕ)) → Frame → Type 0
IsRight known pending (frame.Whole octets) = IsRightLine known pending octets
IsRight known pending frame.Continue = ⊥
IsRight known pending (frame.Reject tag) = ⊥
IsRight known pending frame.Hangup = ⊥

-- A client that waits enters by the right login, and by nothing else.
abbrev pub EntersByLogin : Type 0
EntersByLogin = (known : Known) (f : Frame) (p : Progress) → p.stage ≡ stage.Waiting →
    ((frame_answer known f p).next.stage ≡ stage.Entered) ↔ IsRight known p.pending f

-- ---- failures

-- whether a message is given, and is not the right one
abbrev pub is_wrong_message : Known → Option (List ℕ) → Bool
is_wrong_message known (Some message) = not (is_right_message known message)
is_wrong_message known None = false

abbrev pub is_wrong_request : Known → Asked → Bool
is_wrong_request known (asked.Login name password) = not (are_right known name password)
is_wrong_request known (asked.Plain (Some response)) = is_wrong_message known (initial_message response)
is_wrong_request known (asked.Plain None) = false
is_wrong_request known asked.Capability = false
is_wrong_request known asked.Noop = false
is_wrong_request known asked.Logout = false
is_wrong_request known asked.OtherMechanism = false
is_wrong_request known asked.Other = false

abbrev pub is_wrong_command : Known → Option (List ℕ) → (octets : List ℕ) → Bool
is_wrong_command known (Some tag) octets = is_wrong_request known (asked_of tag octets)
is_wrong_command known None octets = false

abbrev pub is_wrong_line : Known → (pending : Option (List ℕ)) → (octets : List ℕ) → Bool
is_wrong_line known (Some tag) octets = is_wrong_message known (line_message octets)
is_wrong_line known None octets = is_wrong_command known (tag_of octets) octets

-- a name and a secret are given, and are not the right ones
abbrev pub is_wrong : Known → (pending : Option (List ℕ)) → Frame → Bool
is_wrong known pending (frame.Whole octets) = is_wrong_line known pending octets
is_wrong known pending frame.Continue = false
is_wrong known pending (frame.Reject tag) = false
is_wrong known pending frame.Hangup = false

-- how many wrong logins are answered before the connection ends
abbrev pub failures : Known → List Frame → Progress → ℕ
failures known [] p = 0
failures known (f ∷ fs) p =
    if is_waiting p.stage
    then cond (is_wrong known p.pending f) 1 0 + failures known fs (frame_answer known f p).next
    else 0

-- Whatever a client sends, three are answered at most.
abbrev pub FailsThreeTimes : Type 0
FailsThreeTimes =
    (known : Known) (capabilities : List ℕ) (fs : List Frame) →
    failures known fs (first_progress capabilities) ≤ max_failures

-- ---- pieces

-- what is heard, and then these octets
abbrev pub followed : Known → Heard → List ℕ → Heard
followed known first octets =
    if is_waiting first.state.progress.stage
    then with_text first.text (heard known first.state octets)
    else record { text = first.text; state = first.state; unread = first.unread ++ octets }

-- Where the octets of a client are cut makes no difference.
abbrev pub AnyCut : Type 0
AnyCut = (known : Known) (state : LoginState) (first second : List ℕ) →
    heard known state (first ++ second) ≡ followed known (heard known state first) second

-- ---- greetings

-- The first line of a session is the greeting that the server prints, in its own words.
abbrev pub GreetsAsPrinted : Type 0
GreetsAsPrinted = session_greeting capabilities ≡ line response.Greeting
