-- What a run is to one user, and that it is this user's alone to tell.
use Rattle.std.specs.Prelude.{◌≡◌, ◌↔◌, IsTrue, ℕ, Bool, true, false, List, [], ◌∷◌, map, bytes_eq}
use Rattle.std.specs.Prelude.{if◌then◌else◌}
use Rattle.imap_print.specs.declared.response.Response.{Response}
use Rattle.imap_print.specs.Printed.{printed}
use Rattle.imap_view.specs.View.{View, view_code}
use Rattle.imap_world.specs.Kept.{AreKept}
use Rattle.imap_sessions.specs.Alike.{AreBoth, AreOwnAlike}
use Rattle.imap_core.specs.declared.step.Act.{Act}
use Rattle.imap_core.specs.declared.step.Act.TheVariants as act
use Rattle.imap_core.specs.declared.step.Step.{Step}
use Rattle.imap_core.specs.Machine.{State, answer, answers, next, own_in, view_in}
use Rattle.imap_core.specs.Same.{same}

-- ---- equal views

unfoldable pub same_view : View → View → Bool
same_view = same view_code

-- The test finds just the equal views.
abbrev pub EqualViewsAreSame : Type 0
EqualViewsAreSame = (v w : View) → IsTrue (same_view v w) ↔ (v ≡ w)

-- ---- the trace

-- the user acts, or sees something new
pub data Event : Type 0 where
  Acts : Step → Event
  Sees : View → Event

-- a poll to which nothing was answered
abbrev pub is_quiet : Act → List Response → Bool
is_quiet act.Open replies = false
is_quiet (act.Do request) replies = false
is_quiet act.Poll [] = true
is_quiet act.Poll (reply ∷ replies) = false
is_quiet act.Done replies = false
is_quiet act.Leave replies = false

-- what the user had a part in: the user's own steps, and what others' steps changed in what the user may see
abbrev pub trace : List ℕ → State → List Step → List Event
trace user state [] = []
trace user state (step ∷ steps) =
    if bytes_eq step.who.user user
    then (if is_quiet step.act (answer state step)
    then trace user (next state step) steps
    else Acts step ∷ trace user (next state step) steps)
    else (if same_view (view_in state user) (view_in (next state step) user)
    then trace user (next state step) steps
    else Sees (view_in (next state step) user) ∷ trace user (next state step) steps)

-- ---- the transcript

-- an answer of nothing isn't sent
abbrev pub with_replies : ℕ → List Response → List (ℕ × List Response) → List (ℕ × List Response)
with_replies number [] rest = rest
with_replies number (reply ∷ replies) rest = (number, reply ∷ replies) ∷ rest

-- of the answers to these steps, those that are sent to the user's sessions, each with the session's number
abbrev pub replies_among : List ℕ → List Step → List (List Response) → List (ℕ × List Response)
replies_among user [] answers = []
replies_among user (step ∷ steps) [] = []
replies_among user (step ∷ steps) (replies ∷ answers) =
    if bytes_eq step.who.user user
    then with_replies step.who.number replies (replies_among user steps answers)
    else replies_among user steps answers

-- the octets of each answer, with the session's number
abbrev pub octets_of : List (ℕ × List Response) → List (ℕ × List ℕ)
octets_of = map (λ sent. (sent.0, printed sent.1))

-- of the answers to these steps, the octets that are sent to the user's sessions, each answer with the
-- session's number
abbrev pub sent_to : List ℕ → List Step → List (List Response) → List (ℕ × List ℕ)
sent_to user steps answers = octets_of (replies_among user steps answers)

-- the replies that a run sends to the user's sessions
abbrev pub replies_to : List ℕ → State → List Step → List (ℕ × List Response)
replies_to user state steps = replies_among user steps (answers state steps)

abbrev pub transcript : List ℕ → State → List Step → List (ℕ × List ℕ)
transcript user state steps = sent_to user steps (answers state steps)

-- ---- isolation

-- The user sees the same in both states, and has sessions open that are alike: in mailbox, UIDVALIDITY, mode, the
-- UIDs and messages that they know, what is enabled, and the tag of IDLE. What the user may read is the same in both,
-- so that what is known of it is asked of the first. What the type of a mailbox keeps holds of the messages of each in
-- both, as it does in every state of the machine.
pub record Alike (user : List ℕ) (s t : State) : Type 0 where
  pub views : view_in s user ≡ view_in t user
  pub sessions : AreBoth (AreOwnAlike s.world user) (own_in s user) (own_in t user)
  pub kept : AreKept s.world.mailboxes
  pub kept_other : AreKept t.world.mailboxes

-- To each user, two runs that begin alike and have one trace send the same octets, whatever their
-- lengths and whatever else happens in them.
abbrev pub Isolation : Type 0
Isolation =
    (user : List ℕ) (s t : State) (steps others : List Step)
    → Alike user s t → trace user s steps ≡ trace user t others
    → transcript user s steps ≡ transcript user t others

-- They send the same replies. So in every form in which replies may be written, what is sent is equal.
abbrev pub IsolationOfReplies : Type 0
IsolationOfReplies =
    (user : List ℕ) (s t : State) (steps others : List Step)
    → Alike user s t → trace user s steps ≡ trace user t others
    → replies_to user s steps ≡ replies_to user t others

-- These answers to the steps of a run are to each user what every run sends that begins alike and has one
-- trace with it for that user.
abbrev pub AreIsolated : State → List Step → (answers : List (List Response)) → Type 0
AreIsolated state steps answers =
    (user : List ℕ) (other : State) (others : List Step)
    → Alike user state other → trace user state steps ≡ trace user other others
    → replies_among user steps answers ≡ replies_to user other others
