-- What holds of every step.
use Rattle.std.specs.Prelude.{◌≡◌, ◌⊎◌, ℕ, ◌-◌, ◌≤◌, Bool, true, false, not, ◌==◌, ◌&&◌, List, [], ◌∷◌, ◌++◌}
use Rattle.std.specs.Prelude.{Option, Some, None, bytes_eq, is_some, length}
use Rattle.std.specs.FinMap as map
use Rattle.std.specs.List.{list_any}
use Rattle.imap_answer.specs.Fit.{is_refusal, is_unavailable}
use Rattle.imap_answer.specs.Answer.{nothing_enabled}
use Rattle.imap_names.specs.Name.{Name}
use Rattle.imap_session.specs.State.{Selection, SessionState}
use Rattle.imap_session.specs.Telling.{Telling}
use Rattle.imap_session.specs.Told.{KnowsRows}
use Rattle.imap_core.specs.InStep.{IsMachineKept}
use Rattle.imap_sessions.specs.Accounts.{accounts_with, session_at}
use Rattle.imap_commands.specs.declared.command.Command.{Command}
use Rattle.imap_commands.specs.declared.command.Command.TheVariants as command
use Rattle.imap_commands.specs.declared.request.Request.{Request}
use Rattle.imap_commands.specs.declared.request.Request.TheVariants as request
use Rattle.imap_sessions.specs.declared.session_id.SessionId.{SessionId}
use Rattle.imap_sessions.specs.declared.sessions.SessionEffect.TheVariants as session
use Rattle.imap_core.specs.declared.step.Act.{Act}
use Rattle.imap_core.specs.declared.step.Act.TheVariants as act
use Rattle.imap_core.specs.declared.step.Step.{Step}
use Rattle.imap_view.specs.After as after
use Rattle.imap_view.specs.After.{DifferInHidden, IsHiddenTree, IsMade}
use Rattle.imap_world.specs.declared.effect.Effect.{Effect}
use Rattle.imap_world.specs.declared.effect.Effect.TheVariants as effect
use Rattle.imap_world.specs.declared.named_batch.NamedBatch.{NamedBatch}
use Rattle.imap_world.specs.Kept.{AreKept}
use Rattle.imap_world.specs.Mailbox.{Mailbox}
use Rattle.imap_world.specs.World.{World}
use Rattle.imap_print.specs.declared.response.Response.{Response}
use Rattle.imap_print.specs.declared.response.Response.TheVariants as response
use Rattle.imap_targets.specs.MessageNumbers.{is_by_uid}
use Rattle.imap_view.specs.declared.readable.Readable.{Readable}
use Rattle.imap_view.specs.View.{View}
use Rattle.imap_core.specs.Machine.{State, answer, next, outcome, own_in, view_in}
use Rattle.imap_sessions.specs.Notices.{is_bad, mailbox_left, may_tell_expunges}
use Rattle.imap_sessions.specs.Notices.{notice_lines, notice_options, notice_telling}
use Rattle.imap_core.specs.Trace.{Alike, is_quiet}

-- A step in two states that are alike to its user is answered alike, and leaves them alike to that user.
abbrev pub StepsAreAlike : Type 0
StepsAreAlike = (s t : State) (step : Step) → Alike step.who.user s t
    → (answer s step ≡ answer t step) × Alike step.who.user (next s step) (next t step)

-- A step leaves all sessions of every other user as they are.
abbrev pub OtherUsersStay : Type 0
OtherUsersStay = (state : State) (step : Step) (user : List ℕ)
    → bytes_eq step.who.user user ≡ false → own_in (next state step) user ≡ own_in state user

abbrev pub session_in : State → (user : List ℕ) → (number : ℕ) → Option SessionState
session_in state user number = session_at state.accounts user number

-- A step changes no session but its own: no other one of its user either.
abbrev pub OtherSessionsStay : Type 0
OtherSessionsStay = (state : State) (step : Step) (user : List ℕ) (number : ℕ)
    → (bytes_eq step.who.user user && (step.who.number == number)) ≡ false
    → session_in (next state step) user number ≡ session_in state user number

-- it is nothing, or values can be written for it
abbrev pub IsMadeIfAsked : Option Effect → World → Type 0
IsMadeIfAsked None world = Unit {0}
IsMadeIfAsked (Some effect) world = IsMade effect world

-- What a step asks of the mailboxes can be made in every state in which the messages of each mailbox are as
-- its type keeps them: no reply says OK to an effect that is dropped.
abbrev pub EffectsAreMade : Type 0
EffectsAreMade = (state : State) (step : Step)
    → AreKept state.world.mailboxes → IsMadeIfAsked (outcome state step).effect state.world

-- the messages that a batch adds fit in beside those that its mailbox has
abbrev pub IsWithinQuota : State → NamedBatch → Type 0
IsWithinQuota state part = (mailbox : Mailbox) → map.get state.world.mailboxes part.name ≡ Some mailbox
    → length part.batch.added ≤ state.site.limits.max_messages - length mailbox.messages.messages

abbrev pub IsWithinQuotas : State → Option Effect → Type 0
IsWithinQuotas state (Some (effect.Messages part None)) = IsWithinQuota state part
IsWithinQuotas state (Some (effect.Messages part (Some other))) =
    IsWithinQuota state part × IsWithinQuota state other
IsWithinQuotas state asked = Unit {0}

-- No step adds messages to a mailbox that would then have more than `max_messages`: APPEND, COPY and MOVE are
-- refused that would.
abbrev pub QuotasAreKept : Type 0
QuotasAreKept = (state : State) (step : Step)
    → AreKept state.world.mailboxes → IsWithinQuotas state (outcome state step).effect

-- SELECT or EXAMINE
abbrev pub is_select : Command → Bool
is_select (command.Select mailbox parameters) = true
is_select (command.Examine mailbox parameters) = true
is_select _ = false

abbrev pub requests_select : Request → Bool
requests_select (request.Command tag command) = is_select command
requests_select _ = false

abbrev pub selects : Act → Bool
selects (act.Do request) = requests_select request
selects _ = false

-- a session has no mailbox selected
abbrev pub unselected : State → SessionId → State
unselected state who = record {
  site = state.site;
  world = state.world;
  accounts = accounts_with state.accounts who (session.Select nothing_enabled None);
}

-- What a session is told of its mailbox is what notices in the replies tell. They stand before the last line,
-- which isn't BAD, and tell of every message that changed: the refused command told of none itself.
pub record IsToldInLines (view : View) (own : SessionState) (replies : List Response) (t : Telling)
    : Type 0 where
  pub expunges : Bool
  pub before : List Response
  pub last : Response
  pub lines : let o = notice_options expunges own.enabled in
      replies ≡ (before ++ notice_lines o [] own.selected (mailbox_left view own)) ++ last ∷ []
  pub told : let o = notice_options expunges own.enabled in
      notice_telling o own.selected (mailbox_left view own) ≡ Some t
  pub accepted : is_bad last ≡ false

-- a session was told of its mailbox by lines, and nothing else changed
pub record IsOnlyTold (state : State) (step : Step) : Type 0 where
  pub own : SessionState
  pub active : session_in state step.who.user step.who.number ≡ Some own
  pub told : Telling
  pub lines : IsToldInLines (view_in state step.who.user) own (answer state step) told
  pub is : next state step ≡ record {
    site = state.site;
    world = state.world;
    accounts = accounts_with state.accounts step.who (session.Note nothing_enabled (Some told));
  }

-- the client sends a line that isn't DONE
abbrev pub is_line : Act → Bool
is_line (act.Do request) = true
is_line _ = false

-- the session idles (RFC 2177)
abbrev pub is_idling : Option SessionState → Bool
is_idling None = false
is_idling (Some own) = is_some own.idle

-- a line ended the IDLE of its session, and nothing else changed
pub record IsIdleBroken (state : State) (step : Step) : Type 0 where
  pub idles : is_idling (session_in state step.who.user step.who.number) ≡ true
  pub line : is_line step.act ≡ true
  pub is : next state step ≡ record {
    site = state.site;
    world = state.world;
    accounts = accounts_with state.accounts step.who (session.Idle None None);
  }

-- A step that is answered by a refusal changes nothing; but its session may be told of its mailbox by lines
-- before the refusal, unless this is BAD, a refused SELECT or EXAMINE leaves no mailbox selected in it (RFC 9051,
-- section 6.3.2), and a line that ends its IDLE does so.
abbrev pub RefusalsChangeNothing : Type 0
RefusalsChangeNothing = (state : State) (step : Step) → list_any is_refusal (answer state step) ≡ true
    → (next state step ≡ state)
    ⊎ (IsOnlyTold state step
    ⊎ (((selects step.act ≡ true) × (next state step ≡ unselected state step.who))
    ⊎ IsIdleBroken state step))

-- What a trace leaves out changes nothing: a poll to which nothing is answered.
abbrev pub QuietPollsChangeNothing : Type 0
QuietPollsChangeNothing = (state : State) (step : Step)
    → is_quiet step.act (answer state step) ≡ true → next state step ≡ state

-- expunges may be told in a session: at a poll and at DONE if it idles, and else by commands that may tell them
abbrev pub may_be_told : (idle : Option (List ℕ)) → Act → Bool
may_be_told None (act.Do (request.Command tag command)) = may_tell_expunges command
may_be_told (Some tag) act.Poll = true
may_be_told (Some tag) act.Done = true
may_be_told idle _ = false

-- the session knows the messages of its mailbox, and was told all of each, so with its flags and mod-sequence as the
-- user sees them, unless it has lost the mailbox
abbrev pub KnowsMessages : View → SessionState → Type 0
KnowsMessages view own = (s : Selection) (mailbox : Readable)
    → own.selected ≡ Some s → mailbox_left view own ≡ Some mailbox → KnowsRows mailbox.rows s

-- After a step in which expunges may be told, and which isn't answered BAD, its session knows the messages of its
-- mailbox (RFC 9051, section 7.5.1).
abbrev pub MessagesAreKnown : Type 0
MessagesAreKnown = (state : State) (step : Step) (before after : SessionState)
    → IsMachineKept state.world state.accounts
    → session_in state step.who.user step.who.number ≡ Some before
    → may_be_told before.idle step.act ≡ true → list_any is_bad (answer state step) ≡ false
    → session_in (next state step) step.who.user step.who.number ≡ Some after
    → KnowsMessages (view_in (next state step) step.who.user) after

-- ---- numbers of messages (RFC 9051, section 7.5.1)

-- FETCH, STORE or SEARCH that names messages by their numbers
abbrev pub names_numbers : Command → Bool
names_numbers (command.Fetch numbering messages items since vanished) = not (is_by_uid numbering)
names_numbers (command.Search numbering returns charset keys) = not (is_by_uid numbering)
names_numbers (command.Store numbering messages store) = not (is_by_uid numbering)
names_numbers _ = false

abbrev pub is_by_number : Act → Bool
is_by_number (act.Do (request.Command tag command)) = names_numbers command
is_by_number _ = false

-- the line says that a message is gone
abbrev pub tells_of_expunge : Response → Bool
tells_of_expunge (response.Expunge n) = true
tells_of_expunge (response.Vanished earlier uids) = true
tells_of_expunge _ = false

-- No line of an answer to such a command says that a message is gone: the numbers that its client counts stay.
abbrev pub NumbersStay : Type 0
NumbersStay = (state : State) (step : Step) → is_by_number step.act ≡ true
    → list_any tells_of_expunge (answer state step) ≡ false

-- UNAVAILABLE (RFC 5530) is for a host to say, when it can't save a change.
abbrev pub NeverUnavailable : Type 0
NeverUnavailable = (state : State) (step : Step) → list_any is_unavailable (answer state step) ≡ false

-- To a user, states are alike that differ in hidden mailboxes alone, and in used validities of names of which the
-- user may not know. A name in use of which the user may know stays in use.
abbrev pub HiddenIsAlike : Type 0
HiddenIsAlike = (user : List ℕ) (s t : State) → s.site ≡ t.site → own_in s user ≡ own_in t user
    → AreKept s.world.mailboxes → AreKept t.world.mailboxes
    → DifferInHidden s.site user s.world t.world → Alike user s t

-- without the mailbox of a name and all below it
abbrev pub without_tree : State → (top : Name) → State
without_tree state top = record {
  site = state.site;
  world = after.without_tree state.world top;
  accounts = state.accounts;
}

-- A mailbox that is taken away with all below it leaves no trace to a user who sees none of them and may not know of
-- their names: a hidden mailbox answers as an absent one.
abbrev pub HiddenSubtreesAreAbsent : Type 0
HiddenSubtreesAreAbsent = (user : List ℕ) (state : State) (top : Name)
    → AreKept state.world.mailboxes → IsHiddenTree state.site user state.world top
    → Alike user state (without_tree state top)
