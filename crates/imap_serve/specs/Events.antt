-- What happens in a session over a connection.
use Rattle.std.specs.Prelude.{⊤, ◌≡◌, ◌&&◌, ◌||◌, ℕ, Bool, true, false, List, [], ◌∷◌, flat_map, if◌then◌else◌}
use Rattle.std.specs.Prelude.{Option, Some, None}
use Rattle.std.specs.List.{list_any}
use Rattle.imap_hall.specs.SessionId.{SessionId}
use Rattle.imap_hall.specs.Act.{Act}
use Rattle.imap_hall.specs.Act.TheVariants as act
use Rattle.imap_hall.specs.Journal.{JournalEntry}
use Rattle.imap_print.specs.declared.response.Farewell.TheVariants.{LimitReached, IdleTooLong}
use Rattle.imap_print.specs.declared.response.Response.{Response}
use Rattle.imap_print.specs.declared.response.Response.TheVariants as response
use Rattle.imap_print.specs.Printed.{printed}
use Rattle.imap_serve.specs.Asked as ask
use Rattle.imap_serve.specs.declared.error.End.{End}
use Rattle.imap_serve.specs.declared.error.End.TheVariants as end

-- ---- of replies

abbrev pub is_bye : Response → Bool
is_bye (response.Bye farewell) = true
is_bye _ = false

-- the session is closed (RFC 9051, section 7.1.5)
abbrev pub close : List Response → Bool
close replies = list_any is_bye replies

abbrev pub is_idling : Response → Bool
is_idling response.Idling = true
is_idling _ = false

-- the session begins to idle (RFC 2177)
abbrev pub begin_idle : List Response → Bool
begin_idle replies = list_any is_idling replies

-- ---- events

-- a step was made; or the connection itself is told something
pub data Event : Type 0 where
  made : (entry : JournalEntry) → Event
  ready : Event
  hangup : Event
  idle : Event

abbrev pub replies_of : Event → List Response
replies_of (made entry) = entry.replies
replies_of ready = response.Ready ∷ []
replies_of hangup = response.Bye LimitReached ∷ []
replies_of idle = response.Bye IdleTooLong ∷ []

abbrev pub text_of : Event → List ℕ
text_of event = printed (replies_of event)

abbrev pub entry_in : Event → List JournalEntry
entry_in (made entry) = entry ∷ []
entry_in ready = []
entry_in hangup = []
entry_in idle = []

-- a poll is asked for by nobody
abbrev pub asks_of_act : Act → List ask.Asked
asks_of_act act.Open = ask.step act.Open ∷ []
asks_of_act (act.Do request) = ask.step (act.Do request) ∷ []
asks_of_act act.Poll = []
asks_of_act act.Done = ask.step act.Done ∷ []
asks_of_act act.Leave = ask.step act.Leave ∷ []

abbrev pub ask_in : Event → List ask.Asked
ask_in (made entry) = asks_of_act entry.step.act
ask_in ready = ask.ready ∷ []
ask_in hangup = ask.hangup ∷ []
ask_in idle = []

-- ---- IDLE (RFC 2177)

abbrev pub is_poll : Act → Bool
is_poll act.Poll = true
is_poll _ = false

abbrev pub is_polled : Event → Bool
is_polled (made entry) = is_poll entry.step.act
is_polled _ = false

-- a session idles from the reply that says so until its next request
abbrev pub idles_after : (idles : Bool) → Event → Bool
idles_after idles (made entry) = (is_poll entry.step.act && idles) || begin_idle entry.replies
idles_after idles ready = idles
idles_after idles hangup = idles
idles_after idles idle = idles

abbrev pub idles_after_all : (idles : Bool) → List Event → Bool
idles_after_all idles [] = idles
idles_after_all idles (e ∷ es) = idles_after_all (idles_after idles e) es

-- the session is polled only while it idles
abbrev pub IsPolledIdling : (idles : Bool) → List Event → Type 0
IsPolledIdling idles [] = ⊤
IsPolledIdling idles (e ∷ es) = (is_polled e ≡ true → idles ≡ true) × IsPolledIdling (idles_after idles e) es

-- ---- of all events

abbrev pub end_of : Event → Option End
end_of (made entry) = if close entry.replies then Some end.Closed else None
end_of ready = None
end_of hangup = Some end.Closed
end_of idle = Some end.Idle

abbrev pub text : List Event → List ℕ
text events = flat_map text_of events

abbrev pub entries : List Event → List JournalEntry
entries events = flat_map entry_in events

abbrev pub asks : List Event → List ask.Asked
asks events = flat_map ask_in events

-- a step is of this session
abbrev pub IsOf : SessionId → Event → Type 0
IsOf who (made entry) = entry.step.who ≡ who
IsOf who ready = ⊤
IsOf who hangup = ⊤
IsOf who idle = ⊤

abbrev pub IsOpen : Event → Type 0
IsOpen event = end_of event ≡ None
