-- What happens in a session over a connection, and the client's frames at which it happens.
use Rattle.std.specs.Prelude.{⊤, ◌≡◌, ◌⊎◌, ℕ, List, [], ◌∷◌, map, flat_map, Option, Some, None}
use Rattle.imap_lex.specs.declared.frame.Frame.{Frame}
use Rattle.imap_hall.specs.Act.TheVariants as act
use Rattle.imap_dialect.specs.Telling.{Telling, Exchange, after, all_told}
use Rattle.imap_serve.specs.Asked.{Asked, step, ask_of}
use Rattle.imap_serve.specs.Events.{Event, ask_in, replies_of}

-- an event, and the frame as the client sent it, if one asked for it
pub record Turn : Type 0 where
  pub by : Option Frame
  pub event : Event

abbrev pub turn : Option Frame → Event → Turn
turn by event = record { by = by; event = event }

abbrev pub event_at : Turn → Event
event_at t = t.event

abbrev pub events : List Turn → List Event
events ts = map event_at ts

-- ---- what asks for events

-- the connection was made, or a frame of the client came
pub data Cue : Type 0 where
  opening : Cue
  frame : (f : Frame) → Cue

-- A poll, and the last line of a session that idled too long, are asked for by nobody.
abbrev pub cues_by : Option Frame → List Asked → List Cue
cues_by (Some f) asks = frame f ∷ []
cues_by None [] = []
cues_by None (ask ∷ asks) = opening ∷ []

abbrev pub cue_in : Turn → List Cue
cue_in t = cues_by t.by (ask_in t.event)

abbrev pub cues : List Turn → List Cue
cues ts = flat_map cue_in ts

-- A frame asks for what the frame asks for that the dialect makes of it in this state. Without a frame the
-- session is only opened or polled, or told that it idled too long.
abbrev pub Fits : {S : Type 0} → Telling S → S → Option Frame → List Asked → Type 0
Fits telling state (Some f) asks = asks ≡ ask_of (telling.rewritten state f) ∷ []
Fits telling state None asks = (asks ≡ []) ⊎ (asks ≡ step act.Open ∷ [])

-- ---- states of the dialect

-- the state after a turn: its frame, and the replies to it
abbrev pub after_turn : {S : Type 0} → Telling S → S → Turn → S
after_turn telling state t = after telling state t.by (replies_of t.event)

abbrev pub after_turns : {S : Type 0} → Telling S → S → List Turn → S
after_turns telling state [] = state
after_turns telling state (t ∷ ts) = after_turns telling (after_turn telling state t) ts

-- each turn fits in the state before it
abbrev pub AllFit : {S : Type 0} → Telling S → S → List Turn → Type 0
AllFit telling state [] = ⊤
AllFit telling state (t ∷ ts) =
    Fits telling state t.by (ask_in t.event) × AllFit telling (after_turn telling state t) ts

-- ---- octets

abbrev pub exchange_of : Turn → Exchange
exchange_of t = record { by = t.by; replies = replies_of t.event }

-- the octets of turns: a function of the client's frames and their replies
abbrev pub text : {S : Type 0} → Telling S → S → List Turn → List ℕ
text telling state ts = all_told telling state (map exchange_of ts)
