-- What a session made of what it was asked, and what it wrote.
use Rattle.std.specs.Prelude.{⊤, ◌≡◌, ◌⊎◌, ℕ, Bool, true, false, List, [], ◌∷◌, ◌++◌, map, Option, Some}
use Rattle.std.specs.List.{AllByRecursion}
use Rattle.std.specs.Io.KnownBytes.{Appends, Consumes, IsAtEnd}
use Rattle.imap_lex.specs.Framing.{Framing, beginning, run}
use Rattle.imap_hall.specs.SessionId.{SessionId}
use Rattle.imap_hall.specs.Act.TheVariants as act
use Rattle.imap_hall.specs.Step.{Step}
use Rattle.imap_hall.specs.declared.error.HallError.{HallError}
use Rattle.imap_hall.specs.declared.error.HallError.TheVariants as hall
use Rattle.imap_hall.specs.declared.journal.Receipt.{Receipt}
use Rattle.imap_hall.specs.Journal.{JournalEntry}
use Rattle.imap_hall.specs.Receipts.{AreLast, IsAdded}
use Rattle.imap_serve.specs.Asked.{Asked, step, ask_of}
use Rattle.imap_serve.specs.declared.error.End.{End}
use Rattle.imap_serve.specs.declared.error.End.TheVariants.{Closed, InputEnded, Idle}
use Rattle.imap_serve.specs.declared.error.ServeError.{ServeError}
use Rattle.imap_serve.specs.declared.error.ServeError.TheVariants.{Memory, Read, Write, Exhausted}
use Rattle.imap_serve.specs.declared.watched.Answer.{Answer}
use Rattle.imap_serve.specs.declared.watched.Answer.TheVariants.{Octets, Nothing}
use Rattle.imap_serve.specs.declared.watched.Log.{Log}
use Rattle.imap_serve.specs.Events.{Event, asks, end_of, entries, idles_after_all, text, IsOf, IsOpen}
use Rattle.imap_serve.specs.Events.{IsPolledIdling}
use Rattle.imap_serve.specs.Reading.{HasFailed, HasNotWritten}

-- the entries that the room has, and what was written, where that is known
pub record Scene : Type 0 where
  pub made : List JournalEntry
  pub written : Option (List ℕ)

abbrev pub scene : List JournalEntry → Option (List ℕ) → Scene
scene made written = record { made = made; written = written }

-- whose session it is, and whether its room lets go of no entry
pub record Site : Type 0 where
  pub who : SessionId
  pub keeps_all : Bool

abbrev pub site : SessionId → Bool → Site
site who keeps_all = record { who = who; keeps_all = keeps_all }

-- The events answer what was asked for but for what is missing, in order, and are of this session, which idles
-- before them or not. Their steps were made in the room. Their text but for what is unseen was written.
pub record Answers (s : Site) (idles : Bool) (a b : Scene) (wanted : List Asked) (es : List Event)
    (missing : List Asked) (seen unseen : List ℕ) : Type 0 where
  pub made : AreLast s.keeps_all (a.made ++ entries es) b.made
  pub shown : Appends a.written b.written seen
  pub words : text es ≡ seen ++ unseen
  pub asks : wanted ≡ asks es ++ missing
  pub own : AllByRecursion (IsOf s.who) es
  pub polls : IsPolledIdling idles es

-- the last event ends the session, and no other one does
abbrev pub EndsBy : End → List Event → Type 0
EndsBy end es =
    (front : List Event) × (last : Event) × (es ≡ front ++ last ∷ [])
    × AllByRecursion IsOpen front × (end_of last ≡ Some end)

-- All that was asked for was answered, and the session goes on. It idles before and after, or not.
pub record GoesOn (s : Site) (before after : Bool) (a b : Scene) (wanted : List Asked) : Type 0 where
  pub events : List Event
  pub answers : Answers s before a b wanted events [] (text events) []
  pub still : AllByRecursion IsOpen events
  pub idles : after ≡ idles_after_all before events

-- the last answer closed the session, and nothing was made of what was asked for after it
pub record Closes (s : Site) (idles : Bool) (a b : Scene) (wanted : List Asked) : Type 0 where
  pub events : List Event
  pub missing : List Asked
  pub answers : Answers s idles a b wanted events missing (text events) []
  pub ends : EndsBy Closed events

-- all that was asked for was answered, and then the client was told that it idled too long
pub record Idles (s : Site) (idles : Bool) (a b : Scene) (wanted : List Asked) : Type 0 where
  pub events : List Event
  pub answers : Answers s idles a b wanted events [] (text events) []
  pub ends : EndsBy Idle events

-- a beginning of the answers was written
pub record Breaks (s : Site) (idles : Bool) (a b : Scene) (wanted : List Asked) : Type 0 where
  pub events : List Event
  pub missing : List Asked
  pub seen : List ℕ
  pub unseen : List ℕ
  pub answers : Answers s idles a b wanted events missing seen unseen

abbrev pub GoesOrCloses :
    (closed : Bool) → Site → (before after : Bool) → Scene → Scene → List Asked → Type 0
GoesOrCloses true s before after a b wanted = Closes s before a b wanted
GoesOrCloses false s before after a b wanted = GoesOn s before after a b wanted

-- all that was asked for was answered, whether the session idles after it or not
abbrev pub GoesOnSomehow : Site → (idles : Bool) → Scene → Scene → List Asked → Type 0
GoesOnSomehow s idles a b wanted = (after : Bool) × GoesOn s idles after a b wanted

-- how the session ended
abbrev pub Ended : End → Site → (idles : Bool) → Scene → Scene → List Asked → Type 0
Ended Closed s idles a b wanted = Closes s idles a b wanted
Ended InputEnded s idles a b wanted = GoesOnSomehow s idles a b wanted
Ended Idle s idles a b wanted = Idles s idles a b wanted

-- how it broke off: if the reader failed, all that was asked for was answered
abbrev pub BrokeOff : ServeError → Site → (idles : Bool) → Scene → Scene → List Asked → Type 0
BrokeOff Read s idles a b wanted = GoesOnSomehow s idles a b wanted
BrokeOff Memory s idles a b wanted = Breaks s idles a b wanted
BrokeOff Write s idles a b wanted = Breaks s idles a b wanted
BrokeOff Exhausted s idles a b wanted = Breaks s idles a b wanted

-- ---- with the octets that were read

-- what octets ask for, cut into frames (RFC 9051, section 2.2.1)
abbrev pub requests : (limit : ℕ) → (octets : List ℕ) → List Asked
requests limit octets = map ask_of (run (beginning limit) octets).frames

-- Some octets were read, and all that they ask for was answered. The framer is where they leave it.
pub record Heard (limit : ℕ) (s : Site) (idles now : Bool) (before after : Option (List ℕ)) (a b : Scene)
    (framer : Framing) : Type 0 where
  pub octets : List ℕ
  pub read : Consumes before after octets
  pub left : framer ≡ (run (beginning limit) octets).next
  pub answered : GoesOn s idles now a b (requests limit octets)

-- the session ended, or broke off, after it had read some octets; it had been asked for `first` before
pub record EndedAfter (limit : ℕ) (end : End) (s : Site) (idles : Bool) (before after : Option (List ℕ))
    (a b : Scene) (first : List Asked) : Type 0 where
  pub octets : List ℕ
  pub read : Consumes before after octets
  pub answered : Ended end s idles a b (first ++ requests limit octets)

pub record BrokeOffAfter (limit : ℕ) (error : ServeError) (s : Site) (idles : Bool)
    (before after : Option (List ℕ)) (a b : Scene) (first : List Asked) : Type 0 where
  pub octets : List ℕ
  pub read : Consumes before after octets
  pub answered : BrokeOff error s idles a b (first ++ requests limit octets)

-- it was asked for nothing but an Open before
abbrev pub opening : List Asked
opening = step act.Open ∷ []

-- ---- with the room

-- the room was asked for the step Leave of the session, and made it or refused it
pub record Leaves {R : Type 0} (entries_of : R → List JournalEntry)
    (Refuses : R → Step → HallError → R → Type 0)
    (s : Site) (before after : R) : Type 0 where
  pub step : Step
  pub who : step.who ≡ s.who
  pub act : step.act ≡ act.Leave
  pub asked :
      ((r : Receipt) × IsAdded s.keeps_all (entries_of before) step r (entries_of after))
      ⊎ ((e : HallError) × Refuses before step e after)

-- the room refused a step as its last one, since it was at its end
pub record IsExhausted {R : Type 0} (Refuses : R → Step → HallError → R → Type 0) (room : R) : Type 0 where
  pub before : R
  pub step : Step
  pub refused : Refuses before step hall.Exhausted room

-- a session that breaks off since the room is at its end was refused by the room
abbrev pub IsRefused : {R : Type 0} → (Refuses : R → Step → HallError → R → Type 0) → ServeError → (room : R)
    → Type 0
IsRefused Refuses Exhausted room = IsExhausted Refuses room
IsRefused Refuses Read room = ⊤
IsRefused Refuses Memory room = ⊤
IsRefused Refuses Write room = ⊤

-- the session was opened, ended and left
pub record Serves {R : Type 0} (entries_of : R → List JournalEntry)
    (Refuses : R → Step → HallError → R → Type 0)
    (limit : ℕ) (end : End) (s : Site) (before after : Option (List ℕ)) (old new : R)
    (empty written : Option (List ℕ)) : Type 0 where
  pub room : R
  pub ended : EndedAfter limit end s false before after (scene (entries_of old) empty)
      (scene (entries_of room) written) opening
  pub leaves : Leaves entries_of Refuses s room new

-- the session was opened, broke off and left; or there was no memory to ask the room for anything
pub record GivesUp {R : Type 0} (entries_of : R → List JournalEntry)
    (Refuses : R → Step → HallError → R → Type 0)
    (limit : ℕ) (error : ServeError) (s : Site) (before after : Option (List ℕ)) (old new : R)
    (empty written : Option (List ℕ)) : Type 0 where
  pub room : R
  pub broke : BrokeOffAfter limit error s false before after (scene (entries_of old) empty)
      (scene (entries_of room) written) opening
  pub refused : IsRefused Refuses error room
  pub leaves : Leaves entries_of Refuses s room new
      ⊎ ((error ≡ Memory) × (room ≡ old) × (new ≡ old))

-- ---- what it was caused by

-- a fault of the reader or of the writer is its last answer
abbrev pub IsCaused : ServeError → (reader writer : Log) → Type 0
IsCaused Read reader writer = HasFailed reader
IsCaused Write reader writer = HasNotWritten writer
IsCaused Memory reader writer = ⊤
IsCaused Exhausted reader writer = ⊤

-- writing is broken off by want of memory, or by a fault of the writer, which is its last answer
abbrev pub IsCausedWriting : ServeError → (writer : Log) → Type 0
IsCausedWriting Write writer = HasNotWritten writer
IsCausedWriting Memory writer = ⊤
IsCausedWriting Read writer = ⊥
IsCausedWriting Exhausted writer = ⊥

-- the input is said to have ended only at its end
abbrev pub IsAllRead : End → (remaining : Option (List ℕ)) → Type 0
IsAllRead InputEnded remaining = IsAtEnd remaining
IsAllRead Closed remaining = ⊤
IsAllRead Idle remaining = ⊤

-- the input is said to have ended, and the client to have idled, only where the last read was answered so
abbrev pub IsLastRead : End → (last : Option Answer) → Type 0
IsLastRead InputEnded last = last ≡ Some (Octets 0)
IsLastRead Closed last = ⊤
IsLastRead Idle last = last ≡ Some Nothing
