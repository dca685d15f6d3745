-- What a session made of what it was asked, and what it wrote in its dialect.
use Rattle.std.specs.Prelude.{◌≡◌, ◌⊎◌, ℕ, Bool, true, false, List, [], ◌∷◌, ◌++◌, map, Option}
use Rattle.std.specs.List.{AllByRecursion}
use Rattle.std.specs.Io.KnownBytes.{Appends, Consumes}
use Rattle.imap_lex.specs.Framing.{Framing, beginning, run}
use Rattle.imap_dialect.specs.Telling.{Telling}
use Rattle.imap_hall.specs.SessionId.{SessionId}
use Rattle.imap_hall.specs.Step.{Step}
use Rattle.imap_hall.specs.declared.error.HallError.{HallError}
use Rattle.imap_hall.specs.Journal.{JournalEntry}
use Rattle.imap_hall.specs.Receipts.{AreLast}
use Rattle.imap_serve.specs.declared.error.End.{End}
use Rattle.imap_serve.specs.declared.error.End.TheVariants.{Closed, InputEnded, Idle}
use Rattle.imap_serve.specs.declared.error.ServeError.{ServeError}
use Rattle.imap_serve.specs.declared.error.ServeError.TheVariants.{Memory, Read, Write, Exhausted}
use Rattle.imap_serve.specs.Events.{entries, idles_after_all, IsOf, IsOpen, IsPolledIdling}
use Rattle.imap_serve.specs.Served as plain
use Rattle.imap_serve.specs.Served.{EndsBy, IsRefused, Leaves}
use Rattle.imap_serve.specs.Turns.{Turn, Cue, opening, frame, cues, events, text, after_turns, AllFit}

-- the entries that the room has, what was written, where that is known, and the state of the dialect
pub record Scene (S : Type 0) : Type 0 where
  pub made : List JournalEntry
  pub written : Option (List ℕ)
  pub state : S

abbrev pub scene : {S : Type 0} → List JournalEntry → Option (List ℕ) → S → Scene S
scene made written state = record { made = made; written = written; state = state }

-- whose session it is, whether its room lets go of no entry, and how it is told
pub record Site (S : Type 0) : Type 0 where
  pub who : SessionId
  pub keeps_all : Bool
  pub telling : Telling S

abbrev pub site : {S : Type 0} → SessionId → Bool → Telling S → Site S
site who keeps_all telling = record { who = who; keeps_all = keeps_all; telling = telling }

-- The turns answer what was asked for but for what is missing, in order, and are of this session, which idles
-- before them or not. Each is what its rewritten frame asks for. Their steps were made in the room. What is
-- told of them but for what is unseen was written.
pub record Answers {S : Type 0} (s : Site S) (idles : Bool) (a b : Scene S) (wanted : List Cue)
    (ts : List Turn) (missing : List Cue) (seen unseen : List ℕ) : Type 0 where
  pub made : AreLast s.keeps_all (a.made ++ entries (events ts)) b.made
  pub shown : Appends a.written b.written seen
  pub words : text s.telling a.state ts ≡ seen ++ unseen
  pub asks : wanted ≡ cues ts ++ missing
  pub fits : AllFit s.telling a.state ts
  pub own : AllByRecursion (IsOf s.who) (events ts)
  pub polls : IsPolledIdling idles (events ts)

-- All that was asked for was answered, and the session goes on. It idles before and after, or not. The dialect
-- is in the state after all turns.
pub record GoesOn {S : Type 0} (s : Site S) (before after : Bool) (a b : Scene S) (wanted : List Cue)
    : Type 0 where
  pub turns : List Turn
  pub answers : Answers s before a b wanted turns [] (text s.telling a.state turns) []
  pub still : AllByRecursion IsOpen (events turns)
  pub idles : after ≡ idles_after_all before (events turns)
  pub moved : b.state ≡ after_turns s.telling a.state turns

-- the last answer closed the session, and nothing was made of what was asked for after it
pub record Closes {S : Type 0} (s : Site S) (idles : Bool) (a b : Scene S) (wanted : List Cue) : Type 0 where
  pub turns : List Turn
  pub missing : List Cue
  pub answers : Answers s idles a b wanted turns missing (text s.telling a.state turns) []
  pub ends : EndsBy Closed (events turns)

-- all that was asked for was answered, and then the client was told that it idled too long
pub record Idles {S : Type 0} (s : Site S) (idles : Bool) (a b : Scene S) (wanted : List Cue) : Type 0 where
  pub turns : List Turn
  pub answers : Answers s idles a b wanted turns [] (text s.telling a.state turns) []
  pub ends : EndsBy Idle (events turns)

-- a beginning of the answers was written
pub record Breaks {S : Type 0} (s : Site S) (idles : Bool) (a b : Scene S) (wanted : List Cue) : Type 0 where
  pub turns : List Turn
  pub missing : List Cue
  pub seen : List ℕ
  pub unseen : List ℕ
  pub answers : Answers s idles a b wanted turns missing seen unseen

abbrev pub GoesOrCloses :
    {S : Type 0} → (closed : Bool) → Site S → (before after : Bool) → Scene S → Scene S → List Cue → Type 0
GoesOrCloses true s before after a b wanted = Closes s before a b wanted
GoesOrCloses false s before after a b wanted = GoesOn s before after a b wanted

-- all that was asked for was answered, whether the session idles after it or not
abbrev pub GoesOnSomehow :
    {S : Type 0} → Site S → (idles : Bool) → Scene S → Scene S → List Cue → Type 0
GoesOnSomehow s idles a b wanted = (after : Bool) × GoesOn s idles after a b wanted

-- how the session ended
abbrev pub Ended : {S : Type 0} → End → Site S → (idles : Bool) → Scene S → Scene S → List Cue → Type 0
Ended Closed s idles a b wanted = Closes s idles a b wanted
Ended InputEnded s idles a b wanted = GoesOnSomehow s idles a b wanted
Ended Idle s idles a b wanted = Idles s idles a b wanted

-- how it broke off: if the reader failed, all that was asked for was answered
abbrev pub BrokeOff :
    {S : Type 0} → ServeError → Site S → (idles : Bool) → Scene S → Scene S → List Cue → Type 0
BrokeOff Read s idles a b wanted = GoesOnSomehow s idles a b wanted
BrokeOff Memory s idles a b wanted = Breaks s idles a b wanted
BrokeOff Write s idles a b wanted = Breaks s idles a b wanted
BrokeOff Exhausted s idles a b wanted = Breaks s idles a b wanted

-- ---- with the octets that were read

-- the frames of octets, as the client sent them (RFC 9051, section 2.2.1)
abbrev pub requests : (limit : ℕ) → (octets : List ℕ) → List Cue
requests limit octets = map frame (run (beginning limit) octets).frames

-- Some octets were read, and all that they ask for was answered. The framer is where they leave it.
pub record Heard {S : Type 0} (limit : ℕ) (s : Site S) (idles now : Bool) (before after : Option (List ℕ))
    (a b : Scene S) (framer : Framing) : Type 0 where
  pub octets : List ℕ
  pub read : Consumes before after octets
  pub left : framer ≡ (run (beginning limit) octets).next
  pub answered : GoesOn s idles now a b (requests limit octets)

-- the session ended, or broke off, after it had read some octets; it had been asked for `first` before
pub record EndedAfter {S : Type 0} (limit : ℕ) (end : End) (s : Site S) (idles : Bool)
    (before after : Option (List ℕ)) (a b : Scene S) (first : List Cue) : Type 0 where
  pub octets : List ℕ
  pub read : Consumes before after octets
  pub answered : Ended end s idles a b (first ++ requests limit octets)

pub record BrokeOffAfter {S : Type 0} (limit : ℕ) (error : ServeError) (s : Site S) (idles : Bool)
    (before after : Option (List ℕ)) (a b : Scene S) (first : List Cue) : Type 0 where
  pub octets : List ℕ
  pub read : Consumes before after octets
  pub answered : BrokeOff error s idles a b (first ++ requests limit octets)

-- it was asked for nothing but an Open before
abbrev pub to_open : List Cue
to_open = opening ∷ []

-- ---- with the room

-- the session was opened, ended and left
pub record Serves {R S : Type 0} (entries_of : R → List JournalEntry)
    (Refuses : R → Step → HallError → R → Type 0)
    (limit : ℕ) (end : End) (s : Site S) (before after : Option (List ℕ)) (old new : R)
    (empty written : Option (List ℕ)) (first last : S) : Type 0 where
  pub room : R
  pub ended : EndedAfter limit end s false before after (scene (entries_of old) empty first)
      (scene (entries_of room) written last) to_open
  pub leaves : Leaves entries_of Refuses (plain.site s.who s.keeps_all) room new

-- the session was opened, broke off and left; or there was no memory to ask the room for anything
pub record GivesUp {R S : Type 0} (entries_of : R → List JournalEntry)
    (Refuses : R → Step → HallError → R → Type 0)
    (limit : ℕ) (error : ServeError) (s : Site S) (before after : Option (List ℕ)) (old new : R)
    (empty written : Option (List ℕ)) (first last : S) : Type 0 where
  pub room : R
  pub broke : BrokeOffAfter limit error s false before after (scene (entries_of old) empty first)
      (scene (entries_of room) written last) to_open
  pub refused : IsRefused Refuses error room
  pub leaves : Leaves entries_of Refuses (plain.site s.who s.keeps_all) room new
      ⊎ ((error ≡ Memory) × (room ≡ old) × (new ≡ old))
