-- What each octet of a stream does to a framer (RFC 9051, sections 2.2.1 and 4.3; RFC 7888, section 4).
use Rattle.std.specs.Prelude.{ℕ, ◌+◌, ◌-◌, min, List, [], ◌∷◌, ◌++◌, nat_lt, eqb}
use Rattle.std.specs.Prelude.{if◌then◌else◌, Option, Some, None}
use Rattle.std.specs.List.{ends_with}
use Rattle.imap_lex.specs.declared.frame.Frame.{Frame}
use Rattle.imap_lex.specs.declared.frame.Frame.TheVariants.{Whole, Continue, Reject, Hangup}
pub use Rattle.imap_lex.specs.Chars.{crlf}
use Rattle.imap_lex.specs.CommandTag.{tag_of}
use Rattle.imap_lex.specs.Limits.{max_command_octets, max_unasked_octets}
use Rattle.imap_lex.specs.Mark.{Announced, line_mark}

-- a line so far, or how many octets of a literal are still to come
pub data Part : Type 0 where
  line : (octets : List ℕ) → Part
  literal : (left : ℕ) → Part

-- a command so far: its octets, how many of them are outside literals, and how
-- many more its literals may have
pub record Begun : Type 0 where
  pub octets : List ℕ
  pub part : Part
  pub outside : ℕ
  pub room : ℕ

-- awaiting the rest of a command, where the literals of one may have `limit` octets, or reading no more
pub data Framing : Type 0 where
  awaiting : (limit : ℕ) (begun : Begun) → Framing
  hung_up : Framing

-- the frames that octets bring, and where they leave a framer
pub record Outcome : Type 0 where
  pub frames : List Frame
  pub next : Framing

-- no octet of a command has come
abbrev pub start : ℕ → Begun
start limit = record { octets = []; part = line []; outside = 0; room = limit }

abbrev pub beginning : (limit : ℕ) → Framing
beginning limit = awaiting limit (start limit)

abbrev pub goes_on : ℕ → List Frame → Begun → Outcome
goes_on limit frames b = record { frames = frames; next = awaiting limit b }

abbrev pub ends : ℕ → Frame → Outcome
ends limit frame = record { frames = frame ∷ []; next = awaiting limit (start limit) }

abbrev pub hangs_up : Outcome
hangs_up = record { frames = Hangup ∷ []; next = hung_up }

-- what follows a mark of this size
abbrev pub part_of_size : ℕ → Part
part_of_size size = if nat_lt 0 size then literal size else line []

abbrev pub before_literal : Begun → ℕ → Begun
before_literal b size =
    record { octets = b.octets; part = part_of_size size; outside = b.outside; room = b.room - size }

-- A line has ended, with a mark or without.
abbrev pub line_outcome : ℕ → Begun → Option Announced → Outcome
line_outcome limit b None = ends limit (Whole b.octets)
line_outcome limit b (Some mark) =
    if mark.waits
    then (if nat_lt b.room mark.size
    then ends limit (Reject (tag_of b.octets))
    else goes_on limit (Continue ∷ []) (before_literal b mark.size))
    else (if nat_lt (min b.room max_unasked_octets) mark.size
    then hangs_up
    else goes_on limit [] (before_literal b mark.size))

-- An octet outside literals has come, the last of the line.
abbrev pub in_line : ℕ → Begun → List ℕ → Outcome
in_line limit b octets =
    if nat_lt max_command_octets b.outside then hangs_up
    else (if ends_with eqb octets crlf then line_outcome limit b (line_mark octets)
    else goes_on limit [] b)

abbrev pub part_outcome : ℕ → List ℕ → ℕ → ℕ → Part → ℕ → Outcome
part_outcome limit octets outside room (line so_far) b =
    let more = so_far ++ b ∷ [] in
    in_line limit
    (record { octets = octets ++ b ∷ []; part = line more; outside = outside + 1; room = room }) more
part_outcome limit octets outside room (literal left) b =
    goes_on limit []
    (record { octets = octets ++ b ∷ []; part = part_of_size (left - 1); outside = outside; room = room })

abbrev pub octet_outcome : Framing → ℕ → Outcome
octet_outcome (awaiting limit begun) b = part_outcome limit begun.octets begun.outside begun.room begun.part b
octet_outcome hung_up b = record { frames = []; next = hung_up }

-- an outcome, with these frames before its own
abbrev pub after : List Frame → Outcome → Outcome
after frames o = record { frames = frames ++ o.frames; next = o.next }

-- what octets do, one after another
abbrev pub run : Framing → List ℕ → Outcome
run state [] = record { frames = []; next = state }
run state (b ∷ bs) = after (octet_outcome state b).frames (run (octet_outcome state b).next bs)
