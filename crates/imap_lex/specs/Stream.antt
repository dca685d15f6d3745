-- What a stream of commands is (RFC 9051, sections 2.2.1, 4.3 and 9; RFC 7888, section 4).
use Rattle.std.specs.Prelude.{◌≡◌, ◌≤◌, ◌<◌, ◌⊎◌, ℕ, ◌+◌, ◌-◌, true, false, List, [], ◌∷◌}
use Rattle.std.specs.Prelude.{◌++◌, length, take, if◌then◌else◌, Some}
use Rattle.std.specs.List.{flat_map, AllByRecursion}
use Rattle.imap_lex.specs.declared.frame.Frame.{Frame}
use Rattle.imap_lex.specs.declared.frame.Frame.TheVariants.{Whole, Continue, Reject, Hangup}
use Rattle.imap_lex.specs.CommandTag.{tag_of}
use Rattle.imap_lex.specs.Limits.{max_command_octets, max_unasked_octets}
use Rattle.imap_lex.specs.LineEnd.{line_length}
use Rattle.imap_lex.specs.Mark.{Announced, IsMarked}
use Rattle.imap_lex.specs.Framing.{Part, line, Framing, awaiting, beginning, hung_up}
use Rattle.imap_lex.specs.Framing.{crlf, part_of_size, after, run}

-- CRLF stands nowhere in the octets
abbrev pub HasNoCrlf : List ℕ → Type 0
HasNoCrlf octets = (front back : List ℕ) → octets ≡ front ++ (crlf ++ back) → ⊥

-- octets that end with CRLF, and have none before
pub record IsLine (octets : List ℕ) : Type 0 where
  pub ends : (text : List ℕ) × (octets ≡ text ++ crlf)
  pub no_earlier : (front back : List ℕ) → octets ≡ front ++ (crlf ++ back) → back ≡ []

-- a line that announces a literal
pub record IsMarkedLine (octets : List ℕ) (mark : Announced) : Type 0 where
  pub is_line : IsLine octets
  pub marked : IsMarked octets mark

-- a line that announces none
pub record IsLastLine (octets : List ℕ) : Type 0 where
  pub is_line : IsLine octets
  pub unmarked : (mark : Announced) → IsMarked octets mark → ⊥

-- a literal for which the client doesn't wait is short
abbrev pub IsShort : Announced → Type 0
IsShort mark = mark.waits ≡ false → mark.size ≤ max_unasked_octets

-- a line that announces a literal, and the literal
pub record Section : Type 0 where
  pub line : List ℕ
  pub mark : Announced
  pub literal : List ℕ

pub record IsSection (s : Section) : Type 0 where
  pub marked : IsMarkedLine s.line s.mark
  pub short : IsShort s.mark
  pub size : length s.literal ≡ s.mark.size

-- the octets of sections, and how many of them are outside literals and inside
abbrev pub sections_octets : List Section → List ℕ
sections_octets [] = []
sections_octets (s ∷ ss) = (s.line ++ s.literal) ++ sections_octets ss

abbrev pub outside : List Section → ℕ
outside [] = 0
outside (s ∷ ss) = length s.line + outside ss

abbrev pub inside : List Section → ℕ
inside [] = 0
inside (s ∷ ss) = s.mark.size + inside ss

-- a continuation request, if the client waits
abbrev pub continue_frames : Announced → List Frame
continue_frames mark = if mark.waits then Continue ∷ [] else []

abbrev pub sections_frames : List Section → List Frame
sections_frames [] = []
sections_frames (s ∷ ss) = continue_frames s.mark ++ sections_frames ss

-- The sections with which a command begins are within its limits, with more octets
-- outside literals and inside.
pub record IsBegun (limit : ℕ) (ss : List Section) (more_outside more_inside : ℕ) : Type 0 where
  pub each : AllByRecursion IsSection ss
  pub outside : outside ss + more_outside ≤ max_command_octets
  pub inside : inside ss + more_inside ≤ limit

-- a command, or the beginning of one that is dropped for a literal over the limit
pub data Item : Type 0 where
  command : (sections : List Section) (last : List ℕ) → Item
  dropped : (sections : List Section) (last : List ℕ) (mark : Announced) → Item

abbrev pub IsItem : ℕ → Item → Type 0
IsItem limit (command ss last) = IsBegun limit ss (length last) 0 × IsLastLine last
IsItem limit (dropped ss last mark) =
    IsBegun limit ss (length last) 0 × IsMarkedLine last mark
    × (mark.waits ≡ true) × (limit < inside ss + mark.size)

abbrev pub item_octets : Item → List ℕ
item_octets (command ss last) = sections_octets ss ++ last
item_octets (dropped ss last mark) = sections_octets ss ++ last

abbrev pub item_frames : Item → List Frame
item_frames (command ss last) = sections_frames ss ++ Whole (sections_octets ss ++ last) ∷ []
item_frames (dropped ss last mark) = sections_frames ss ++ Reject (tag_of (sections_octets ss ++ last)) ∷ []

-- The octets after the last item: a part of a line, or of a literal; or an octet too many outside literals,
-- or a literal over its limit for which the client doesn't wait, and whatever follows.
pub data Ending : Type 0 where
  in_line : (sections : List Section) (so_far : List ℕ) → Ending
  in_literal : (sections : List Section) (part : Section) → Ending
  too_long : (sections : List Section) (text : List ℕ) (octet : ℕ) (unread : List ℕ) → Ending
  too_large : (sections : List Section) (last : List ℕ) (mark : Announced) (unread : List ℕ) → Ending

abbrev pub IsEnding : ℕ → Ending → Type 0
IsEnding limit (in_line ss so_far) = IsBegun limit ss (length so_far) 0 × HasNoCrlf so_far
IsEnding limit (in_literal ss s) =
    IsBegun limit ss (length s.line) s.mark.size × IsMarkedLine s.line s.mark × IsShort s.mark
    × (length s.literal < s.mark.size)
IsEnding limit (too_long ss text octet unread) =
    IsBegun limit ss (length text) 0 × HasNoCrlf text × (outside ss + length text ≡ max_command_octets)
IsEnding limit (too_large ss last mark unread) =
    IsBegun limit ss (length last) 0 × IsMarkedLine last mark × (mark.waits ≡ false) ×
    ((limit < inside ss + mark.size) ⊎ (max_unasked_octets < mark.size))

abbrev pub ending_octets : Ending → List ℕ
ending_octets (in_line ss so_far) = sections_octets ss ++ so_far
ending_octets (in_literal ss s) = sections_octets ss ++ (s.line ++ s.literal)
ending_octets (too_long ss text octet unread) = sections_octets ss ++ (text ++ octet ∷ unread)
ending_octets (too_large ss last mark unread) = sections_octets ss ++ (last ++ unread)

abbrev pub ending_frames : Ending → List Frame
ending_frames (in_line ss so_far) = sections_frames ss
ending_frames (in_literal ss s) = sections_frames ss ++ continue_frames s.mark
ending_frames (too_long ss text octet unread) = sections_frames ss ++ Hangup ∷ []
ending_frames (too_large ss last mark unread) = sections_frames ss ++ Hangup ∷ []

-- awaiting the rest of a command that goes on after its sections
abbrev pub amid : ℕ → List Section → (more : List ℕ) → Part → (outside room : ℕ) → Framing
amid limit ss more part outside room =
    awaiting limit
    (record { octets = sections_octets ss ++ more; part = part; outside = outside; room = room })

-- the state of a framer after the ending
abbrev pub ending_left : ℕ → Ending → Framing
ending_left limit (in_line ss so_far) =
    amid limit ss so_far (line so_far) (outside ss + length so_far) (limit - inside ss)
ending_left limit (in_literal ss s) =
    amid limit ss (s.line ++ s.literal) (part_of_size (s.mark.size - length s.literal))
    (outside ss + length s.line) (limit - inside ss - s.mark.size)
ending_left limit (too_long ss text octet unread) = hung_up
ending_left limit (too_large ss last mark unread) = hung_up

-- a stream, read as items and an ending
pub record Reading : Type 0 where
  pub items : List Item
  pub ending : Ending

abbrev pub IsReading : ℕ → Reading → Type 0
IsReading limit r = AllByRecursion (IsItem limit) r.items × IsEnding limit r.ending

abbrev pub octets_of : Reading → List ℕ
octets_of r = flat_map item_octets r.items ++ ending_octets r.ending

abbrev pub frames_of : Reading → List Frame
frames_of r = flat_map item_frames r.items ++ ending_frames r.ending

-- every stream has a reading
abbrev pub EachHasReading : Type 0
EachHasReading = (limit : ℕ) (stream : List ℕ) → (r : Reading) × IsReading limit r × (octets_of r ≡ stream)

-- and no other
abbrev pub HasOneReading : Type 0
HasOneReading = (limit : ℕ) (r s : Reading) → IsReading limit r → IsReading limit s →
    octets_of r ≡ octets_of s → r ≡ s

-- A framer returns the frames of the reading, and holds the octets that make no item yet.
abbrev pub FramesAsRead : Type 0
FramesAsRead = (limit : ℕ) (r : Reading) → IsReading limit r →
    run (beginning limit) (octets_of r)
    ≡ record { frames = frames_of r; next = ending_left limit r.ending }

-- Two pieces, one after the other, have the outcome of the piece that they make.
abbrev pub AnyCut : Type 0
AnyCut = (state : Framing) (first second : List ℕ) →
    run state (first ++ second) ≡ after (run state first).frames (run (run state first).next second)

-- The length that is found is that of a first line, and that of each first line is found.
abbrev pub LinesAreRead : Type 0
LinesAreRead = (octets : List ℕ) (len : ℕ) → line_length octets ≡ Some len →
    (len ≤ length octets) × IsLine (take len octets)

abbrev pub LinesAreFound : Type 0
LinesAreFound = (line rest : List ℕ) → IsLine line → line_length (line ++ rest) ≡ Some (length line)
