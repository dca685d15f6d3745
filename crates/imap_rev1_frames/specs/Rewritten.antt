-- The command that the server sees in place of another, line by line.
use Rattle.std.specs.Prelude.{ℕ, zero, suc, ◌+◌, ◌-◌, Bool, min, length, take, drop}
use Rattle.std.specs.Prelude.{List, [], ◌∷◌, ◌++◌, Option, Some, None, if◌then◌else◌}
use Rattle.std.specs.List.{list_all}
use Rattle.imap_lex.specs.Framing.{crlf}
use Rattle.imap_lex.specs.LineEnd.{line_length}
use Rattle.imap_lex.specs.Mark.{Announced, line_mark}
use Rattle.imap_lex.specs.declared.frame.Frame.{Frame}
use Rattle.imap_lex.specs.declared.frame.Frame.TheVariants.{Whole, Continue, Reject, Hangup}
use Rattle.imap_print.specs.Lines.{is_plain}
use Rattle.imap_rev1_frames.specs.declared.asked.Asked.{Asked}
use Rattle.imap_rev1_frames.specs.declared.named.Named.{Named}
use Rattle.imap_rev1_frames.specs.declared.named.Named.TheVariants as named
use Rattle.imap_rev1_frames.specs.declared.scan.Scan.{Scan}
use Rattle.imap_rev1_frames.specs.Asked.{without_repeats}
use Rattle.imap_rev1_frames.specs.Named.{named_in, is_rewritten, has_items}
use Rattle.imap_rev1_frames.specs.Scan.{start, written, asked, left, next_line}

-- ---- a line

-- a line without its CRLF
abbrev pub line_text : List ℕ → List ℕ
line_text line = take (length line - 2) line

-- Neither CR nor LF stands in it. A line in which one stands alone is no command's.
abbrev pub are_plain : List ℕ → Bool
are_plain octets = list_all is_plain octets

-- what is written in place of a line
abbrev pub written_line : Scan → List ℕ → List ℕ
written_line scan line =
    if are_plain (line_text line) then written scan [] (line_text line) ++ crlf else line

abbrev pub line_asked : Scan → List ℕ → List Asked
line_asked scan line = if are_plain (line_text line) then asked scan [] (line_text line) else []

-- the state at the front of the next line
abbrev pub after_line : Scan → List ℕ → Scan
after_line scan line =
    if are_plain (line_text line) then next_line (left scan [] (line_text line)) else scan

-- ---- lines and literals

abbrev pub announced : Option Announced → ℕ
announced (Some mark) = mark.size
announced None = 0

-- how many of the later octets are in the literal that the line announces
abbrev pub literal_length : (line later : List ℕ) → ℕ
literal_length line later = min (length later) (announced (line_mark line))

-- how many octets a line of this length and its literal have
abbrev pub section_length : (len : ℕ) → List ℕ → ℕ
section_length len octets = len + literal_length (take len octets) (drop len octets)

-- The literal after a line of this length stays.
abbrev pub written_section : Scan → (len : ℕ) → List ℕ → List ℕ
written_section scan len octets =
    written_line scan (take len octets)
    ++ take (literal_length (take len octets) (drop len octets)) (drop len octets)

-- what is written in place of lines and literals, after octets that are passed over
abbrev pub written_after : (passed : ℕ) → Scan → List ℕ → List ℕ
written_after passed scan [] = []
written_after (suc n) scan (octet ∷ octets) = written_after n scan octets
written_after zero scan (octet ∷ octets) =
    elim (line_length (octet ∷ octets)) as (λ _. List ℕ) [
      | None ↦ octet ∷ octets
      | Some len ↦
          written_section scan len (octet ∷ octets)
          ++ written_after (section_length len (octet ∷ octets) - 1)
          (after_line scan (take len (octet ∷ octets))) octets
    ]

abbrev pub asked_after : (passed : ℕ) → Scan → List ℕ → List Asked
asked_after passed scan [] = []
asked_after (suc n) scan (octet ∷ octets) = asked_after n scan octets
asked_after zero scan (octet ∷ octets) =
    elim (line_length (octet ∷ octets)) as (λ _. List Asked) [
      | None ↦ []
      | Some len ↦
          line_asked scan (take len (octet ∷ octets))
          ++ asked_after (section_length len (octet ∷ octets) - 1)
          (after_line scan (take len (octet ∷ octets))) octets
    ]

-- ---- a command

-- the command in place of the octets
abbrev pub command_for : Named → List ℕ → List ℕ
command_for command octets = written_after 0 (start command) octets

abbrev pub rewritten_octets : (rev2 : Bool) → List ℕ → List ℕ
rewritten_octets rev2 octets =
    if is_rewritten (named_in rev2 octets) then command_for (named_in rev2 octets) octets else octets

-- the first, if there are any
abbrev pub instead_octets : Option (List ℕ) → List ℕ → List ℕ
instead_octets (Some other) octets = other
instead_octets None octets = octets

abbrev pub rewritten_frame : (rev2 : Bool) → Frame → Frame
rewritten_frame rev2 (Whole octets) = Whole (rewritten_octets rev2 octets)
rewritten_frame rev2 Continue = Continue
rewritten_frame rev2 (Reject tag) = Reject tag
rewritten_frame rev2 Hangup = Hangup

-- the first, if there is one
abbrev pub instead_frame : Option Frame → Frame → Frame
instead_frame (Some other) frame = other
instead_frame None frame = frame

-- An item of FETCH that is asked for again is told once.
abbrev pub each_once : Named → List Asked → List Asked
each_once named.Fetch all = without_repeats [] all
each_once _ all = all

-- what the items in the command ask for
abbrev pub command_asked : Named → List ℕ → List Asked
command_asked command octets =
    if has_items command then each_once command (asked_after 0 (start command) octets) else []

abbrev pub asked_by : Named → Option Frame → List Asked
asked_by command (Some (Whole octets)) = command_asked command octets
asked_by command (Some Continue) = []
asked_by command (Some (Reject tag)) = []
asked_by command (Some Hangup) = []
asked_by command None = []
