-- Sections of parts, told as they were asked for (RFC 9051, sections 6.4.5.1 and 7.5.2).
use Rattle.std.specs.Prelude.{ℕ, true, false, List, [], ◌++◌, codes, decimal, map}
use Rattle.std.specs.Prelude.{Option, Some, None, option_map}
use Rattle.imap_print.specs.Fetched.{names_text, origin_text}
use Rattle.imap_print.specs.Words.{joined}
use Rattle.imap_query.specs.declared.fetch.Partial.{Partial}
use Rattle.imap_syntax.specs.Written.{literal_text}
use Rattle.imap_text.specs.Fields.{fields}
use Rattle.imap_text.specs.Sections.{header, partial, text}
use Rattle.imap_structure.specs.Numbered.{message_at, part_at}
use Rattle.imap_rev1_frames.specs.declared.part.PartSection.{PartSection}
use Rattle.imap_rev1_frames.specs.declared.part.PartText.{PartText}
use Rattle.imap_rev1_frames.specs.declared.part.PartText.TheVariants as part_text

-- ---- octets

-- The part of these numbers, if it is there. HEADER, TEXT and header fields are those of a message that the part
-- is.
abbrev pub octets_at : PartText → (numbers message : List ℕ) → Option (List ℕ)
octets_at part_text.Body numbers message = part_at numbers message
octets_at part_text.Mime numbers message = part_at numbers message
octets_at _ numbers message = message_at numbers message

-- what a section has of the part, or of the message that the part is
abbrev pub cut_of : PartText → List ℕ → List ℕ
cut_of part_text.Body octets = text octets
cut_of part_text.Mime octets = header octets
cut_of part_text.Header octets = header octets
cut_of part_text.Text octets = text octets
cut_of (part_text.Fields names) octets = fields names false octets
cut_of (part_text.FieldsNot names) octets = fields names true octets

abbrev pub part_octets : PartText → (numbers message : List ℕ) → Option (List ℕ)
part_octets t numbers message = option_map (cut_of t) (octets_at t numbers message)

abbrev pub octets_within : Option Partial → List ℕ → List ℕ
octets_within (Some range) octets = partial octets range.offset range.count
octets_within None octets = octets

-- ---- words

-- `section-part`
abbrev pub numbers_text : List ℕ → List ℕ
numbers_text numbers = joined 46 (map decimal numbers)

abbrev pub text_name : PartText → List ℕ
text_name part_text.Body = []
text_name part_text.Mime = codes ".MIME"
text_name part_text.Header = codes ".HEADER"
text_name part_text.Text = codes ".TEXT"
text_name (part_text.Fields names) = codes ".HEADER.FIELDS " ++ names_text names
text_name (part_text.FieldsNot names) = codes ".HEADER.FIELDS.NOT " ++ names_text names

abbrev pub origin_of : Option Partial → Option ℕ
origin_of range = option_map (λ r. r.offset) range

-- the name of the section, under which it was asked for
abbrev pub part_name : PartSection → List ℕ
part_name p =
    codes "BODY[" ++ numbers_text p.numbers ++ text_name p.text ++ codes "]"
    ++ origin_text (origin_of p.partial)

-- `nstring`
abbrev pub found_text : Option Partial → Option (List ℕ) → List ℕ
found_text range (Some octets) = literal_text (octets_within range octets)
found_text range None = codes "NIL"

-- how a section of a part of the message is told
abbrev pub section_text : PartSection → (message : List ℕ) → List ℕ
section_text p message =
    part_name p ++ codes " " ++ found_text p.partial (part_octets p.text p.numbers message)
