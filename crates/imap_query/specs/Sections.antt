-- Sections of messages, as FETCH names them (RFC 9051, section 9).
use Rattle.std.specs.Prelude.{ℕ, ◌+◌, ◌*◌, ◌-◌, Bool, true, false, cond, ◌==◌, ◌&&◌, ◌||◌, not}
use Rattle.std.specs.Prelude.{nat_lt, List, [], ◌∷◌, Option, Some, None}
use Rattle.std.specs.Char.{is_ascii_digit}
use Rattle.imap_query.specs.declared.fetch.Partial.{Partial}
use Rattle.imap_query.specs.declared.fetch.Section.{Section}
use Rattle.imap_query.specs.declared.fetch.Section.TheVariants as section
use Rattle.imap_query.specs.declared.fetch.FetchItem.{FetchItem}
use Rattle.imap_query.specs.declared.fetch.FetchItem.TheVariants as item
use Rattle.imap_query.specs.declared.fetch_word.SectionWord.{SectionWord}
use Rattle.imap_query.specs.declared.fetch_word.SectionWord.TheVariants as part
use Rattle.imap_query.specs.declared.fetch_word.TheConstants.{SECTION_WORDS}
use Rattle.imap_syntax.specs.Rule.{Rule, fail, give, ◌>>=◌, ◌>>◌, octet, some_of, when}
use Rattle.imap_syntax.specs.Rule.{flag, keyword, listed, judged}
use Rattle.imap_syntax.specs.First.{by_first}
use Rattle.imap_syntax.specs.Lexical.{space, number, nz_number}
pub use Rattle.imap_syntax.specs.FieldNames.{field_name}
use Rattle.imap_query.specs.FetchWords.{section_name, is_section_char}

abbrev pub partial_behind : Bool → Rule (Option Partial)
partial_behind false = give None
partial_behind true = do
  offset ← number 0 9223372036854775807
  octet 46
  count ← nz_number 9223372036854775807
  octet 62
  give (Some (record { offset = offset; count = count }))

-- `partial`, or nothing: < offset . count >
abbrev pub partial : Rule (Option Partial)
partial = do
  angle ← flag 60
  partial_behind angle

abbrev pub section_text : SectionWord → Rule Section
section_text part.Header = give section.Header
section_text part.Fields = do space; names ← listed field_name; give (section.Fields names)
section_text part.FieldsNot = do space; names ← listed field_name; give (section.FieldsNot names)
section_text part.Text = give section.Text
section_text part.Mime = fail

-- `section-msgtext`
abbrev pub section_message : Rule Section
section_message = do
  word ← keyword is_section_char section_name SECTION_WORDS
  section_text word

-- digits and dots: nz-numbers with . between them, and perhaps a . at the end, which is told
abbrev pub part_ends : (so_far : Option ℕ) → List ℕ → Option Bool
part_ends None [] = Some true
part_ends (Some n) [] = Some false
part_ends None (b ∷ rest) = cond (nat_lt 48 b && nat_lt b 58) (part_ends (Some (b - 48)) rest) None
part_ends (Some n) (b ∷ rest) =
    cond (b == 46) (part_ends None rest)
    (cond (is_ascii_digit b && nat_lt (10 * n + (b - 48)) 4294967296)
    (part_ends (Some (10 * n + (b - 48))) rest)
    None)

abbrev pub is_part_char : ℕ → Bool
is_part_char b = is_ascii_digit b || b == 46

abbrev pub part_text : SectionWord → Rule (Unit {0})
part_text part.Mime = give tt
part_text name = do section_text name; give tt

abbrev pub part_behind : Bool → Rule (Unit {0})
part_behind false = give tt
part_behind true = do
  word ← keyword is_section_char section_name SECTION_WORDS
  part_text word

-- `section-part`, and perhaps a .
abbrev pub part_numbers : Rule Bool
part_numbers = do
  numbers ← some_of is_part_char
  judged (part_ends None numbers)

-- `section-part`, and perhaps . and section-text after it
abbrev pub section_part : Rule (Unit {0})
section_part = do
  dot ← part_numbers
  part_behind dot

abbrev pub section_end : (peek : Bool) → Section → Rule FetchItem
section_end peek named = do
  range ← partial
  give (item.Section (record { peek = peek; section = named; partial = range }))

-- a part is read and not served
abbrev pub part_item : Rule FetchItem
part_item = do
  section_part
  octet 93
  range ← partial
  give item.Unserved

abbrev pub message_item : (peek : Bool) → Rule FetchItem
message_item peek = do
  named ← section_message
  octet 93
  section_end peek named

-- the whole message, by ] alone
abbrev pub body_section_behind : (peek empty : Bool) → Rule FetchItem
body_section_behind peek true = section_end peek section.Whole
body_section_behind peek false = by_first is_ascii_digit part_item (message_item peek)

-- `section`, after [
abbrev pub body_section : (peek : Bool) → Rule FetchItem
body_section peek = do
  empty ← flag 93
  body_section_behind peek empty

abbrev pub binary_behind : Bool → Rule (Unit {0})
binary_behind true = give tt
binary_behind false = do
  dot ← part_numbers
  when (not dot) (tt {0})
  octet 93

-- `section-binary`
abbrev pub section_binary : Rule (Unit {0})
section_binary = do
  octet 91
  empty ← flag 93
  binary_behind empty
