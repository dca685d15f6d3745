-- Sections of parts, as FETCH names them (RFC 3501, section 6.4.5; RFC 9051, section 9, `section-part`).
use Rattle.std.specs.Prelude.{ℕ, ◌+◌, ◌*◌, ◌-◌, Bool, true, false, not, ◌==◌, ◌&&◌, ◌||◌, nat_lt, eqb, bytes_eq}
use Rattle.std.specs.Prelude.{List, [], ◌∷◌, ◌++◌, length, take, drop, codes, Option, Some, None, option_map}
use Rattle.std.specs.Prelude.{if◌then◌else◌}
use Rattle.std.specs.Char.{is_ascii_alphabetic, is_ascii_digit}
use Rattle.std.specs.Cmp.Lexicographic.{pointwise}
use Rattle.std.specs.List.{ends_with, list_all, prefix_len}
use Rattle.std.specs.Option.{option_and_then}
use Rattle.imap_query.specs.declared.fetch.FetchItem.{FetchItem}
use Rattle.imap_query.specs.declared.fetch.FetchItem.TheVariants as item
use Rattle.imap_query.specs.declared.fetch.Partial.{Partial}
use Rattle.imap_query.specs.declared.fetch.Section.{Section}
use Rattle.imap_query.specs.declared.fetch.Section.TheVariants as section
use Rattle.imap_query.specs.Fetch.{fetch_items}
use Rattle.imap_syntax.specs.Lexical.{begins_with_zero, decimal}
use Rattle.imap_syntax.specs.Written.{nz_number64}
use Rattle.imap_rev1_frames.specs.declared.fields.Fields.{Fields}
use Rattle.imap_rev1_frames.specs.declared.part.PartSection.{PartSection}
use Rattle.imap_rev1_frames.specs.declared.part.PartText.{PartText}
use Rattle.imap_rev1_frames.specs.declared.part.PartText.TheVariants as part_text
use Rattle.imap_rev1_frames.specs.Named.{begins, is_word}

-- ---- numbers (`section-part`)

abbrev pub is_number_octet : ℕ → Bool
is_number_octet b = is_ascii_digit b || b == 46

-- what has begun of a number after an octet, if it may stand there
abbrev pub number_step : (begun : Option ℕ) → ℕ → Option (Option ℕ)
number_step None b = if nat_lt 48 b && nat_lt b 58 then Some (Some (b - 48)) else None
number_step (Some n) b =
    if b == 46 then Some None
    else (if is_ascii_digit b && nat_lt (10 * n + (b - 48)) 4294967296 then Some (Some (10 * n + (b - 48)))
    else None)

abbrev pub are_by : Option (Option ℕ) → (more : Option ℕ → Bool) → Bool
are_by (Some begun) more = more begun
are_by None more = false

-- numbers from 1 below 2^32, with a dot after each, or after each but the last
abbrev pub are_numbers : (begun : Option ℕ) → List ℕ → Bool
are_numbers begun [] = true
are_numbers begun (b ∷ octets) = are_by (number_step begun b) (λ next. are_numbers next octets)

-- the number that has begun, if it ends
abbrev pub ended : (begun next : Option ℕ) → List ℕ
ended (Some n) None = n ∷ []
ended _ _ = []

abbrev pub numbers_by : (begun : Option ℕ) → Option (Option ℕ) → (more : Option ℕ → List ℕ) → List ℕ
numbers_by begun (Some next) more = ended begun next ++ more next
numbers_by begun None more = []

-- the numbers in them
abbrev pub numbers_from : (begun : Option ℕ) → List ℕ → List ℕ
numbers_from begun [] = ended begun None
numbers_from begun (b ∷ octets) = numbers_by begun (number_step begun b) (λ next. numbers_from next octets)

-- ---- what a section has of the part (`section-text`)

abbrev pub text_named : (word : List ℕ) → Option PartText
text_named word =
    if is_word (codes "MIME") word then Some part_text.Mime
    else (if is_word (codes "HEADER") word then Some part_text.Header
    else (if is_word (codes "TEXT") word then Some part_text.Text else None))

-- A word follows a dot.
abbrev pub text_in : (dotted : Bool) → (word : List ℕ) → Option PartText
text_in dotted word =
    if dotted then text_named word
    else (if length word == 0 then Some part_text.Body else None)

-- ---- a range of octets (`partial`)

abbrev pub number_in : (digits : List ℕ) → Option ℕ
number_in digits =
    if length digits == 0 || not (list_all is_ascii_digit digits)
    || nat_lt 9223372036854775807 (decimal digits)
    then None else Some (decimal digits)

abbrev pub from_one : ℕ → Option ℕ
from_one n = if nz_number64.fits n then Some n else None

-- a dot, and a number of octets without leading zeros
abbrev pub count_in : List ℕ → Option ℕ
count_in [] = None
count_in (b ∷ digits) =
    if b == 46 && not (begins_with_zero digits) then option_and_then from_one (number_in digits) else None

abbrev pub range_by : (offset count : Option ℕ) → Option Partial
range_by (Some offset) (Some count) = Some (record { offset = offset; count = count })
range_by _ _ = None

-- what stands between `<` and `>`
abbrev pub range_in : List ℕ → Option Partial
range_in octets =
    range_by (number_in (take (prefix_len is_ascii_digit octets) octets))
    (count_in (drop (prefix_len is_ascii_digit octets) octets))

abbrev pub range_or_none : List ℕ → Option (Option Partial)
range_or_none [] = Some None
range_or_none (b ∷ octets) =
    if b == 60 && ends_with eqb octets (codes ">")
    then option_map Some (range_in (take (length octets - 1) octets)) else None

-- what ends a section, and perhaps a range
abbrev pub end_in : List ℕ → Option (Option Partial)
end_in [] = None
end_in (b ∷ octets) = if b == 93 then range_or_none octets else None

-- ---- words

-- a section of a part by its words: its numbers as they are written, and what it has of the part
pub record PartWords : Type 0 where
  pub numbers : List ℕ
  pub text : PartText
  pub partial : Option Partial

abbrev pub words_by : (numbers : List ℕ) → Option PartText → Option (Option Partial) → Option PartWords
words_by numbers (Some text) (Some partial) =
    Some (record { numbers = numbers; text = text; partial = partial })
words_by numbers _ _ = None

abbrev pub words_after : (numbers rest : List ℕ) → Option PartWords
words_after numbers rest =
    words_by numbers
    (text_in (ends_with eqb numbers (codes ".")) (take (prefix_len is_ascii_alphabetic rest) rest))
    (end_in (drop (prefix_len is_ascii_alphabetic rest) rest))

abbrev pub words_with : (numbers rest : List ℕ) → Option PartWords
words_with numbers rest =
    if not (length numbers == 0) && are_numbers None numbers then words_after numbers rest else None

-- ---- header fields (`header-list`)

abbrev pub fields_text : Section → Option PartText
fields_text (section.Fields names) = Some (part_text.Fields names)
fields_text (section.FieldsNot names) = Some (part_text.FieldsNot names)
fields_text _ = None

-- header fields, if the one item asks for them, and a number of octets before the end
abbrev pub fields_named : List FetchItem → (left : ℕ) → Option Fields
fields_named (item.Section body ∷ []) left =
    option_map (λ text. record { text = text; partial = body.partial; left = left }) (fields_text body.section)
fields_named _ left = None

abbrev pub fields_by : Option (List FetchItem × List ℕ) → Option Fields
fields_by (Some found) = fields_named found.0 (length found.1)
fields_by None = None

-- Numbers, a dot, and what asks for header fields of the message, if the numbers and the dot are left out. A name
-- is no literal, since a line has none.
abbrev pub fields_after : (numbers rest : List ℕ) → Option Fields
fields_after numbers rest =
    if ends_with eqb numbers (codes ".") && are_numbers None numbers
    then fields_by (fetch_items.read (codes "BODY[" ++ rest)) else None

-- the header fields of a part for which octets after a bracket ask, at their front
abbrev pub fields_in : List ℕ → Option Fields
fields_in octets =
    fields_after (take (prefix_len is_number_octet octets) octets)
    (drop (prefix_len is_number_octet octets) octets)

-- if no octets follow
abbrev pub whole_fields : (numbers : List ℕ) → Option Fields → Option PartWords
whole_fields numbers (Some f) =
    if f.left == 0 then Some (record { numbers = numbers; text = f.text; partial = f.partial }) else None
whole_fields numbers None = None

-- ---- a word

-- the first, if there is one
abbrev pub words_or : Option PartWords → Option PartWords → Option PartWords
words_or (Some w) other = Some w
words_or None other = other

-- what stands after the bracket
abbrev pub words_in : List ℕ → Option PartWords
words_in octets =
    words_or
    (words_with (take (prefix_len is_number_octet octets) octets)
    (drop (prefix_len is_number_octet octets) octets))
    (whole_fields (take (prefix_len is_number_octet octets) octets) (fields_in octets))

abbrev pub is_ended : (word : List ℕ) → Bool
is_ended word = ends_with eqb word (codes "]") || ends_with eqb word (codes ">")

abbrev pub after_bracket : (word : List ℕ) → Option (List ℕ)
after_bracket word =
    if begins (codes "BODY[") word then Some (drop 5 word)
    else (if begins (codes "BODY.PEEK[") word then Some (drop 10 word) else None)

-- the section of a part that a word is
abbrev pub part_words : (word : List ℕ) → Option PartWords
part_words word = if is_ended word then option_and_then words_in (after_bracket word) else None

abbrev pub section_of : PartWords → PartSection
section_of w = record { numbers = numbers_from None w.numbers; text = w.text; partial = w.partial }

abbrev pub part_in : (word : List ℕ) → Option PartSection
part_in word = option_map section_of (part_words word)

-- ---- a header list

abbrev pub length_before : (len : ℕ) → Option Fields → ℕ
length_before len (Some f) = len - f.left
length_before len None = 0

-- how many octets after a word end it as one that asks for header fields of a part
abbrev pub fields_length : (word octets : List ℕ) → ℕ
fields_length word octets =
    length_before (length octets) (option_and_then fields_in (after_bracket (word ++ octets)))

-- ---- what is asked in its place

abbrev pub message_for : (word : List ℕ) → List ℕ
message_for word = if begins (codes "BODY[") word then codes "BODY[]" else codes "BODY.PEEK[]"

-- the message in which the part stands. `\Seen` is set as by the word
abbrev pub part_for : Option PartWords → (word : List ℕ) → List ℕ
part_for (Some w) word = message_for word
part_for None word = word

-- ---- equal sections

abbrev pub is_same_text : PartText → PartText → Bool
is_same_text part_text.Body part_text.Body = true
is_same_text part_text.Mime part_text.Mime = true
is_same_text part_text.Header part_text.Header = true
is_same_text part_text.Text part_text.Text = true
is_same_text (part_text.Fields names) (part_text.Fields others) = pointwise bytes_eq names others
is_same_text (part_text.FieldsNot names) (part_text.FieldsNot others) = pointwise bytes_eq names others
is_same_text _ _ = false

abbrev pub is_same_range : Option Partial → Option Partial → Bool
is_same_range (Some p) (Some q) = p.offset == q.offset && p.count == q.count
is_same_range None None = true
is_same_range _ _ = false

abbrev pub is_same_part : PartSection → PartSection → Bool
is_same_part p q =
    bytes_eq p.numbers q.numbers && is_same_text p.text q.text && is_same_range p.partial q.partial
