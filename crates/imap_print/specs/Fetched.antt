-- How the items of a message are printed (RFC 9051, section 7.5.2; RFC 7162, section 3.1).
use Rattle.std.specs.Prelude.{ℕ, List, [], ◌++◌, codes, decimal, map, Option, Some, None}
use Rattle.std.specs.List.{concat}
use Rattle.imap_syntax.specs.Written.{literal_text}
use Rattle.imap_syntax.specs.Moments.{Moment}
use Rattle.imap_syntax.specs.WrittenDates.{date_time}
use Rattle.imap_query.specs.declared.fetch.Section.{Section}
use Rattle.imap_query.specs.declared.fetch.Section.TheVariants as section
use Rattle.imap_print.specs.declared.fetch.FetchedSection.{FetchedSection}
use Rattle.imap_print.specs.declared.fetch.FetchedItems.{FetchedItems}
use Rattle.imap_print.specs.declared.flag.FlagSet.{FlagSet}
use Rattle.imap_print.specs.Words.{given_by, in_parentheses}
use Rattle.imap_print.specs.Strings.{name_text}
use Rattle.imap_print.specs.Flags.{flags_text}

-- `header-list`
abbrev pub names_text : List (List ℕ) → List ℕ
names_text names = in_parentheses (map name_text names)

-- `section-spec`
abbrev pub section_text : Section → List ℕ
section_text section.Whole = []
section_text section.Header = codes "HEADER"
section_text section.Text = codes "TEXT"
section_text (section.Fields names) = codes "HEADER.FIELDS " ++ names_text names
section_text (section.FieldsNot names) = codes "HEADER.FIELDS.NOT " ++ names_text names

abbrev pub origin_text : Option ℕ → List ℕ
origin_text (Some origin) = codes "<" ++ decimal origin ++ codes ">"
origin_text None = []

abbrev pub body_text : FetchedSection → List ℕ
body_text body =
    codes "BODY[" ++ section_text body.section ++ codes "]" ++ origin_text body.origin ++ codes " "
    ++ literal_text (concat body.octets)

abbrev pub flags_words : Option FlagSet → List (List ℕ)
flags_words flags = given_by (λ set. codes "FLAGS " ++ flags_text set) flags

abbrev pub date_words : Option Moment → List (List ℕ)
date_words date = given_by (λ time. codes "INTERNALDATE " ++ date_time.text time) date

abbrev pub mod_seq_words : Option ℕ → List (List ℕ)
mod_seq_words mod_seq = given_by (λ n. codes "MODSEQ (" ++ decimal n ++ codes ")") mod_seq

-- the words of a message but its sections, in this order
abbrev pub item_words : FetchedItems → List (List ℕ)
item_words items =
    given_by (λ uid. codes "UID " ++ decimal uid) items.uid
    ++ flags_words items.flags
    ++ date_words items.internal_date
    ++ given_by (λ size. codes "RFC822.SIZE " ++ decimal size) items.size
    ++ mod_seq_words items.mod_seq

-- what stands before the words of a message
abbrev pub fetch_front : (number : ℕ) → List ℕ
fetch_front number = codes "* " ++ decimal number ++ codes " FETCH ("

-- the words of a message, in this order
abbrev pub fetched_words : FetchedItems → List (List ℕ)
fetched_words items = item_words items ++ map body_text items.sections

abbrev pub fetched_text : FetchedItems → List ℕ
fetched_text items = in_parentheses (fetched_words items)
