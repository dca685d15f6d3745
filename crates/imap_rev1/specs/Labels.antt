-- The items of a message, told as they were asked for (RFC 3501, sections 6.4.5 and 7.4.2).
use Rattle.std.specs.Prelude.{ℕ, Bool, true, false, ◌&&◌, ◌||◌, List, [], ◌∷◌, ◌++◌, codes, decimal, drop, find}
use Rattle.std.specs.Prelude.{Option, Some, None, is_none, if◌then◌else◌}
use Rattle.std.specs.List.{concat}
use Rattle.imap_query.specs.declared.fetch.Section.{Section}
use Rattle.imap_query.specs.declared.fetch.Section.TheVariants as section
use Rattle.imap_print.specs.declared.fetch.FetchedItems.{FetchedItems}
use Rattle.imap_print.specs.declared.fetch.FetchedSection.{FetchedSection}
use Rattle.imap_print.specs.Fetched.{body_text, item_words}
use Rattle.imap_print.specs.Words.{given_by, in_parentheses}
use Rattle.imap_syntax.specs.Written.{literal_text}
use Rattle.imap_mime.specs.Envelope.{envelope_of, envelope_text}
use Rattle.imap_structure.specs.Structure.{structure_of}
use Rattle.imap_rev1_frames.specs.declared.asked.Asked.{Asked}
use Rattle.imap_rev1_frames.specs.declared.asked.Asked.TheVariants as asked
use Rattle.imap_rev1_frames.specs.declared.asked.Label.{Label}
use Rattle.imap_rev1_frames.specs.declared.asked.Label.TheVariants as label
use Rattle.imap_rev1_frames.specs.Asked.{label_name}
use Rattle.imap_rev1.specs.Parts.{section_text}

-- ---- sections of a message

abbrev pub is_of : Label → Section → Bool
is_of label.Message section.Whole = true
is_of label.Header section.Header = true
is_of label.Envelope section.Header = true
is_of label.Body section.Whole = true
is_of label.Structure section.Whole = true
is_of label.Full section.Whole = true
is_of label.Text section.Text = true
is_of _ _ = false

-- the label stands for the section, which is no part of one
abbrev pub stands_for : Label → FetchedSection → Bool
stands_for l body = is_none body.origin && is_of l body.section

abbrev pub has_label : FetchedSection → Bool
has_label body = stands_for label.Message body || stands_for label.Header body || stands_for label.Text body

-- the sections from the first on for which no label stands
abbrev pub from_other : List FetchedSection → List FetchedSection
from_other [] = []
from_other (body ∷ bodies) = if has_label body then from_other bodies else body ∷ bodies

abbrev pub first_of : List FetchedSection → Option FetchedSection
first_of [] = None
first_of (body ∷ bodies) = Some body

-- The section for which an item asks, or the message for a part. `rest` are those that may be for it if no label
-- stands for it.
abbrev pub section_for : (bodies rest : List FetchedSection) → Asked → Option FetchedSection
section_for bodies rest (asked.Labelled l) = find (stands_for l) bodies
section_for bodies rest (asked.Unlabelled l) = find (stands_for l) bodies
section_for bodies rest (asked.Part p) = find (stands_for label.Message) bodies
section_for bodies rest asked.Section = first_of (from_other rest)
section_for bodies rest _ = None

-- those that may be for later items
abbrev pub rest_after : Asked → (rest : List FetchedSection) → List FetchedSection
rest_after asked.Section rest = drop 1 (from_other rest)
rest_after _ rest = rest

-- ---- words

-- ENVELOPE and BODY, after the name of the former
abbrev pub full_text : (message : List ℕ) → List ℕ
full_text message = envelope_text (envelope_of message) ++ codes " BODY " ++ structure_of false message

-- what is told of the section's octets
abbrev pub labelled_contents : Label → List ℕ → List ℕ
labelled_contents label.Envelope octets = envelope_text (envelope_of octets)
labelled_contents label.Body octets = structure_of false octets
labelled_contents label.Structure octets = structure_of true octets
labelled_contents label.Full octets = full_text octets
labelled_contents _ octets = literal_text octets

abbrev pub labelled_text : Label → FetchedSection → List ℕ
labelled_text l body = label_name l ++ codes " " ++ labelled_contents l (concat body.octets)

-- how the section is told
abbrev pub asked_text : Asked → FetchedSection → List ℕ
asked_text (asked.Labelled l) body = labelled_text l body
asked_text (asked.Part p) body = section_text p (concat body.octets)
asked_text _ body = body_text body

-- the word for an item; none if its section isn't there
abbrev pub asked_words : (bodies rest : List FetchedSection) → Asked → List (List ℕ)
asked_words bodies rest a = given_by (asked_text a) (section_for bodies rest a)

-- the words for all items, in their order
abbrev pub all_asked_words : (bodies rest : List FetchedSection) → List Asked → List (List ℕ)
all_asked_words bodies rest [] = []
all_asked_words bodies rest (a ∷ more) =
    asked_words bodies rest a ++ all_asked_words bodies (rest_after a rest) more

-- the items but the sections, and the sections in the order in which they were asked for
abbrev pub fetch_words : List Asked → FetchedItems → List (List ℕ)
fetch_words all items = item_words items ++ all_asked_words items.sections items.sections all

abbrev pub fetch_text : List Asked → (number : ℕ) → FetchedItems → List ℕ
fetch_text all number items =
    codes "* " ++ decimal number ++ codes " FETCH " ++ in_parentheses (fetch_words all items)
