-- How the items of FETCH are written (RFC 9051, section 9; RFC 7162, section 7).
use Rattle.std.specs.Prelude.{ℕ, Bool, true, false, ◌&&◌, List, [], ◌∷◌, ◌++◌, codes}
use Rattle.std.specs.Prelude.{decimal, if◌then◌else◌, Option, Some, None}
use Rattle.imap_query.specs.declared.fetch.Partial.{Partial}
use Rattle.imap_query.specs.declared.fetch.Section.{Section}
use Rattle.imap_query.specs.declared.fetch.Section.TheVariants as section
use Rattle.imap_query.specs.declared.fetch.BodySection.{BodySection}
use Rattle.imap_query.specs.declared.fetch.FetchItem.{FetchItem}
use Rattle.imap_query.specs.declared.fetch.FetchItem.TheVariants as item
use Rattle.imap_syntax.specs.FieldNames.{written_name}
use Rattle.imap_syntax.specs.Writing.{Writing, listed}
use Rattle.imap_syntax.specs.Written.{mod_sequence, number64}

abbrev pub section_fits : Section → Bool
section_fits (section.Fields names) = (listed written_name).fits names
section_fits (section.FieldsNot names) = (listed written_name).fits names
section_fits _ = true

abbrev pub section_text : Section → List ℕ
section_text section.Whole = []
section_text section.Header = codes "HEADER"
section_text section.Text = codes "TEXT"
section_text (section.Fields names) = codes "HEADER.FIELDS " ++ (listed written_name).text names
section_text (section.FieldsNot names) = codes "HEADER.FIELDS.NOT " ++ (listed written_name).text names

abbrev pub partial_fits : Option Partial → Bool
partial_fits None = true
partial_fits (Some p) = number64.fits p.offset && mod_sequence.fits p.count

-- < offset . count >
abbrev pub partial_text : Option Partial → List ℕ
partial_text None = []
partial_text (Some p) = 60 ∷ (decimal p.offset ++ (46 ∷ (decimal p.count ++ 62 ∷ [])))

abbrev pub peek_text : (peek : Bool) → List ℕ
peek_text true = codes "BODY.PEEK["
peek_text false = codes "BODY["

abbrev pub body_text : BodySection → List ℕ
body_text body = peek_text body.peek ++ (section_text body.section ++ (93 ∷ partial_text body.partial))

abbrev pub item_fits : FetchItem → Bool
item_fits (item.Section body) = section_fits body.section && partial_fits body.partial
item_fits _ = true

-- An item that isn't served is written as one of these.
abbrev pub item_text : FetchItem → List ℕ
item_text item.Uid = codes "UID"
item_text item.Flags = codes "FLAGS"
item_text item.InternalDate = codes "INTERNALDATE"
item_text item.Rfc822Size = codes "RFC822.SIZE"
item_text item.ModSeq = codes "MODSEQ"
item_text (item.Section body) = body_text body
item_text item.Unserved = codes "BODY"

abbrev pub fetch_item : Writing FetchItem
fetch_item = record { fits = item_fits; text = item_text }

-- An item alone is written without parentheses, and one that isn't served as the macro that is one.
abbrev pub single_text : FetchItem → List ℕ
single_text item.Uid = codes "UID"
single_text item.Flags = codes "FLAGS"
single_text item.InternalDate = codes "INTERNALDATE"
single_text item.Rfc822Size = codes "RFC822.SIZE"
single_text item.ModSeq = codes "MODSEQ"
single_text (item.Section body) = body_text body
single_text item.Unserved = codes "ALL"

abbrev pub is_flags : FetchItem → Bool
is_flags item.Flags = true
is_flags _ = false

abbrev pub is_internal_date : FetchItem → Bool
is_internal_date item.InternalDate = true
is_internal_date _ = false

abbrev pub is_size : FetchItem → Bool
is_size item.Rfc822Size = true
is_size _ = false

-- the items of the macro FAST
abbrev pub is_fast : List FetchItem → Bool
is_fast [] = false
is_fast (i ∷ []) = false
is_fast (i ∷ j ∷ []) = false
is_fast (i ∷ j ∷ k ∷ []) = is_flags i && is_internal_date j && is_size k
is_fast (i ∷ j ∷ k ∷ l ∷ items) = false

abbrev pub several_text : List FetchItem → List ℕ
several_text items = if is_fast items then codes "FAST" else (listed fetch_item).text items

abbrev pub items_text : List FetchItem → List ℕ
items_text [] = several_text []
items_text (i ∷ []) = single_text i
items_text (i ∷ j ∷ items) = several_text (i ∷ j ∷ items)

-- one item, a macro, or items in parentheses
abbrev pub fetch_items : Writing (List FetchItem)
fetch_items = record { fits = (listed fetch_item).fits; text = items_text }

abbrev pub changed_fits : Option ℕ → Bool
changed_fits None = true
changed_fits (Some since) = mod_sequence.fits since

-- modifiers (RFC 7162, sections 3.1.4.1 and 3.2.6)
abbrev pub modifiers_text : (changed_since : Option ℕ) → (vanished : Bool) → List ℕ
modifiers_text None false = []
modifiers_text None true = codes " (VANISHED)"
modifiers_text (Some since) false = codes " (CHANGEDSINCE " ++ (decimal since ++ codes ")")
modifiers_text (Some since) true = codes " (CHANGEDSINCE " ++ (decimal since ++ codes " VANISHED)")
