-- Sections of a message (RFC 9051, section 6.4.5.1).
use Rattle.std.specs.Prelude.{ℕ, Bool, true, false, ◌==◌, ◌&&◌, bytes_eq, List, [], ◌∷◌, ◌++◌}
use Rattle.std.specs.Prelude.{Option, Some, None, option_map, if◌then◌else◌}
use Rattle.std.specs.Cmp.Lexicographic.{pointwise}
use Rattle.std.specs.List.{list_any}
use Rattle.imap_print.specs.declared.fetch.FetchedSection.{FetchedSection}
use Rattle.imap_query.specs.declared.fetch.BodySection.{BodySection}
use Rattle.imap_query.specs.declared.fetch.Partial.{Partial}
use Rattle.imap_query.specs.declared.fetch.Section.{Section}
use Rattle.imap_query.specs.declared.fetch.Section.TheVariants as section
use Rattle.imap_text.specs.Fields.{fields}
use Rattle.imap_text.specs.Sections.{header, partial, text}

-- ---- sections that are the same

-- names are compared octet by octet
abbrev pub is_same_section : Section → Section → Bool
is_same_section section.Whole section.Whole = true
is_same_section section.Header section.Header = true
is_same_section section.Text section.Text = true
is_same_section (section.Fields names) (section.Fields others) = pointwise bytes_eq names others
is_same_section (section.FieldsNot names) (section.FieldsNot others) = pointwise bytes_eq names others
is_same_section _ _ = false

abbrev pub is_same_range : Option Partial → Option Partial → Bool
is_same_range None None = true
is_same_range (Some a) (Some b) = (a.offset == b.offset) && (a.count == b.count)
is_same_range _ _ = false

-- whether `\Seen` is left as it is makes no difference
abbrev pub is_same_body : BodySection → BodySection → Bool
is_same_body a b = is_same_section a.section b.section && is_same_range a.partial b.partial

-- each section is sent once
abbrev pub with_section : List BodySection → BodySection → List BodySection
with_section sections body = if list_any (is_same_body body) sections then sections else sections ++ body ∷ []

-- ---- their octets

abbrev pub section_octets : (message : List ℕ) → Section → List ℕ
section_octets message section.Whole = message
section_octets message section.Header = header message
section_octets message section.Text = text message
section_octets message (section.Fields names) = fields names false message
section_octets message (section.FieldsNot names) = fields names true message

abbrev pub octets_in : Option Partial → List ℕ → List ℕ
octets_in None octets = octets
octets_in (Some range) octets = partial octets range.offset range.count

abbrev pub fetched_section : (message : List ℕ) → BodySection → FetchedSection
fetched_section message body = record {
  section = body.section;
  origin = option_map (λ range. range.offset) body.partial;
  octets = octets_in body.partial (section_octets message body.section) ∷ [];
}
