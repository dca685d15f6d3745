-- The structure of a message (RFC 9051, section 7.5.2, BODY and BODYSTRUCTURE).
use Rattle.std.specs.Prelude.{ℕ, zero, suc, Bool, false, List, [], ◌∷◌, ◌++◌, length, codes, count_by, decimal}
use Rattle.std.specs.Prelude.{flat_map, if◌then◌else◌}
use Rattle.imap_mime.specs.Envelope.{envelope_of, envelope_text}
use Rattle.imap_mime.specs.Strings.{string_text}
use Rattle.imap_print.specs.Words.{before_each}
use Rattle.imap_text.specs.Sections.{text}
use Rattle.imap_structure.specs.declared.media.Kind.{Kind}
use Rattle.imap_structure.specs.declared.media.Kind.TheVariants as kind
use Rattle.imap_structure.specs.declared.media.MediaType.{MediaType}
use Rattle.imap_structure.specs.Media.{boundary_of, is_digest, kind_of, media_of, plain_type}
use Rattle.imap_structure.specs.Parts.{is_line_feed, parts_of}
use Rattle.imap_structure.specs.Single.{params_text, place_words, single_end, single_front}

-- how deep parts stand in one another
abbrev pub max_depth : ℕ
max_depth = 64

abbrev pub lines_text : (body : List ℕ) → List ℕ
lines_text body = decimal (count_by is_line_feed body)

-- ---- parts in which no others are read

-- `body-type-basic`
abbrev pub other_text : (extended : Bool) → MediaType → (octets : List ℕ) → List ℕ
other_text extended m octets = single_front m octets (length (text octets)) ++ single_end extended octets

-- `body-type-text`
abbrev pub plain_text : (extended : Bool) → MediaType → (octets : List ℕ) → List ℕ
plain_text extended m octets =
    single_front m octets (length (text octets)) ++ 32 ∷ lines_text (text octets)
    ++ single_end extended octets

-- what stands too deep
abbrev pub limit_text : (extended : Bool) → (octets : List ℕ) → List ℕ
limit_text extended octets =
    other_text extended (plain_type (codes "application") (codes "octet-stream")) octets

-- ---- parts that have others. `below in_digest octets` is how one of these is told

-- `body-type-msg`
abbrev pub message_text :
    (extended : Bool) → (below : Bool → List ℕ → List ℕ) → MediaType → (octets : List ℕ) → List ℕ
message_text extended below m octets =
    single_front m octets (length (text octets)) ++ 32 ∷ envelope_text (envelope_of (text octets))
    ++ 32 ∷ below false (text octets) ++ 32 ∷ lines_text (text octets) ++ single_end extended octets

-- `body-ext-mpart`
abbrev pub multipart_extended : (extended : Bool) → MediaType → (octets : List ℕ) → List ℕ
multipart_extended extended m octets =
    if extended then 32 ∷ params_text m.params ++ before_each 32 (place_words octets) else []

abbrev pub multipart_end : (extended : Bool) → MediaType → (octets : List ℕ) → List ℕ
multipart_end extended m octets =
    32 ∷ string_text m.subtype ++ multipart_extended extended m octets ++ 41 ∷ []

-- `body-type-mpart`
abbrev pub multipart_text :
    (extended : Bool) → (below : Bool → List ℕ → List ℕ) → MediaType → (octets : List ℕ) → List ℕ
multipart_text extended below m octets =
    40 ∷ flat_map (below (is_digest m)) (parts_of (boundary_of m.params) (text octets))
    ++ multipart_end extended m octets

abbrev pub entity_by :
    Kind → (extended : Bool) → (below : Bool → List ℕ → List ℕ) → MediaType → (octets : List ℕ) → List ℕ
entity_by kind.Multipart extended below m octets = multipart_text extended below m octets
entity_by kind.Message extended below m octets = message_text extended below m octets
entity_by kind.Text extended below m octets = plain_text extended m octets
entity_by kind.Other extended below m octets = other_text extended m octets

abbrev pub entity_text :
    (extended : Bool) → (below : Bool → List ℕ → List ℕ) → MediaType → (octets : List ℕ) → List ℕ
entity_text extended below m octets = entity_by (kind_of m) extended below m octets

-- ---- to a depth

unfoldable pub structure_text :
    (extended : Bool) → (depth : ℕ) → (in_digest : Bool) → (octets : List ℕ) → List ℕ
structure_text extended zero in_digest octets = limit_text extended octets
structure_text extended (suc depth) in_digest octets =
    entity_text extended (structure_text extended depth) (media_of in_digest octets) octets

-- BODYSTRUCTURE, or BODY if it isn't extended
abbrev pub structure_of : (extended : Bool) → (message : List ℕ) → List ℕ
structure_of extended message = structure_text extended max_depth false message
