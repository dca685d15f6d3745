-- Structures are text of one line.
use Rattle.std.proofs.Common.{ℕ, zero, suc, Bool, true, false, List, [], ◌∷◌, Option, Some, None, refl, length, map, flat_map, count_by}
use Rattle.std.specs.Prelude.{codes}
use Rattle.imap_print.proofs.Reader.{Settles, settled, settles-append, one_line, AllSettle, words_settle, before_each_settles}
use Rattle.imap_print.proofs.OneLine.{number_settles}
use Rattle.imap_mime.specs.Envelope.{envelope_of}
use Rattle.imap_mime.specs.Strings.{string_text}
use Rattle.imap_mime.specs.Values.{first_value}
use Rattle.imap_mime.proofs.Texts.{nstring_settles, envelope_settles}
use Rattle.imap_text.specs.Sections.{text}
use Rattle.imap_structure.specs.declared.media.Kind.{Kind}
use Rattle.imap_structure.specs.declared.media.Kind.TheVariants as kind
use Rattle.imap_structure.specs.declared.media.MediaType.{MediaType}
use Rattle.imap_structure.specs.declared.media.Param.{Param}
use Rattle.imap_structure.specs.Media.{boundary_of, is_digest, kind_of, media_of, plain_type}
use Rattle.imap_structure.specs.MediaReader.{media_in}
use Rattle.imap_structure.specs.Parts.{is_line_feed, parts_of}
use Rattle.imap_structure.specs.Single.{param_text, params_text, media_text, encoding_or, field_words, media_disposition, disposition_text, place_words, md5_words, single_front, extended_text, single_end}
use Rattle.imap_structure.specs.Structure.{lines_text, other_text, plain_text, message_text, multipart_extended, multipart_end, multipart_text, entity_by, structure_text, structure_of, max_depth}
use Rattle.imap_structure.specs.Laws.{EachIsOneLine}

-- ---- words

string_settles : (octets : List ℕ) → Settles (string_text octets)
string_settles octets = nstring_settles (Some octets)

space_settles : {word : List ℕ} → Settles word → Settles (32 ∷ word)
space_settles s = settles-append (settled (32 ∷ []) refl) s

param_settles : (p : Param) → Settles (param_text p)
param_settles p = settles-append (string_settles p.name) (space_settles (string_settles p.value))

each_param : (params : List Param) → AllSettle (map param_text params)
each_param [] = tt
each_param (p ∷ params) = (param_settles p, each_param params)

params_settle : (params : List Param) → Settles (params_text params)
params_settle [] = settled (codes "NIL") refl
params_settle (p ∷ params) = words_settle (map param_text (p ∷ params)) (each_param (p ∷ params))

media_settles : (m : MediaType) → Settles (media_text m)
media_settles m = settles-append (string_settles m.kind) (space_settles (settles-append (string_settles m.subtype) (space_settles (params_settle m.params))))

fields_settle : (octets : List ℕ) → AllSettle (field_words octets)
fields_settle octets =
    (nstring_settles (first_value (codes "Content-ID") octets), (nstring_settles (first_value (codes "Content-Description") octets), (string_settles (encoding_or (first_value (codes "Content-Transfer-Encoding") octets)), tt)))

read_settles : (m : MediaType) → Settles (media_disposition m)
read_settles m = words_settle (string_text m.kind ∷ params_text m.params ∷ []) (string_settles m.kind, (params_settle m.params, tt))

disposition_settles : (value : Option (List ℕ)) → Settles (disposition_text value)
disposition_settles None = settled (codes "NIL") refl
disposition_settles (Some value) = read_settles (media_in value)

place_settles : (octets : List ℕ) → AllSettle (place_words octets)
place_settles octets =
    (disposition_settles (first_value (codes "Content-Disposition") octets), (nstring_settles (first_value (codes "Content-Language") octets), (nstring_settles (first_value (codes "Content-Location") octets), tt)))

-- ---- parts

front_settles : (m : MediaType) (octets : List ℕ) (size : ℕ) → Settles (single_front m octets size)
front_settles m octets size =
    settles-append (settles-append (settles-append (settled (40 ∷ []) refl) (media_settles m)) (before_each_settles (field_words octets) (fields_settle octets)))
    (space_settles (number_settles size))

extended_settles : (extended : Bool) (octets : List ℕ) → Settles (extended_text extended octets)
extended_settles true octets =
    settles-append (before_each_settles (md5_words octets) (nstring_settles (first_value (codes "Content-MD5") octets), tt)) (before_each_settles (place_words octets) (place_settles octets))
extended_settles false octets = settled [] refl

end_settles : (extended : Bool) (octets : List ℕ) → Settles (single_end extended octets)
end_settles extended octets = settles-append (extended_settles extended octets) (settled (41 ∷ []) refl)

other_settles : (extended : Bool) (m : MediaType) (octets : List ℕ) → Settles (other_text extended m octets)
other_settles extended m octets = settles-append (front_settles m octets (length (text octets))) (end_settles extended octets)

lines_settle : (body : List ℕ) → Settles (lines_text body)
lines_settle body = number_settles (count_by is_line_feed body)

plain_settles : (extended : Bool) (m : MediaType) (octets : List ℕ) → Settles (plain_text extended m octets)
plain_settles extended m octets =
    settles-append (settles-append (front_settles m octets (length (text octets))) (space_settles (lines_settle (text octets)))) (end_settles extended octets)

abbrev AllBelow : (Bool → List ℕ → List ℕ) → Type 0
AllBelow below = (in_digest : Bool) (octets : List ℕ) → Settles (below in_digest octets)

message_settles : (extended : Bool) (below : Bool → List ℕ → List ℕ) (m : MediaType) (octets : List ℕ) → AllBelow below → Settles (message_text extended below m octets)
message_settles extended below m octets h =
    let body = text octets in
    settles-append (settles-append (settles-append (settles-append (front_settles m octets (length body)) (space_settles (envelope_settles (envelope_of body)))) (space_settles (h false body))) (space_settles (lines_settle body))) (end_settles extended octets)

multipart_extended_settles : (extended : Bool) (m : MediaType) (octets : List ℕ) → Settles (multipart_extended extended m octets)
multipart_extended_settles true m octets = settles-append (space_settles (params_settle m.params)) (before_each_settles (place_words octets) (place_settles octets))
multipart_extended_settles false m octets = settled [] refl

multipart_end_settles : (extended : Bool) (m : MediaType) (octets : List ℕ) → Settles (multipart_end extended m octets)
multipart_end_settles extended m octets =
    settles-append (settles-append (space_settles (string_settles m.subtype)) (multipart_extended_settles extended m octets)) (settled (41 ∷ []) refl)

each_settles : (told : List ℕ → List ℕ) (parts : List (List ℕ)) → ((octets : List ℕ) → Settles (told octets)) → Settles (flat_map told parts)
each_settles told [] h = settled [] refl
each_settles told (part ∷ parts) h = settles-append (h part) (each_settles told parts h)

multipart_settles : (extended : Bool) (below : Bool → List ℕ → List ℕ) (m : MediaType) (octets : List ℕ) → AllBelow below → Settles (multipart_text extended below m octets)
multipart_settles extended below m octets h =
    settles-append (settles-append (settled (40 ∷ []) refl) (each_settles (below (is_digest m)) (parts_of (boundary_of m.params) (text octets)) (h (is_digest m)))) (multipart_end_settles extended m octets)

entity_settles : (k : Kind) (extended : Bool) (below : Bool → List ℕ → List ℕ) (m : MediaType) (octets : List ℕ) → AllBelow below → Settles (entity_by k extended below m octets)
entity_settles kind.Multipart extended below m octets h = multipart_settles extended below m octets h
entity_settles kind.Message extended below m octets h = message_settles extended below m octets h
entity_settles kind.Text extended below m octets h = plain_settles extended m octets
entity_settles kind.Other extended below m octets h = other_settles extended m octets

pub structure_settles : (extended : Bool) (depth : ℕ) (in_digest : Bool) (octets : List ℕ) → Settles (structure_text extended depth in_digest octets)
unfolding structure_text
structure_settles extended zero in_digest octets = other_settles extended (plain_type (codes "application") (codes "octet-stream")) octets
structure_settles extended (suc depth) in_digest octets =
    let m = media_of in_digest octets in
    entity_settles (kind_of m) extended (structure_text extended depth) m octets (structure_settles extended depth)

pub each_is_one_line : EachIsOneLine
each_is_one_line extended message rest = one_line (structure_of extended message) rest (structure_settles extended max_depth false message)
