-- How a part is told that is no multipart (RFC 9051, section 9, `body-type-1part`).
use Rattle.std.specs.Prelude.{ℕ, Bool, ◌==◌, List, [], ◌∷◌, ◌++◌, length, map, codes, decimal}
use Rattle.std.specs.Prelude.{Option, Some, None, if◌then◌else◌}
use Rattle.imap_mime.specs.Strings.{nstring_text, string_text}
use Rattle.imap_mime.specs.Values.{first_value}
use Rattle.imap_print.specs.Words.{before_each, in_parentheses}
use Rattle.imap_structure.specs.declared.media.MediaType.{MediaType}
use Rattle.imap_structure.specs.declared.media.Param.{Param}
use Rattle.imap_structure.specs.MediaReader.{media_in}

-- ---- parameters

abbrev pub param_text : Param → List ℕ
param_text p = string_text p.name ++ 32 ∷ string_text p.value

-- `body-fld-param`
abbrev pub params_text : List Param → List ℕ
params_text [] = codes "NIL"
params_text (p ∷ params) = in_parentheses (map param_text (p ∷ params))

-- ---- fields

abbrev pub media_text : MediaType → List ℕ
media_text m = string_text m.kind ++ 32 ∷ (string_text m.subtype ++ 32 ∷ params_text m.params)

-- the encoding, or the default (RFC 2045, section 6.1)
abbrev pub encoding_or : Option (List ℕ) → List ℕ
encoding_or None = codes "7BIT"
encoding_or (Some encoding) = if length encoding == 0 then codes "7BIT" else encoding

abbrev pub encoding_of : (octets : List ℕ) → List ℕ
encoding_of octets = string_text (encoding_or (first_value (codes "Content-Transfer-Encoding") octets))

-- `body-fields` but the parameters and the size
abbrev pub field_words : (octets : List ℕ) → List (List ℕ)
field_words octets =
    nstring_text (first_value (codes "Content-ID") octets)
    ∷ nstring_text (first_value (codes "Content-Description") octets)
    ∷ encoding_of octets ∷ []

-- ---- what BODYSTRUCTURE has

-- `body-fld-dsp` (RFC 2183)
abbrev pub media_disposition : MediaType → List ℕ
media_disposition m = in_parentheses (string_text m.kind ∷ params_text m.params ∷ [])

abbrev pub disposition_text : Option (List ℕ) → List ℕ
disposition_text None = codes "NIL"
disposition_text (Some value) = media_disposition (media_in value)

abbrev pub disposition_of : (octets : List ℕ) → List ℕ
disposition_of octets = disposition_text (first_value (codes "Content-Disposition") octets)

abbrev pub place_words : (octets : List ℕ) → List (List ℕ)
place_words octets =
    disposition_of octets
    ∷ nstring_text (first_value (codes "Content-Language") octets)
    ∷ nstring_text (first_value (codes "Content-Location") octets) ∷ []

abbrev pub md5_words : (octets : List ℕ) → List (List ℕ)
md5_words octets = nstring_text (first_value (codes "Content-MD5") octets) ∷ []

-- ---- a part

-- the type, the fields, and the size of the body
abbrev pub single_front : MediaType → (octets : List ℕ) → (size : ℕ) → List ℕ
single_front m octets size =
    40 ∷ media_text m ++ before_each 32 (field_words octets) ++ 32 ∷ decimal size

-- `body-ext-1part`
abbrev pub extended_text : (extended : Bool) → (octets : List ℕ) → List ℕ
extended_text extended octets =
    if extended then before_each 32 (md5_words octets) ++ before_each 32 (place_words octets) else []

abbrev pub single_end : (extended : Bool) → (octets : List ℕ) → List ℕ
single_end extended octets = extended_text extended octets ++ 41 ∷ []
