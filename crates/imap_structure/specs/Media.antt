-- Media types (RFC 2045, section 5; RFC 2046).
use Rattle.std.specs.Prelude.{ℕ, Bool, not, ◌==◌, ◌&&◌, ◌||◌, List, [], ◌∷◌, ◌++◌, length, codes, find}
use Rattle.std.specs.Prelude.{Option, Some, None, if◌then◌else◌}
use Rattle.std.specs.List.{list_any}
use Rattle.std.specs.Str.{str_eq_ignore_ascii_case}
use Rattle.imap_mime.specs.Values.{first_value}
use Rattle.imap_structure.specs.declared.media.Kind.{Kind}
use Rattle.imap_structure.specs.declared.media.Kind.TheVariants as kind
use Rattle.imap_structure.specs.declared.media.MediaType.{MediaType}
use Rattle.imap_structure.specs.declared.media.Param.{Param}
use Rattle.imap_structure.specs.MediaReader.{media_in}

-- the same in some ASCII case
abbrev pub is_word : (word octets : List ℕ) → Bool
is_word word octets = str_eq_ignore_ascii_case octets word

abbrev pub plain_type : (kind subtype : List ℕ) → MediaType
plain_type kind subtype = record { kind = kind; subtype = subtype; params = [] }

-- what a part is whose field says nothing (RFC 2045, section 5.2; RFC 2046, section 5.1.5)
abbrev pub default_media : (in_digest : Bool) → MediaType
default_media in_digest =
    if in_digest then plain_type (codes "message") (codes "rfc822")
    else plain_type (codes "text") (codes "plain")

abbrev pub has_type : MediaType → Bool
has_type m = not (length m.kind == 0) && not (length m.subtype == 0)

-- what is no type is text
abbrev pub media_or_text : (value : List ℕ) → MediaType
media_or_text value =
    if has_type (media_in value) then media_in value else plain_type (codes "text") (codes "plain")

abbrev pub media_or : (in_digest : Bool) → Option (List ℕ) → MediaType
media_or in_digest None = default_media in_digest
media_or in_digest (Some value) = media_or_text value

-- ---- the charset (RFC 2046, section 4.1.2)

abbrev pub is_charset : Param → Bool
is_charset p = is_word (codes "charset") p.name

abbrev pub charset_param : Param
charset_param = record { name = codes "charset"; value = codes "us-ascii" }

abbrev pub all_params : List Param → List Param
all_params params = if list_any is_charset params then params else params ++ charset_param ∷ []

-- Text without a charset is ASCII.
abbrev pub with_charset : MediaType → MediaType
with_charset m =
    if is_word (codes "text") m.kind then record m { params = all_params m.params } else m

-- the media type of a part that begins with its header
abbrev pub media_of : (in_digest : Bool) → (octets : List ℕ) → MediaType
media_of in_digest octets = with_charset (media_or in_digest (first_value (codes "Content-Type") octets))

-- ---- what is told of it

abbrev pub is_boundary : Param → Bool
is_boundary p = is_word (codes "boundary") p.name

abbrev pub value_or_none : Option Param → List ℕ
value_or_none None = []
value_or_none (Some p) = p.value

-- the boundary of its parts, or no octets
abbrev pub boundary_of : List Param → List ℕ
boundary_of params = value_or_none (find is_boundary params)

abbrev pub is_message : MediaType → Bool
is_message m =
    is_word (codes "message") m.kind
    && (is_word (codes "rfc822") m.subtype || is_word (codes "global") m.subtype)

abbrev pub kind_of : MediaType → Kind
kind_of m =
    if is_word (codes "multipart") m.kind then kind.Multipart
    else (if is_message m then kind.Message
    else (if is_word (codes "text") m.kind then kind.Text else kind.Other))

abbrev pub is_digest : MediaType → Bool
is_digest m = is_word (codes "digest") m.subtype
