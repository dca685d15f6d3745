-- The value of Content-Type and of fields of its form, octet by octet (RFC 2045, section 5.1).
use Rattle.std.specs.Prelude.{ℕ, ◌==◌, List, [], ◌∷◌, ◌++◌, length, if◌then◌else◌}
use Rattle.imap_mime.specs.declared.lexical.Lexical.TheVariants as lexical
use Rattle.imap_mime.specs.declared.lexical.Sign.{Sign}
use Rattle.imap_mime.specs.declared.lexical.Sign.TheVariants as sign
use Rattle.imap_mime.specs.Lexical.{sign_read}
use Rattle.imap_structure.specs.declared.media.MediaType.{MediaType}
use Rattle.imap_structure.specs.declared.media.Param.{Param}
use Rattle.imap_structure.specs.declared.media_reader.MediaPlace.{MediaPlace}
use Rattle.imap_structure.specs.declared.media_reader.MediaPlace.TheVariants as place
use Rattle.imap_structure.specs.declared.media_reader.MediaReader.{MediaReader}

abbrev pub start : MediaReader
start = record {
  lexical = lexical.Outside;
  place = place.Kind;
  kind = [];
  subtype = [];
  name = [];
  value = [];
}

-- `/` ends the type, and `=` the name of a parameter.
abbrev pub with_octet : MediaPlace → ℕ → MediaReader → MediaReader
with_octet place.Kind b r =
    if b == 47 then record r { place = place.Subtype } else record r { kind = r.kind ++ b ∷ [] }
with_octet place.Subtype b r = record r { subtype = r.subtype ++ b ∷ [] }
with_octet place.Name b r =
    if b == 61 then record r { place = place.Value } else record r { name = r.name ++ b ∷ [] }
with_octet place.Value b r = record r { value = r.value ++ b ∷ [] }

abbrev pub next_param : MediaReader → MediaReader
next_param r = record r { place = place.Name; name = []; value = [] }

-- a parameter has a name
abbrev pub param_list : (name value : List ℕ) → List Param
param_list name value = if length name == 0 then [] else record { name = name; value = value } ∷ []

-- the parameter that has begun, if it has a value
abbrev pub ended_params : MediaPlace → MediaReader → List Param
ended_params place.Value r = param_list r.name r.value
ended_params _ r = []

-- `;` ends a parameter
abbrev pub after_sign : Sign → MediaReader → MediaReader
after_sign (sign.Word b) r = with_octet r.place b r
after_sign (sign.Divider b) r = if b == 59 then next_param r else with_octet r.place b r
after_sign other r = r

abbrev pub sign_params : Sign → MediaReader → List Param
sign_params (sign.Divider b) r = if b == 59 then ended_params r.place r else []
sign_params other r = []

abbrev pub after_octet : ℕ → MediaReader → MediaReader
after_octet b r =
    after_sign (sign_read r.lexical b).sign (record r { lexical = (sign_read r.lexical b).next })

abbrev pub octet_params : ℕ → MediaReader → List Param
octet_params b r =
    sign_params (sign_read r.lexical b).sign (record r { lexical = (sign_read r.lexical b).next })

-- the place after these octets and the end
abbrev pub reader_after : MediaReader → List ℕ → MediaReader
reader_after r [] = next_param r
reader_after r (b ∷ bs) = reader_after (after_octet b r) bs

-- the parameters that end in them, or with them
abbrev pub params_from : MediaReader → List ℕ → List Param
params_from r [] = ended_params r.place r
params_from r (b ∷ bs) = octet_params b r ++ params_from (after_octet b r) bs

-- the type and the parameters in a value
abbrev pub media_in : (value : List ℕ) → MediaType
media_in value = record {
  kind = (reader_after start value).kind;
  subtype = (reader_after start value).subtype;
  params = params_from start value;
}
