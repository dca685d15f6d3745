-- What is shifted: base64 of UTF-16 (RFC 3501, section 5.1.3).
use Rattle.std.specs.Prelude.{◌≡◌, ℕ, zero, suc, ◌+◌, ◌*◌, ◌/◌, ◌%◌, Bool, ◌&&◌, nat_lt, List, [], ◌∷◌, ◌++◌}
use Rattle.std.specs.Prelude.{replicate, flat_map, codes, bytes_eq, unwrap_or, refl, if◌then◌else◌}
use Rattle.std.specs.List.{list_all}
use Rattle.std.specs.Char.Escape.{encode_utf16}
use Rattle.std.specs.Char.Utf16.{utf16_lossy_chars}
use Rattle.base64.specs.Engines.{equals}
use Rattle.base64.specs.GeneralPurpose.{decoded_of, engine_config, engine_symbols}
use Rattle.base64.specs.Rfc4648.{encode_symbols}
use Rattle.base64.specs.declared.engine.general_purpose.GeneralPurpose.{GeneralPurpose}
use Rattle.base64.specs.declared.engine.general_purpose.TheConstants.{NO_PAD}

-- ---- base64 with `,` for `/` and without `=`

abbrev pub symbols : List ℕ
symbols = codes "ABCDEFGHIJKLMNOPQRSTUVWXYZabcdefghijklmnopqrstuvwxyz0123456789+,"

-- (RFC 4648, section 4)
abbrev pub base64 : List ℕ → List ℕ
base64 octets = encode_symbols symbols octets

-- `count` numbers from `first` on
abbrev pub rising : (first count : ℕ) → List ℕ
rising first zero = []
rising first (suc n) = first ∷ rising (suc first) n

-- the place of each octet among the symbols, or 255
abbrev pub places : List ℕ
places =
    replicate 43 255 ++ (62 ∷ 63 ∷ (replicate 3 255 ++ (rising 52 10 ++ (replicate 7 255
    ++ (rising 0 26 ++ (replicate 6 255 ++ (rising 26 26 ++ replicate 133 255)))))))

abbrev pub modified : GeneralPurpose
modified = record {
  encode_table = symbols;
  decode_table = places;
  padding = equals;
  config = NO_PAD;
  tables = refl;
}

-- it writes and reads this base64
pub record IsModified (engine : GeneralPurpose) : Type 0 where
  pub symbols : engine_symbols engine ≡ symbols
  pub config : engine_config engine ≡ NO_PAD

abbrev pub is_octet : ℕ → Bool
is_octet n = nat_lt n 256

-- what is read of the text; nothing if it can't be read
abbrev pub value_of : (text : List ℕ) → List ℕ
value_of text = unwrap_or (decoded_of modified text) []

-- the text is that of some octets
abbrev pub is_base64 : (text : List ℕ) → Bool
is_base64 text = list_all is_octet (value_of text) && bytes_eq (base64 (value_of text)) text

-- the octets of which this is the text
abbrev pub octets_of : (text : List ℕ) → List ℕ
octets_of text = if is_base64 text then value_of text else []

-- ---- UTF-16, the octet with the higher bits first

abbrev pub unit_octets : (unit : ℕ) → List ℕ
unit_octets unit = (unit / 256) ∷ (unit % 256) ∷ []

-- a character in one or two units
abbrev pub wide : (char : ℕ) → List ℕ
wide char = flat_map unit_octets (encode_utf16 char)

-- the units in octets
abbrev pub units : List ℕ → List ℕ
units [] = []
units (high ∷ []) = []
units (high ∷ low ∷ octets) = (high * 256 + low) ∷ units octets

-- ---- both

-- the characters for which shifted text stands
abbrev pub characters : (text : List ℕ) → List ℕ
characters text = utf16_lossy_chars (units (octets_of text))
