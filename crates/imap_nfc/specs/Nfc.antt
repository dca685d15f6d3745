-- Text in Normalization Form C (RFC 5198, section 3; Unicode Standard Annex 15).
use Rattle.std.specs.Prelude.{◌≡◌, ℕ, true, List, chars, encode_utf8_all}
use Rattle.std.specs.Str.{is_utf8}
use Rattle.unicode_normalization.specs.Forms.{nfc, is_nfc}

-- the text in Normalization Form C
abbrev pub composed : List ℕ → List ℕ
composed text = encode_utf8_all (nfc (chars text))

-- ---- laws

abbrev pub ComposedTextsStay : Type 0
ComposedTextsStay =
    (text : List ℕ) → is_utf8 text ≡ true → is_nfc (chars text) ≡ true → composed text ≡ text

abbrev pub TextsAreComposed : Type 0
TextsAreComposed =
    (text : List ℕ) → is_utf8 (composed text) ≡ true → is_nfc (chars (composed text)) ≡ true
