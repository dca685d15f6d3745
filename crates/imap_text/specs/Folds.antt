-- The text that SEARCH looks for (RFC 9051, section 6.4.4; The Unicode Standard, sections 3.9, 3.11 and
-- 3.13).
use Rattle.std.specs.Prelude.{◌≡◌, ℕ, List, ◌++◌, chars, encode_utf8_all}
use Rattle.std.specs.Str.Lossy.{utf8_lossy}
use Rattle.caseless.specs.Caseless.{default_case_fold}
use Rattle.imap_nfc.specs.Nfc.{composed}

-- a text by default case folding
abbrev pub folded_text : List ℕ → List ℕ
folded_text text = encode_utf8_all (default_case_fold (chars text))

-- octets as SEARCH compares them: read as UTF-8 with U+FFFD for what is none, brought to NFC, then folded
abbrev pub fold : List ℕ → List ℕ
fold octets = folded_text (composed (utf8_lossy octets))

-- `part` stands somewhere in `whole`
pub record IsWithin (part whole : List ℕ) : Type 0 where
  pub front : List ℕ
  pub back : List ℕ
  pub is : whole ≡ front ++ (part ++ back)
