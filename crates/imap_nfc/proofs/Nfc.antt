-- What is brought to Normalization Form C is in it, and what is in it stays.
use Rattle.std.proofs.Common.{◌≡◌, ℕ, true, List, sym, ap, ◌∙◌}
use Rattle.std.specs.Prelude.{chars, encode_utf8_all, IsUtf8}
use Rattle.std.specs.Str.{is_utf8}
use Rattle.std.proofs.lemmas.Str.{chars_from_encodes, encodes-chars, IsUtf8-from_is_utf8}
use Rattle.unicode_normalization.specs.Forms.{nfc, is_nfc, Nfc}
use Rattle.unicode_normalization.proofs.FormsLemmas.{nfc_idem, is_in_form-true, is_in_form_from}
use Rattle.imap_nfc.specs.Nfc.{composed}

pub is_nfc-composed : (text cs : List ℕ) → IsUtf8 text → text ≡ encode_utf8_all (nfc cs) → is_nfc (chars text) ≡ true
is_nfc-composed text cs utf8 e =
    let same : nfc cs ≡ chars text = chars_from_encodes (nfc cs) text utf8 (sym e) in
    is_in_form_from Nfc (chars text) (ap nfc (sym same) ∙ nfc_idem cs ∙ same)

pub composed-nfc : (text : List ℕ) → is_utf8 text ≡ true → is_nfc (chars text) ≡ true → composed text ≡ text
composed-nfc text utf8 h = ap encode_utf8_all (is_in_form-true Nfc (chars text) h) ∙ encodes-chars text (IsUtf8-from_is_utf8 text utf8)
