-- Text in NFC.
use Rattle.std.proofs.Common.{◌≡◌, ℕ, Bool, true, false, List, [], ◌∷◌, ◌++◌, sym, ap, ◌∙◌, arith}
use Rattle.std.specs.Prelude.{◌||◌, nat_lt, chars, encode_utf8_all, IsUtf8}
use Rattle.std.specs.Char.{is_control}
use Rattle.std.specs.Str.{is_utf8, IsAscii}
use Rattle.std.specs.List.{list_any, list_all}
use Rattle.std.proofs.lemmas.Bool.{or_parts, or_from, and_parts, ltb-true}
use Rattle.std.proofs.lemmas.List.{append_cancel_left}
use Rattle.std.proofs.lemmas.List.Folds.{list_any-append}
use Rattle.std.proofs.lemmas.Str.{chars_from_encodes, encodes-chars, chars-append, chars-IsAscii, IsUtf8-from_ascii, IsUtf8-from_is_utf8, is_utf8-from_IsUtf8, IsUtf8-append, IsUtf8-nil, chars-nil}
use Rattle.std.proofs.lemmas.Str.Ascii.{All-from_ascii, IsAscii-cons, IsAscii-nil}
use Rattle.unicode_normalization.specs.Forms.{nfc, is_nfc, Nfc}
use Rattle.unicode_normalization.proofs.FormsLemmas.{nfc_idem, is_in_form-true, is_in_form_from, normalize-ascii, normalize-ascii_boundary}
use Rattle.imap_nfc.specs.Nfc.{composed}
use Rattle.imap_nfc.proofs.Nfc.{composed-nfc}
use Rattle.imap_names.specs.Text.{has_control}

-- ---- one ASCII text in another's parts, before a delimiter

chars-front : (front rest : List ℕ) → IsAscii front → chars (front ++ 47 ∷ rest) ≡ front ++ 47 ∷ chars rest
chars-front front rest ascii =
    chars-append front (47 ∷ rest) (IsUtf8-from_ascii front ascii)
    ∙ ap (λ z. z ++ chars (47 ∷ rest)) (chars-IsAscii front ascii)
    ∙ ap (λ z. front ++ z) (chars-append (47 ∷ []) rest (IsUtf8-from_ascii (47 ∷ []) slash) ∙ ap (λ z. z ++ chars rest) (chars-IsAscii (47 ∷ []) slash))
  where
    slash : IsAscii (47 ∷ [])
    slash = IsAscii-cons 47 [] (omega arith) IsAscii-nil

nfc-front : (front rest : List ℕ) → IsAscii front → nfc (front ++ 47 ∷ rest) ≡ front ++ nfc (47 ∷ rest)
nfc-front front rest ascii =
    normalize-ascii_boundary Nfc front 47 rest (omega arith) ∙ ap (λ z. z ++ nfc (47 ∷ rest)) (normalize-ascii Nfc front (All-from_ascii front ascii))

pub is_nfc-front : (front other rest : List ℕ) → IsAscii front → IsAscii other → is_nfc (chars (front ++ 47 ∷ rest)) ≡ true → is_nfc (chars (other ++ 47 ∷ rest)) ≡ true
is_nfc-front front other rest ascii ascii' h =
    let same : nfc (front ++ 47 ∷ chars rest) ≡ front ++ 47 ∷ chars rest =
    ap nfc (sym (chars-front front rest ascii)) ∙ is_in_form-true Nfc _ h ∙ chars-front front rest ascii in
    let tail : nfc (47 ∷ chars rest) ≡ 47 ∷ chars rest =
    append_cancel_left front _ _ (sym (nfc-front front (chars rest) ascii) ∙ same) in
    is_in_form_from Nfc _ (
    ap nfc (chars-front other rest ascii') ∙ nfc-front other (chars rest) ascii' ∙ ap (λ z. other ++ z) tail
    ∙ sym (chars-front other rest ascii')
    )

pub is_nfc-ascii : (text : List ℕ) → IsAscii text → is_nfc (chars text) ≡ true
is_nfc-ascii text ascii =
    let same : chars text ≡ text = chars-IsAscii text ascii in
    is_in_form_from Nfc _ (ap nfc same ∙ normalize-ascii Nfc text (All-from_ascii text ascii) ∙ sym same)

-- the characters round the delimiter
pub list_any-front : (p : ℕ → Bool) (front rest : List ℕ) → IsAscii front → list_any p (chars (front ++ 47 ∷ rest)) ≡ (list_any p front || list_any p (47 ∷ chars rest))
list_any-front p front rest ascii = ap (list_any p) (chars-front front rest ascii) ∙ list_any-append p front (47 ∷ chars rest)

pub has_control-front : (front other rest : List ℕ) → IsAscii front → IsAscii other → list_any is_control other ≡ false → has_control (front ++ 47 ∷ rest) ≡ false → has_control (other ++ 47 ∷ rest) ≡ false
has_control-front front other rest ascii ascii' none h =
    let parts = or_parts (list_any is_control front) _ (sym (list_any-front is_control front rest ascii) ∙ h) in
    list_any-front is_control other rest ascii' ∙ or_from _ _ none parts.1

pub composed-empty : composed [] ≡ []
composed-empty = composed-nfc [] (is_utf8-from_IsUtf8 [] IsUtf8-nil) (is_nfc-ascii [] IsAscii-nil)

pub has_control-empty : has_control [] ≡ false
has_control-empty = ap (list_any is_control) chars-nil

-- ASCII before a text
pub is_utf8-front : (front rest : List ℕ) → IsAscii front → is_utf8 rest ≡ true → is_utf8 (front ++ rest) ≡ true
is_utf8-front front rest ascii utf8 =
    is_utf8-from_IsUtf8 (front ++ rest) (IsUtf8-append front rest (IsUtf8-from_ascii front ascii) (IsUtf8-from_is_utf8 rest utf8))

pub is_utf8-append : (xs ys : List ℕ) → is_utf8 xs ≡ true → is_utf8 ys ≡ true → is_utf8 (xs ++ ys) ≡ true
is_utf8-append xs ys h k = is_utf8-from_IsUtf8 (xs ++ ys) (IsUtf8-append xs ys (IsUtf8-from_is_utf8 xs h) (IsUtf8-from_is_utf8 ys k))

-- a test that a literal text passes makes it ASCII
pub ascii_by_test : (text : List ℕ) → list_all (λ c. nat_lt c 128) text ≡ true → IsAscii text
ascii_by_test [] h = IsAscii-nil
ascii_by_test (c ∷ cs) h =
    let parts = and_parts (nat_lt c 128) (list_all (λ d. nat_lt d 128) cs) h in
    IsAscii-cons c cs (ltb-true c 128 parts.0) (ascii_by_test cs parts.1)
