-- What is read is text.
use Rattle.std.proofs.Common.{◌≡◌, ◌∙◌, ◌≤◌, ◌<◌, ap, sym, refl, ℕ, ◌+◌, ◌*◌, Bool, true, false, List, [], ◌∷◌, ◌++◌, arith, ◌==◌, Some, None, ⊎_elim}
use Rattle.std.proofs.lemmas.Bool.{and_parts, and_from, ltb-true, lt-ltb, leb-true, le-leb, le-ltb, and_cases, leb-false, ltb-false}
use Rattle.std.proofs.lemmas.Slice.Eq.{bytes_eq-Decides}
use Rattle.std.proofs.lemmas.Str.{chars-encodes, chars_from_encodes}
use Rattle.std.proofs.Math.Utf8.{scalar, scalars, low_scalar}
use Rattle.std.specs.Char.Utf16.{utf16_chars, utf16_lossy_chars, lone_unit_char, surrogate_pair_char, is_high_surrogate, is_low_surrogate}
use Rattle.std.specs.List.{list_all}
use Rattle.std.specs.Option.{unwrap_or}
use Rattle.std.specs.Prelude.{◌&&◌, bytes_eq, chars, encode_utf8_all, nat_lt, nat_le, IsUtf8}
use Rattle.imap_utf7.specs.Shifts.{is_base64, is_octet, octets_of, units}
use Rattle.imap_utf7.specs.Spelling.{decoded, encoded, read, read_after, section_characters}

-- ---- characters

pub scalars_both : (one other : List ℕ) → scalars one ≡ true → scalars other ≡ true → scalars (one ++ other) ≡ true
scalars_both [] other is others = others
scalars_both (c ∷ one) other is others =
    let parts = and_parts (scalar c) (scalars one) is in
    and_from (scalar c) (scalars (one ++ other)) parts.0 (scalars_both one other parts.1 others)

abbrev is_unit : ℕ → Bool
is_unit u = nat_lt u 65536

high_scalar : (c : ℕ) → 57344 ≤ c → c < 1114112 → scalar c ≡ true
high_scalar c from below = rw (le-ltb c 55296 (omega (arith, from)), le-leb 57344 c from) (lt-ltb c 1114112 below)

outside : (u : ℕ) → u < 65536 → (nat_le 0xD800 u && nat_lt u 0xE000) ≡ false → scalar u ≡ true
outside u below is = ⊎_elim
    (λ low. low_scalar u (leb-false 0xD800 u low))
    (λ high. high_scalar u (ltb-false u 0xE000 high) (omega (arith, below)))
    (and_cases (nat_le 0xD800 u) (nat_lt u 0xE000) is)

lone_by : (u : ℕ) (t : Bool) → (nat_le 0xD800 u && nat_lt u 0xE000) ≡ t → u < 65536 → scalar (unwrap_or (lone_unit_char u) 0xFFFD) ≡ true
lone_by u true is below = rw is refl
lone_by u false is below = rw is (outside u below is)

pair_scalar : (u v : ℕ) → (is_high_surrogate u && is_low_surrogate v) ≡ true → scalar (surrogate_pair_char u v) ≡ true
pair_scalar u v is =
    let parts = and_parts (is_high_surrogate u) (is_low_surrogate v) is in
    let high = and_parts (nat_le 0xD800 u) (nat_lt u 0xDC00) parts.0 in
    let low = and_parts (nat_le 0xDC00 v) (nat_lt v 0xE000) parts.1 in
    high_scalar (surrogate_pair_char u v) (omega (arith, leb-true 0xD800 u high.0))
    (omega (arith, leb-true 0xD800 u high.0, ltb-true u 0xDC00 high.1, leb-true 0xDC00 v low.0, ltb-true v 0xE000 low.1))

lossy_by : (u v : ℕ) (us : List ℕ) (t : Bool) → (is_high_surrogate u && is_low_surrogate v) ≡ t → u < 65536
    → scalars (utf16_lossy_chars us) ≡ true → scalars (utf16_lossy_chars (v ∷ us)) ≡ true
    → scalars (utf16_lossy_chars (u ∷ v ∷ us)) ≡ true
unfolding utf16_chars
lossy_by u v us true is below rest more = rw is (and_from _ _ (pair_scalar u v is) rest)
lossy_by u v us false is below rest more =
    rw is (and_from _ _ (lone_by u (nat_le 0xD800 u && nat_lt u 0xE000) refl below) more)

lossy_scalars : (us : List ℕ) → list_all is_unit us ≡ true → scalars (utf16_lossy_chars us) ≡ true
unfolding utf16_chars
lossy_scalars [] is = refl
lossy_scalars (u ∷ []) is =
    let below = ltb-true u 65536 (and_parts (is_unit u) true is).0 in
    and_from _ _ (lone_by u (nat_le 0xD800 u && nat_lt u 0xE000) refl below) refl
lossy_scalars (u ∷ v ∷ us) is =
    let first = and_parts (is_unit u) (list_all is_unit (v ∷ us)) is in
    let second = and_parts (is_unit v) (list_all is_unit us) first.1 in
    lossy_by u v us (is_high_surrogate u && is_low_surrogate v) refl (ltb-true u 65536 first.0)
    (lossy_scalars us second.1) (lossy_scalars (v ∷ us) first.1)

units_pass : (octets : List ℕ) → list_all is_octet octets ≡ true → list_all is_unit (units octets) ≡ true
units_pass [] is = refl
units_pass (high ∷ []) is = refl
units_pass (high ∷ low ∷ octets) is =
    let first = and_parts (is_octet high) (is_octet low && list_all is_octet octets) is in
    let second = and_parts (is_octet low) (list_all is_octet octets) first.1 in
    let one : high < 256 = ltb-true high 256 first.0 in
    let two : low < 256 = ltb-true low 256 second.0 in
    and_from _ _ (lt-ltb (high * 256 + low) 65536 (omega (arith, one, two))) (units_pass octets second.1)

octets_by : (text : List ℕ) (t : Bool) → is_base64 text ≡ t → list_all is_octet (octets_of text) ≡ true
octets_by text true is = rw is (and_parts _ _ is).0
octets_by text false is = rw is refl

section_scalars : (section : List ℕ) → scalars (section_characters section) ≡ true
section_scalars [] = refl
section_scalars (octet ∷ octets) =
    let text = octet ∷ octets in
    lossy_scalars (units (octets_of text)) (units_pass (octets_of text) (octets_by text (is_base64 text) refl))

-- ---- octets

direct_next : (section octets : List ℕ) (octet : ℕ) (t : Bool) → (octet == 38) ≡ t → octet < 256
    → ((b : Bool) (s : List ℕ) → scalars (read_after b s octets) ≡ true) → scalars (read_after false section (octet ∷ octets)) ≡ true
direct_next section octets octet true is below goes = rw is (goes true [])
direct_next section octets octet false is below goes =
    rw is (and_from _ _ (low_scalar octet (omega (arith, below))) (goes false section))

shifted_next : (section octets : List ℕ) (octet : ℕ) (t : Bool) → (octet == 45) ≡ t
    → ((b : Bool) (s : List ℕ) → scalars (read_after b s octets) ≡ true) → scalars (read_after true section (octet ∷ octets)) ≡ true
shifted_next section octets octet true is goes =
    rw is (scalars_both (section_characters section) (read_after false [] octets) (section_scalars section) (goes false []))
shifted_next section octets octet false is goes = rw is (goes true (section ++ octet ∷ []))

read_scalars : (octets : List ℕ) → list_all is_octet octets ≡ true → (b : Bool) (section : List ℕ) → scalars (read_after b section octets) ≡ true
read_scalars [] is b section = refl
read_scalars (octet ∷ octets) is false section =
    let parts = and_parts (is_octet octet) (list_all is_octet octets) is in
    direct_next section octets octet (octet == 38) refl (ltb-true octet 256 parts.0) (read_scalars octets parts.1)
read_scalars (octet ∷ octets) is true section =
    let parts = and_parts (is_octet octet) (list_all is_octet octets) is in
    shifted_next section octets octet (octet == 45) refl (read_scalars octets parts.1)

-- ---- the whole

some_same : (one other : List ℕ) → Some one ≡ Some other → one ≡ other
some_same one other e = cc e

written_by : (octets text : List ℕ) (t : Bool) → bytes_eq (encoded (read octets)) octets ≡ t → list_all is_octet octets ≡ true
    → decoded octets ≡ Some text → IsUtf8 text × (encoded (chars text) ≡ octets)
written_by octets text false is all e =
    let none : None ≡ Some text = rw is at e in
    cc none
written_by octets text true is all e =
    let some : Some (encode_utf8_all (read octets)) ≡ Some text = rw is at e in
    let text_is : encode_utf8_all (read octets) ≡ text = some_same _ _ some in
    let right = read_scalars octets all false [] in (
      (read octets, (right, text_is)),
      ap (λ l. encoded (chars l)) (sym text_is) ∙ ap encoded (chars-encodes (read octets) right) ∙ (bytes_eq-Decides _ _).0 is,
    )

pub written : (octets text : List ℕ) → list_all is_octet octets ≡ true → decoded octets ≡ Some text → IsUtf8 text × (encoded (chars text) ≡ octets)
written octets text all e = written_by octets text (bytes_eq (encoded (read octets)) octets) refl all e

-- ---- a text that is written again

module _ (octets text spelling : List ℕ) (utf8 : IsUtf8 text) (is : text ≡ encode_utf8_all (read octets)) (again : spelling ≡ encoded (chars text)) where
  spelt : spelling ≡ encoded (read octets)
  spelt = again ∙ ap encoded (sym (chars_from_encodes (read octets) text utf8 (sym is)))

  pub decoded_some : bytes_eq spelling octets ≡ true → Some text ≡ decoded octets
  decoded_some same =
      let test : bytes_eq (encoded (read octets)) octets ≡ true = ap (λ l. bytes_eq l octets) (sym spelt) ∙ same in
      rw test (ap Some is)

  pub decoded_none : bytes_eq spelling octets ≡ false → None ≡ decoded octets
  decoded_none other =
      let test : bytes_eq (encoded (read octets)) octets ≡ false = ap (λ l. bytes_eq l octets) (sym spelt) ∙ other in
      rw test refl
