-- Characters in UTF-16 and in base64.
use Rattle.std.proofs.Common.{◌≡◌, ◌∙◌, ◌≤◌, ◌<◌, ap, sym, refl, ℕ, ◌+◌, ◌*◌, ◌/◌, ◌%◌, ◌-◌, ◌⊎◌, inl, inr, ⊎_elim, Bool, true, not, List, [], ◌∷◌, ◌++◌, append-nil, map, get_or, flat_map, arith, Some, ◌==◌}
use Rattle.std.proofs.lemmas.Bool.{and_parts, and_from, lt-ltb, le-leb, ltb-true, lt-leb, le-ltb, cases_lt}
use Rattle.std.proofs.lemmas.Grind.{flat_map-append}
use Rattle.std.proofs.lemmas.List.Folds.{list_all-append}
use Rattle.std.proofs.lemmas.Str.{utf16_chars-nil, utf16_chars_lone, utf16_chars_pair}
use Rattle.std.proofs.str.Utf16.{IsPair}
use Rattle.std.proofs.Math.Utf8.{scalar, scalars, scalar_cases}
use Rattle.std.specs.Char.Escape.{encode_utf16}
use Rattle.std.specs.Char.Utf16.{utf16_chars, utf16_lossy_chars, lone_unit_char, surrogate_pair_char}
use Rattle.std.specs.List.{list_all}
use Rattle.std.specs.Option.{unwrap_or}
use Rattle.std.specs.Prelude.{◌&&◌, slice_index}
use Rattle.base64.specs.Rfc4648.{encode_symbols}
use Rattle.base64.proofs.Tables.{all_below_at}
use Rattle.imap_utf7.specs.Shifts.{base64, is_octet, symbols, unit_octets, units, wide}
use Rattle.imap_utf7.specs.Spelling.{is_direct}

-- ---- units

-- a scalar value is one unit, or two
pub cases_units : (c : ℕ) → scalar c ≡ true
    → ((encode_utf16 c ≡ c ∷ []) × ((c < 55296) ⊎ ((57344 ≤ c) × (c < 65536))))
    ⊎ ((encode_utf16 c ≡ (0xD800 + (c - 0x1_0000) / 0x400) ∷ (0xDC00 + (c - 0x1_0000) % 0x400) ∷ []) × (65536 ≤ c) × (c < 1114112))
cases_units c is = ⊎_elim
    (λ low. inl (rw (lt-ltb c 0x1_0000 (omega (arith, low))) refl, inl low))
    (λ high. ⊎_elim
    (λ narrow. inl (rw (lt-ltb c 0x1_0000 narrow) refl, inr (high.0, narrow)))
    (λ broad. inr (rw (le-ltb c 0x1_0000 broad) refl, broad, high.1))
    (cases_lt c 65536))
    (scalar_cases c is)

pub units-unit_octets : (us : List ℕ) → units (flat_map unit_octets us) ≡ us
units-unit_octets [] = refl
units-unit_octets (u ∷ us) =
    let one : u / 256 * 256 + u % 256 ≡ u = omega arith in
    rw (one, units-unit_octets us) refl

pub wide-units : (text : List ℕ) → flat_map wide text ≡ flat_map unit_octets (flat_map encode_utf16 text)
wide-units [] = refl
wide-units (c ∷ text) =
    ap (λ l. wide c ++ l) (wide-units text) ∙ sym (flat_map-append unit_octets (encode_utf16 c) (flat_map encode_utf16 text))

-- ---- characters from their units

lone_char : (c : ℕ) → (c < 55296) ⊎ ((57344 ≤ c) × (c < 65536)) → lone_unit_char c ≡ Some c
lone_char c (inl low) = rw (lt-leb 0xD800 c low) refl
lone_char c (inr high) = rw (le-leb 0xD800 c (omega (arith, high.0)), le-ltb c 0xE000 high.0) refl

no_pair : (c v : ℕ) → (c < 55296) ⊎ ((57344 ≤ c) × (c < 65536)) → ¬ (IsPair c v)
no_pair c v (inl low) pair = omega (arith, low, pair.0)
no_pair c v (inr high) pair = omega (arith, high.0, pair.1)

pair_char : (c : ℕ) → 65536 ≤ c → surrogate_pair_char (0xD800 + (c - 0x1_0000) / 0x400) (0xDC00 + (c - 0x1_0000) % 0x400) ≡ c
pair_char c from = omega (arith, from)

is_pair : (c : ℕ) → 65536 ≤ c → c < 1114112 → IsPair (0xD800 + (c - 0x1_0000) / 0x400) (0xDC00 + (c - 0x1_0000) % 0x400)
is_pair c from below = (omega arith, omega (arith, from, below), omega arith, omega arith)

pub chars-units : (text : List ℕ) → scalars text ≡ true → utf16_chars (flat_map encode_utf16 text) ≡ map Some text
chars-units [] is = utf16_chars-nil
chars-units (c ∷ text) is =
    let parts = and_parts (scalar c) (scalars text) is in
    let us = flat_map encode_utf16 text in
    let later : utf16_chars us ≡ map Some text = chars-units text parts.1 in
    ⊎_elim
    (λ one. ap (λ l. utf16_chars (l ++ us)) one.0
    ∙ utf16_chars_lone c us (no_pair c (get_or us 0 0) one.1)
    ∙ ap (λ o. o ∷ utf16_chars us) (lone_char c one.1) ∙ ap (λ l. Some c ∷ l) later)
    (λ two. ap (λ l. utf16_chars (l ++ us)) two.0
    ∙ utf16_chars_pair _ _ us (is_pair c two.1 two.2)
    ∙ ap (λ d. Some d ∷ utf16_chars us) (pair_char c two.1) ∙ ap (λ l. Some c ∷ l) later)
    (cases_units c parts.0)

somes : (text : List ℕ) → map (λ o. unwrap_or o 0xFFFD) (map Some text) ≡ text
somes [] = refl
somes (c ∷ text) = ap (λ l. c ∷ l) (somes text)

pub lossy-units : (text : List ℕ) → scalars text ≡ true → utf16_lossy_chars (flat_map encode_utf16 text) ≡ text
lossy-units text is = ap (map (λ o. unwrap_or o 0xFFFD)) (chars-units text is) ∙ somes text

-- the characters for which their own octets stand
pub lossy-wide : (text : List ℕ) → scalars text ≡ true → utf16_lossy_chars (units (flat_map wide text)) ≡ text
lossy-wide text is =
    ap (λ l. utf16_lossy_chars (units l)) (wide-units text)
    ∙ ap utf16_lossy_chars (units-unit_octets (flat_map encode_utf16 text)) ∙ lossy-units text is

-- ---- octets

unit_passes : (u : ℕ) → u < 65536 → list_all is_octet (unit_octets u) ≡ true
unit_passes u below =
    and_from _ _ (lt-ltb (u / 256) 256 (omega (arith, below))) (and_from _ _ (lt-ltb (u % 256) 256 (omega arith)) refl)

two_pass : (u v : ℕ) → u < 65536 → v < 65536 → list_all is_octet (flat_map unit_octets (u ∷ v ∷ [])) ≡ true
two_pass u v one other =
    list_all-append is_octet (unit_octets u) (unit_octets v ++ [])
    ∙ and_from _ _ (unit_passes u one) (ap (list_all is_octet) (append-nil (unit_octets v)) ∙ unit_passes v other)

pub wide_passes : (c : ℕ) → scalar c ≡ true → list_all is_octet (wide c) ≡ true
wide_passes c is = ⊎_elim
    (λ one. ap (λ l. list_all is_octet (flat_map unit_octets l)) one.0
    ∙ ap (list_all is_octet) (append-nil (unit_octets c))
    ∙ unit_passes c (⊎_elim (λ low. omega (arith, low)) (λ high. high.1) one.1))
    (λ two. ap (λ l. list_all is_octet (flat_map unit_octets l)) two.0 ∙ two_pass (0xD800 + (c - 0x1_0000) / 0x400) (0xDC00 + (c - 0x1_0000) % 0x400) (omega (arith, two.1, two.2)) (omega arith))
    (cases_units c is)

pub wides_pass : (text : List ℕ) → scalars text ≡ true → list_all is_octet (flat_map wide text) ≡ true
wides_pass [] is = refl
wides_pass (c ∷ text) is =
    let parts = and_parts (scalar c) (scalars text) is in
    list_all-append is_octet (wide c) (flat_map wide text) ∙ and_from _ _ (wide_passes c parts.0) (wides_pass text parts.1)

-- ---- symbols

-- an octet that stands between `&` and `-`
abbrev pub is_inside : ℕ → Bool
is_inside octet = is_direct octet && not (octet == 45)

pub symbol_inside : (i : ℕ) → i < 64 → is_inside (slice_index symbols i) ≡ true
symbol_inside i below = all_below_at (λ i. is_inside (slice_index symbols i)) 64 i refl below

-- all of base64 stands there
pub base64_inside : (octets : List ℕ) → list_all is_octet octets ≡ true → list_all is_inside (base64 octets) ≡ true
unfolding encode_symbols
base64_inside [] is = refl
base64_inside (a ∷ []) is =
    let below : a < 256 = ltb-true a 256 (and_parts (is_octet a) true is).0 in
    and_from _ _ (symbol_inside (a / 4) (omega (arith, below))) (and_from _ _ (symbol_inside (a % 4 * 16) (omega arith)) refl)
base64_inside (a ∷ b ∷ []) is =
    let first = and_parts (is_octet a) (is_octet b && true) is in
    let below : a < 256 = ltb-true a 256 first.0 in
    let next : b < 256 = ltb-true b 256 (and_parts (is_octet b) true first.1).0 in
    and_from _ _ (symbol_inside (a / 4) (omega (arith, below)))
    (and_from _ _ (symbol_inside (a % 4 * 16 + b / 16) (omega (arith, next)))
    (and_from _ _ (symbol_inside (b % 16 * 4) (omega arith)) refl))
base64_inside (a ∷ b ∷ c ∷ rest) is =
    let first = and_parts (is_octet a) (is_octet b && (is_octet c && list_all is_octet rest)) is in
    let second = and_parts (is_octet b) (is_octet c && list_all is_octet rest) first.1 in
    let third = and_parts (is_octet c) (list_all is_octet rest) second.1 in
    let below : a < 256 = ltb-true a 256 first.0 in
    let next : b < 256 = ltb-true b 256 second.0 in
    let last : c < 256 = ltb-true c 256 third.0 in
    and_from _ _ (symbol_inside (a / 4) (omega (arith, below)))
    (and_from _ _ (symbol_inside (a % 4 * 16 + b / 16) (omega (arith, next)))
    (and_from _ _ (symbol_inside (b % 16 * 4 + c / 64) (omega (arith, last)))
    (and_from _ _ (symbol_inside (c % 64) (omega arith)) (base64_inside rest third.1))))
