-- What is written is read.
use Rattle.std.proofs.Common.{◌≡◌, ◌∙◌, ◌<◌, ap, sym, refl, ℕ, Bool, true, false, not, List, [], ◌∷◌, ◌++◌, append_assoc, append-nil, length, flat_map, arith, ◌==◌, Some}
use Rattle.std.proofs.lemmas.Bool.{and_parts, and_from, eqb-true}
use Rattle.std.proofs.lemmas.Grind.{flat_map-append}
use Rattle.std.proofs.lemmas.Slice.Eq.{bytes_eq-Decides}
use Rattle.std.proofs.Math.Utf8.{scalar, scalars}
use Rattle.std.proofs.lemmas.Str.{utf16_chars-nil}
use Rattle.std.specs.Char.Utf16.{utf16_lossy_chars}
use Rattle.std.specs.List.{list_all}
use Rattle.std.specs.Option.{unwrap_or}
use Rattle.std.specs.Prelude.{bytes_eq, encode_utf8_all, map}
use Rattle.base64.proofs.RoundTrip.{length-encode_symbols}
use Rattle.imap_utf7.specs.Shifts.{base64, characters, is_octet, symbols, units, wide}
use Rattle.imap_utf7.specs.Spelling.{decoded, direct, encoded, encoded_after, is_direct, read, read_after, section_characters, shifted}
use Rattle.imap_utf7.proofs.Chars.{base64_inside, is_inside, lossy-wide, wides_pass}
use Rattle.imap_utf7.proofs.Shifting.{octets_of-base64, pass_octets}

-- ---- a section

not_true : (t : Bool) → not t ≡ true → t ≡ false
not_true false is = refl
not_true true is = cc is

-- it ends at the first `-`
pub read_section : (section inside later : List ℕ) → list_all is_inside inside ≡ true
    → read_after true section (inside ++ 45 ∷ later) ≡ section_characters (section ++ inside) ++ read_after false [] later
read_section section [] later is = ap (λ l. section_characters l ++ read_after false [] later) (sym (append-nil section))
read_section section (octet ∷ inside) later is =
    let parts = and_parts (is_inside octet) (list_all is_inside inside) is in
    let goes : (octet == 45) ≡ false = not_true (octet == 45) (and_parts (is_direct octet) (not (octet == 45)) parts.0).1 in
    rw goes (read_section (section ++ octet ∷ []) inside later parts.1
    ∙ ap (λ l. section_characters l ++ read_after false [] later) (append_assoc section (octet ∷ []) inside))

section_some : (section : List ℕ) → 0 < length section → section_characters section ≡ characters section
section_some [] some = absurd (omega (arith, some))
section_some (octet ∷ section) some = refl

base64_some : (octet : ℕ) (octets : List ℕ) → 0 < length (base64 (octet ∷ octets))
base64_some octet octets = omega (arith, length-encode_symbols symbols (octet ∷ octets))

-- the octets of some text, shifted
read_octets : (octets text later : List ℕ) → list_all is_octet octets ≡ true → utf16_lossy_chars (units octets) ≡ text
    → read_after false [] (shifted octets ++ later) ≡ text ++ read_after false [] later
read_octets [] text later is e =
    let none : [] ≡ text = sym (ap (map (λ o. unwrap_or o 0xFFFD)) utf16_chars-nil) ∙ e in
    ap (λ l. l ++ read_after false [] later) none
read_octets (octet ∷ octets) text later is e =
    let all = octet ∷ octets in
    let chars : section_characters (base64 all) ≡ text =
    section_some (base64 all) (base64_some octet octets)
    ∙ ap (λ l. utf16_lossy_chars (units l)) (octets_of-base64 all (pass_octets all is)) ∙ e in
    ap (read_after true []) (append_assoc (base64 all) (45 ∷ []) later)
    ∙ read_section [] (base64 all) later (base64_inside all is)
    ∙ ap (λ l. l ++ read_after false [] later) chars

pub read_run : (run later : List ℕ) → scalars run ≡ true
    → read_after false [] (shifted (flat_map wide run) ++ later) ≡ run ++ read_after false [] later
read_run run later is = read_octets (flat_map wide run) run later (wides_pass run is) (lossy-wide run is)

-- ---- a direct character

read_direct_by : (c : ℕ) (later : List ℕ) (t : Bool) → (c == 38) ≡ t
    → read_after false [] (direct c ++ later) ≡ c ∷ read_after false [] later
read_direct_by c later true is =
    let e : 38 ≡ c = sym (eqb-true c 38 is) in
    rw is (ap (λ d. d ∷ read_after false [] later) e)
read_direct_by c later false is = rw (is, is) refl

pub read_direct : (c : ℕ) (later : List ℕ) → read_after false [] (direct c ++ later) ≡ c ∷ read_after false [] later
read_direct c later = read_direct_by c later (c == 38) refl

-- ---- all characters

scalars_push : (run : List ℕ) (c : ℕ) → scalars run ≡ true → scalar c ≡ true → scalars (run ++ c ∷ []) ≡ true
scalars_push [] c is one = and_from (scalar c) true one refl
scalars_push (r ∷ run) c is one =
    let parts = and_parts (scalar r) (scalars run) is in
    and_from (scalar r) (scalars (run ++ c ∷ [])) parts.0 (scalars_push run c parts.1 one)

wide_push : (run : List ℕ) (c : ℕ) → flat_map wide run ++ wide c ≡ flat_map wide (run ++ c ∷ [])
wide_push run c = sym (flat_map-append wide run (c ∷ []) ∙ ap (λ l. flat_map wide run ++ l) (append-nil (wide c)))

-- one character, if those after it are read
read_next : (run text : List ℕ) (c : ℕ) (t : Bool) → is_direct c ≡ t → scalars run ≡ true → scalar c ≡ true
    → ((run : List ℕ) → scalars run ≡ true → read_after false [] (encoded_after (flat_map wide run) text) ≡ run ++ text)
    → read_after false [] (encoded_after (flat_map wide run) (c ∷ text)) ≡ run ++ c ∷ text
read_next run text c true is runs one goes =
    rw is (read_run run (direct c ++ encoded_after [] text) runs
    ∙ ap (λ l. run ++ l) (read_direct c (encoded_after [] text) ∙ ap (λ l. c ∷ l) (goes [] refl)))
read_next run text c false is runs one goes =
    rw is (ap (λ l. read_after false [] (encoded_after l text)) (wide_push run c)
    ∙ goes (run ++ c ∷ []) (scalars_push run c runs one)
    ∙ append_assoc run (c ∷ []) text)

pub read_encoded : (run text : List ℕ) → scalars run ≡ true → scalars text ≡ true
    → read_after false [] (encoded_after (flat_map wide run) text) ≡ run ++ text
read_encoded run [] runs texts =
    ap (read_after false []) (sym (append-nil (shifted (flat_map wide run)))) ∙ read_run run [] runs
read_encoded run (c ∷ text) runs texts =
    let parts = and_parts (scalar c) (scalars text) texts in
    read_next run text c (is_direct c) refl runs parts.0 (λ more is. read_encoded more text is parts.1)

pub read-encoded : (text : List ℕ) → scalars text ≡ true → read (encoded text) ≡ text
read-encoded text is = read_encoded [] text refl is

pub decoded-encoded : (text : List ℕ) → scalars text ≡ true → decoded (encoded text) ≡ Some (encode_utf8_all text)
decoded-encoded text is =
    let same : read (encoded text) ≡ text = read-encoded text is in
    let equal : bytes_eq (encoded (read (encoded text))) (encoded text) ≡ true = (bytes_eq-Decides _ _).1 (ap encoded same) in
    rw equal (ap (λ l. Some (encode_utf8_all l)) same)
