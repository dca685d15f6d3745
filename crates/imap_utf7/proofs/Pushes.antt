-- Texts that are written and read piece by piece.
use Rattle.std.proofs.Common.{◌≡◌, ◌∙◌, ap, sym, refl, ℕ, true, false, List, [], ◌∷◌, ◌++◌, append_assoc, length, drop, get_or, drop-cons, add-one, ◌+◌, ◌<◌, ◌==◌}
use Rattle.std.proofs.lemmas.Bool.{eq-eqb}
use Rattle.std.proofs.lemmas.Str.{encodes-append}
use Rattle.std.specs.Prelude.{string_bytes, encode_utf8_all}
use Rattle.imap_utf7.specs.declared.encoding.Writing.{Writing}
use Rattle.imap_utf7.specs.Shifts.{base64}
use Rattle.imap_utf7.specs.Spelling.{direct, encoded_after, is_direct, read_after, section_characters, shifted}
use Rattle.imap_utf7.specs.declared.decoding.Reading.{Reading}
use Rattle.imap_utf7.specs.Reading.{all_read}
use Rattle.imap_utf7.specs.Writing.{all_written}

pub shifted_some : (run : List ℕ) → (length run == 0) ≡ false → shifted run ≡ 38 ∷ (base64 run ++ 45 ∷ [])
shifted_some [] some = cc some
shifted_some (octet ∷ run) some = refl

-- `&`, the octets in base64, and `-`
pub run_written : (run out first second third : List ℕ) → (length run == 0) ≡ false
    → first ≡ out ++ 38 ∷ [] → second ≡ first ++ base64 run → third ≡ second ++ 45 ∷ [] → third ≡ out ++ shifted run
run_written run out first second third some one two three = rw (shifted_some run some, three, two, one) (simp append_assoc refl)

-- ---- a character

pub goes_on_direct : (c : ℕ) (old : Writing) (run out : List ℕ) → is_direct c ≡ true → run ≡ []
    → out ≡ (string_bytes old.out ++ shifted old.run.items) ++ direct c
    → (text : List ℕ) → out ++ encoded_after run text ≡ all_written old (c ∷ text)
goes_on_direct c old run out is empty e text = rw (empty, e, is) (simp append_assoc refl)

-- ---- an octet

pub goes_on_section : (octet : ℕ) (old : Reading) (section : List ℕ) → old.is_shifted ≡ true → (octet == 45) ≡ false
    → section ≡ old.section.items ++ octet ∷ []
    → (octets : List ℕ) → string_bytes old.text ++ encode_utf8_all (read_after old.is_shifted section octets) ≡ all_read old (octet ∷ octets)
goes_on_section octet old section is goes e octets = rw (is, goes, e) refl

pub goes_on_end : (octet : ℕ) (old : Reading) (section text : List ℕ) → old.is_shifted ≡ true → octet ≡ 45 → section ≡ []
    → text ≡ string_bytes old.text ++ encode_utf8_all (section_characters old.section.items)
    → (octets : List ℕ) → text ++ encode_utf8_all (read_after false section octets) ≡ all_read old (octet ∷ octets)
goes_on_end octet old section text is ends empty e octets =
    let before = string_bytes old.text in
    let chars = section_characters old.section.items in
    let later = read_after false [] octets in
    rw (is, eq-eqb octet 45 ends, empty, e) (append_assoc before (encode_utf8_all chars) (encode_utf8_all later)
    ∙ ap (λ l. before ++ l) (sym (encodes-append chars later)))

-- ---- all octets

pub read_more : (octets text : List ℕ) (i : ℕ) (old new : Reading) → i < length octets
    → all_read old (drop i octets) ≡ text
    → ((later : List ℕ) → all_read new later ≡ all_read old (get_or octets i 0 ∷ later))
    → all_read new (drop (i + 1) octets) ≡ text
read_more octets text i old new within before next =
    let is : drop i octets ≡ get_or octets i 0 ∷ drop (i + 1) octets = rw add-one (drop-cons octets i 0 within) in
    next (drop (i + 1) octets) ∙ ap (all_read old) (sym is) ∙ before
