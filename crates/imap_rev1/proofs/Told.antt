-- Names as they are told.
use Rattle.std.proofs.Common.{◌≡◌, ◌∙◌, ◌≤◌, ap, sym, refl, ℕ, zero, suc, Bool, true, false, cond, not, ◌||◌, List, [], ◌∷◌, arith, ◌==◌, Some, None}
use Rattle.std.specs.List.{list_all, list_any}
use Rattle.std.specs.Prelude.{IsUtf8, chars, encode_utf8_all, nat_le}
use Rattle.std.specs.Str.{IsAscii, is_utf8}
use Rattle.std.proofs.lemmas.Bool.{and_parts, and_from, leb-true, ne_eqb}
use Rattle.std.proofs.lemmas.Str.{encodes-IsAscii, encodes-chars, is_utf8-from_IsUtf8, IsUtf8-from_is_utf8, scalars-chars}
use Rattle.imap_print.specs.Lines as lines
use Rattle.imap_rev1_frames.specs.Names.{is_ampersand, name_for}
use Rattle.imap_rev1_frames.specs.Rewritten.{instead_octets}
use Rattle.imap_utf7.specs.Laws.{is_plain}
use Rattle.imap_utf7.specs.Spelling.{decoded, encoded, is_direct, read_after}
use Rattle.imap_utf7.proofs.Printable.{printable}
use Rattle.imap_utf7.proofs.RoundTrip.{decoded-encoded, read-encoded}
use Rattle.imap_rev1.specs.NameLaws.{ReadsShown, shown_name}
use Rattle.imap_rev1.specs.Shown.{other_shown}

-- ---- tests

bare_by : (s t : Bool) → not s ≡ true → t ≡ false → (s || t) ≡ false
bare_by true t is e = absurd cc
bare_by false t is e = e

or_parts : (s t : Bool) → (s || t) ≡ false → (s ≡ false) × (t ≡ false)
or_parts true t is = absurd cc
or_parts false t is = (refl, is)

no_break : (octet : ℕ) → 32 ≤ octet → lines.is_plain octet ≡ true
no_break octet low =
    rw (ne_eqb octet 13 (λ e. omega (arith, low, e)), ne_eqb octet 10 (λ e. omega (arith, low, e))) refl

-- ---- names without `&`

plain_bare : (name : List ℕ) → list_all is_plain name ≡ true → list_any is_ampersand name ≡ false
plain_bare [] is = refl
plain_bare (c ∷ name) is =
    let parts = and_parts (is_plain c) (list_all is_plain name) is in
    bare_by (c == 38) (list_any is_ampersand name) (and_parts (is_direct c) (not (c == 38)) parts.0).1 (plain_bare name parts.1)

read_bare : (octets : List ℕ) → list_any is_ampersand octets ≡ false → read_after false [] octets ≡ octets
read_bare [] is = refl
read_bare (octet ∷ octets) is =
    let parts = or_parts (octet == 38) (list_any is_ampersand octets) is in
    rw parts.0 (ap (λ l. octet ∷ l) (read_bare octets parts.1))

direct_ascii : (octets : List ℕ) → list_all is_direct octets ≡ true → IsAscii octets
direct_ascii [] is i = omega arith
direct_ascii (octet ∷ octets) is zero =
    let parts = and_parts (is_direct octet) (list_all is_direct octets) is in
    let high : octet ≤ 126 = leb-true octet 126 (and_parts (nat_le 32 octet) (nat_le octet 126) parts.0).1 in
    omega (arith, high)
direct_ascii (octet ∷ octets) is (suc i) =
    direct_ascii octets (and_parts (is_direct octet) (list_all is_direct octets) is).1 i

-- a spelling without `&` is its text
bare_same : (name : List ℕ) → IsUtf8 name → list_any is_ampersand (encoded (chars name)) ≡ false → encoded (chars name) ≡ name
bare_same name utf8 bare =
    let right = scalars-chars name utf8 in
    let x = encoded (chars name) in
    let same : chars name ≡ x = sym (read-encoded (chars name) right) ∙ read_bare x bare in
    sym (encodes-IsAscii x (direct_ascii x (printable (chars name) right))) ∙ ap encode_utf8_all (sym same) ∙ encodes-chars name utf8

-- ---- names that are read as they were shown

bare_for : (name : List ℕ) → list_any is_ampersand name ≡ false → name_for name ≡ name
bare_for name is = ap (λ b. instead_octets (cond b (decoded name) None) name) is

for_by : (name : List ℕ) (t : Bool) → list_any is_ampersand (encoded (chars name)) ≡ t → IsUtf8 name → name_for (encoded (chars name)) ≡ name
for_by name true is utf8 =
    let x = encoded (chars name) in
    let text = decoded-encoded (chars name) (scalars-chars name utf8) ∙ ap Some (encodes-chars name utf8) in
    ap (λ b. instead_octets (cond b (decoded x) None) x) is ∙ ap (λ o. instead_octets o x) text
for_by name false is utf8 = bare_for (encoded (chars name)) is ∙ bare_same name utf8 is

shown_by_plain : (name : List ℕ) (t : Bool) → list_all is_plain name ≡ t → IsUtf8 name → name_for (shown_name name) ≡ name
shown_by_plain name true is utf8 =
    let same : shown_name name ≡ name =
    ap (λ b. instead_octets (cond b None (cond (is_utf8 name) (Some (encoded (chars name))) None)) name) is in
    ap name_for same ∙ bare_for name (plain_bare name is)
shown_by_plain name false is utf8 =
    let same : shown_name name ≡ encoded (chars name) =
    ap (λ b. instead_octets (cond b None (cond (is_utf8 name) (Some (encoded (chars name))) None)) name) is
    ∙ ap (λ b. instead_octets (cond b (Some (encoded (chars name))) None) name) (is_utf8-from_IsUtf8 name utf8) in
    ap name_for same ∙ for_by name (list_any is_ampersand (encoded (chars name))) refl utf8

pub reads_shown : ReadsShown
reads_shown name utf8 = shown_by_plain name (list_all is_plain name) refl utf8

-- ---- names that are printed

direct_plain : (octets : List ℕ) → list_all is_direct octets ≡ true → list_all lines.is_plain octets ≡ true
direct_plain [] is = refl
direct_plain (octet ∷ octets) is =
    let parts = and_parts (is_direct octet) (list_all is_direct octets) is in
    let low : 32 ≤ octet = leb-true 32 octet (and_parts (nat_le 32 octet) (nat_le octet 126) parts.0).0 in
    and_from (lines.is_plain octet) (list_all lines.is_plain octets) (no_break octet low) (direct_plain octets parts.1)

some_same : (one other : List ℕ) → Some one ≡ Some other → one ≡ other
some_same one other e = cc e

shown_plain_by : (name other : List ℕ) (s t : Bool) → list_all is_plain name ≡ s → is_utf8 name ≡ t → other_shown name ≡ Some other
    → list_all lines.is_plain other ≡ true
shown_plain_by name other true t plain is e =
    let none : None ≡ Some other = rw plain at e in
    cc none
shown_plain_by name other false false plain is e =
    let none : None ≡ Some other = rw (plain, is) at e in
    cc none
shown_plain_by name other false true plain is e =
    let some : Some (encoded (chars name)) ≡ Some other = rw (plain, is) at e in
    ap (list_all lines.is_plain) (sym (some_same _ _ some))
    ∙ direct_plain (encoded (chars name)) (printable (chars name) (scalars-chars name (IsUtf8-from_is_utf8 name is)))

-- a spelling has neither CR nor LF
pub shown_plain : (name other : List ℕ) → other_shown name ≡ Some other → list_all lines.is_plain other ≡ true
shown_plain name other e = shown_plain_by name other (list_all is_plain name) (is_utf8 name) refl refl e

-- a plain name has no other spelling
pub plain_shown : (name : List ℕ) → list_all is_plain name ≡ true → other_shown name ≡ None
plain_shown name is = rw is refl
