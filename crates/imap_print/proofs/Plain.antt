-- Which texts have neither CR nor LF, for who shows that responses are printable.
use Rattle.std.proofs.Common.{◌≡◌, ◌≢◌, ℕ, zero, suc, ◌<◌, Bool, true, false, not, eqb, List, [], ◌∷◌, ◌++◌, length, get_or, refl, sym, ap, ◌∙◌, map, flat_map, suc-le-suc, zero-le, arith}
use Rattle.std.specs.Prelude.{chars}
use Rattle.std.specs.Char.{is_control}
use Rattle.std.specs.Str.{IsUtf8, NonePass, NoCharPasses}
use Rattle.std.specs.List.{list_all, list_any, concat, AllByRecursion}
use Rattle.std.proofs.lemmas.Bool.{and_from, or_parts, or_from, ne_eqb}
use Rattle.std.proofs.lemmas.Bool.Decides.{nat_tests}
use Rattle.std.proofs.lemmas.Str.{encodes-chars, NoCharPasses-byte}
use Rattle.std.proofs.lemmas.List.Folds.{list_all-append}
use Rattle.imap_lex.specs.Chars.{is_tag_char}
use Rattle.imap_lex.specs.CommandTag.{IsTag}
use Rattle.imap_syntax.proofs.Writing.{both_true}
use Rattle.imap_syntax.specs.Lexical.{is_atom_char}
use Rattle.imap_syntax.specs.Atoms.{IsAtom}
use Rattle.imap_syntax.specs.Keywords.{AreAtoms}
use Rattle.imap_syntax.specs.FieldNames.{IsFieldName}
use Rattle.imap_syntax.specs.Written.{is_unquotable}
use Rattle.imap_print.specs.declared.fetch.FetchedSection.{FetchedSection}
use Rattle.imap_print.specs.Lines.{is_plain, IsPlain, section_names}

tag_char_plain : (octet : ℕ) → is_tag_char octet ≡ true → is_plain octet ≡ true
tag_char_plain octet h = grind (arith, nat_tests)

tag_chars_plain : (octets : List ℕ) → list_all is_tag_char octets ≡ true → IsPlain octets
tag_chars_plain [] h = refl
tag_chars_plain (octet ∷ octets) h =
    let parts = both_true (is_tag_char octet) (list_all is_tag_char octets) h in
    and_from _ _ (tag_char_plain octet parts.0) (tag_chars_plain octets parts.1)

-- a tag is plain
pub IsPlain-tag : (tag : List ℕ) → IsTag tag → IsPlain tag
IsPlain-tag tag is = tag_chars_plain tag (both_true (not (eqb (length tag) 0)) (list_all is_tag_char tag) is).1

pub IsPlain-append : (a b : List ℕ) → IsPlain a → IsPlain b → IsPlain (a ++ b)
IsPlain-append a b p q = list_all-append is_plain a b ∙ and_from _ _ p q

-- ---- text

none_pass : (p : ℕ → Bool) (cs : List ℕ) → list_any p cs ≡ false → NonePass p cs
none_pass p [] h = tt
none_pass p (c ∷ cs) h = let parts = or_parts (p c) (list_any p cs) h in (parts.0, none_pass p cs parts.1)

plain_octet : (octet : ℕ) → octet ≢ 13 → octet ≢ 10 → is_plain octet ≡ true
plain_octet octet cr lf = ap not (or_from _ _ (ne_eqb octet 13 cr) (ne_eqb octet 10 lf))

plain_by : (text : List ℕ) → ((i : ℕ) → i < length text → get_or text i 0 ≢ 13) → ((i : ℕ) → i < length text → get_or text i 0 ≢ 10) → IsPlain text
plain_by [] cr lf = refl
plain_by (c ∷ cs) cr lf =
    and_from _ _ (plain_octet c (cr zero (suc-le-suc zero-le)) (lf zero (suc-le-suc zero-le)))
    (plain_by cs (λ i l. cr (suc i) (suc-le-suc l)) (λ i l. lf (suc i) (suc-le-suc l)))

never : (text : List ℕ) → IsUtf8 text → list_any is_control (chars text) ≡ false → (control : ℕ) → control < 128 → is_control control ≡ true
    → (i : ℕ) → i < length text → get_or text i 0 ≢ control
never text utf8 printable control small is i l e =
    let none : NoCharPasses is_control text = (chars text, encodes-chars text utf8, none_pass is_control (chars text) printable) in
    let below : get_or text i 0 < 128 = omega arith in
    let fails : is_control (get_or text i 0) ≡ false = NoCharPasses-byte is_control text i none l below in
    let clash : true ≡ false = sym is ∙ ap is_control (sym e) ∙ fails in cc

-- UTF-8 text without control characters is plain
pub IsPlain-text : (text : List ℕ) → IsUtf8 text → list_any is_control (chars text) ≡ false → IsPlain text
IsPlain-text text utf8 printable =
    plain_by text (never text utf8 printable 13 (omega arith) refl) (never text utf8 printable 10 (omega arith) refl)

-- ---- what is plain by its type

atom_char_plain : (octet : ℕ) → is_atom_char octet ≡ true → is_plain octet ≡ true
atom_char_plain octet h = grind (arith, nat_tests)

atom_chars_plain : (octets : List ℕ) → list_all is_atom_char octets ≡ true → IsPlain octets
atom_chars_plain [] h = refl
atom_chars_plain (octet ∷ octets) h =
    let parts = both_true (is_atom_char octet) (list_all is_atom_char octets) h in
    and_from _ _ (atom_char_plain octet parts.0) (atom_chars_plain octets parts.1)

-- an atom is plain
pub plain_atom : (word : List ℕ) → IsAtom word → IsPlain word
plain_atom word is = atom_chars_plain word (both_true (not (eqb (length word) 0)) (list_all is_atom_char word) is).1

-- and so is each keyword of a set
pub plain_keywords : (words : List (List ℕ)) → AreAtoms words → AllByRecursion IsPlain words
plain_keywords [] h = tt
plain_keywords (word ∷ words) h = (plain_atom word h.0, plain_keywords words h.1)

quotable_plain : (octet : ℕ) → is_unquotable octet ≡ false → is_plain octet ≡ true
quotable_plain octet h = grind (arith, nat_tests)

all_quotable_plain : (octets : List ℕ) → list_any is_unquotable octets ≡ false → IsPlain octets
all_quotable_plain [] h = refl
all_quotable_plain (octet ∷ octets) h =
    let parts = or_parts (is_unquotable octet) (list_any is_unquotable octets) h in
    and_from _ _ (quotable_plain octet parts.0) (all_quotable_plain octets parts.1)

negated : (b : Bool) → not b ≡ true → b ≡ false
negated true h = absurd cc
negated false h = refl

-- the name of a header field is plain
pub plain_field_name : (name : List ℕ) → IsFieldName name → IsPlain name
plain_field_name name is = all_quotable_plain name (negated (list_any is_unquotable name) is)

abbrev pub names_of : List FetchedSection → List (List ℕ)
names_of sections = flat_map (λ body. section_names body.section) sections

abbrev pub octets_of : List FetchedSection → List (List ℕ)
octets_of sections = map (λ body. concat body.octets) sections

pub plain-append : (words more : List (List ℕ)) → AllByRecursion IsPlain words → AllByRecursion IsPlain more → AllByRecursion IsPlain (words ++ more)
plain-append [] more h k = k
plain-append (word ∷ words) more h k = (h.0, plain-append words more h.1 k)
