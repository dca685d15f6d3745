-- The laws of CRLF, quoted strings and `astring`.
use Rattle.std.proofs.Common.{◌≡◌, ℕ, Bool, true, false, cond, eqb, ◌||◌, List, [], ◌∷◌, ◌++◌, Option, Some, None, refl, ap, subst, ◌∙◌, append_assoc, arith, inl, inr, ◌⊎◌}
use Rattle.std.specs.Prelude.{option_map}
use Rattle.std.proofs.lemmas.Bool.{eqb-true}
use Rattle.std.proofs.lemmas.Bool.Decides.{nat_tests}
use Rattle.std.proofs.lemmas.Option.{same_Some}
use Rattle.imap_syntax.specs.Lexical.{is_astring_char, is_text_char, is_quoted_special, IsQuoted, with_first, quoted_read, quoted_end, quoted, literal_head, literal, string, astring, crlf}
use Rattle.imap_syntax.proofs.RuleLaws.{StopsAt, Lawful, ended_lawful, then_lawful, then_follows, give_lawful, octet_lawful, octet_then_follows, some_of_lawful}
use Rattle.imap_syntax.proofs.Opens.{Opens, octet_opens, some_of_opens, then_opens, or_opens, or_apart, opens_weaker}
use Rattle.imap_syntax.proofs.Lists.{when_lawful, flag_lawful, flag_follows, counted_lawful}
use Rattle.imap_syntax.proofs.Numbers.{number_lawful}

pub crlf_lawful : {After : List ℕ → Type 0} → Lawful After crlf
crlf_lawful = ended_lawful (octet_lawful 13) (λ u. octet_lawful 10)

-- ---- quoted strings

pub by_test : {A : Type 0} (b : Bool) (x y z : A) → cond b x y ≡ z → ((b ≡ true) × (x ≡ z)) ⊎ ((b ≡ false) × (y ≡ z))
by_test true x y z e = inl (refl, e)
by_test false x y z e = inr (refl, e)

with_first-some : (b : ℕ) (o : Option (List ℕ × List ℕ)) (y : List ℕ × List ℕ) → with_first b o ≡ Some y → (z : List ℕ × List ℕ) × (o ≡ Some z) × ((b ∷ z.0, z.1) ≡ y)
with_first-some b None y e = absurd cc
with_first-some b (Some z) y e = (z, refl, same_Some _ _ e)

abbrev behind : Bool → List ℕ → List ℕ
behind escaped text = cond escaped (92 ∷ text) text

-- the input is a text whose value was read, where a backslash may stand before it, and a rest
abbrev Spelt : Bool → List ℕ → List ℕ × List ℕ → Type 0
Spelt escaped input y = (text : List ℕ) × IsQuoted y.0 (behind escaped text) × (input ≡ text ++ y.1)

with_first-spelt : (escaped : Bool) (b : ℕ) (rest : List ℕ) (y : List ℕ × List ℕ) → cond escaped (is_quoted_special b) (is_text_char b) ≡ true
    → ((z : List ℕ × List ℕ) → quoted_read false rest ≡ Some z → Spelt false rest z)
    → with_first b (quoted_read false rest) ≡ Some y → Spelt escaped (b ∷ rest) y
with_first-spelt true b rest y test ih e =
    let z = with_first-some b (quoted_read false rest) y e in
    let t = ih z.0 z.1 in
    subst (Spelt true (b ∷ rest)) z.2 (b ∷ t.0, (t.0, t.1, inr (test, refl)), ap (λ (r : List ℕ). b ∷ r) t.2)
with_first-spelt false b rest y test ih e =
    let z = with_first-some b (quoted_read false rest) y e in
    let t = ih z.0 z.1 in
    subst (Spelt false (b ∷ rest)) z.2 (b ∷ t.0, (t.0, t.1, inl (test, refl)), ap (λ (r : List ℕ). b ∷ r) t.2)

quoted_read-spelt : (escaped : Bool) (input : List ℕ) (y : List ℕ × List ℕ) → quoted_read escaped input ≡ Some y → Spelt escaped input y
quoted_read-spelt escaped [] y h = absurd cc
quoted_read-spelt true (b ∷ rest) y h =
    elim (by_test (is_quoted_special b) (with_first b (quoted_read false rest)) None (Some y) h) [
      | inl special ↦ with_first-spelt true b rest y special.0 (quoted_read-spelt false rest) special.1
      | inr other ↦ absurd cc
    ]
quoted_read-spelt false (b ∷ rest) y h =
    elim (by_test (eqb b 34) (Some ([], rest)) (cond (eqb b 92) (quoted_read true rest) (cond (is_text_char b) (with_first b (quoted_read false rest)) None)) (Some y) h) [
      | inl ends ↦ subst (Spelt false (b ∷ rest)) (same_Some _ _ ends.1) (34 ∷ [], refl, ap (λ (n : ℕ). n ∷ rest) (eqb-true b 34 ends.0))
      | inr goes_on ↦ elim (by_test (eqb b 92) (quoted_read true rest) (cond (is_text_char b) (with_first b (quoted_read false rest)) None) (Some y) goes_on.1) [
        | inl escape ↦ let t = quoted_read-spelt true rest y escape.1 in (92 ∷ t.0, t.1, ap (λ (n : ℕ). n ∷ rest) (eqb-true b 92 escape.0) ∙ ap (λ (r : List ℕ). 92 ∷ r) t.2)
        | inr plain ↦ elim (by_test (is_text_char b) (with_first b (quoted_read false rest)) None (Some y) plain.1) [
          | inl text ↦ with_first-spelt false b rest y text.0 (quoted_read-spelt false rest) text.1
          | inr other ↦ absurd cc
        ]
      ]
    ]

text_char_is_plain : (b : ℕ) → is_text_char b ≡ true → (eqb b 34 ≡ false) × (eqb b 92 ≡ false)
text_char_is_plain b h = grind (arith, nat_tests)

quoted_read-complete : (value text rest : List ℕ) → IsQuoted value text → quoted_read false (text ++ rest) ≡ Some (value, rest)
quoted_read-complete [] text rest h = rw h refl
quoted_read-complete (b ∷ value) text rest h =
    elim h.2 [
      | inl plain ↦ let no_end = text_char_is_plain b plain.0 in rw plain.1 (rw (plain.0, no_end.0, no_end.1, quoted_read-complete value h.0 rest h.1) refl)
      | inr escaped ↦ rw escaped.1 (rw (escaped.0, quoted_read-complete value h.0 rest h.1) refl)
    ]

pub quoted_end_lawful : {After : List ℕ → Type 0} → Lawful After quoted_end
quoted_end_lawful = record {
  sound = λ input value rest e. quoted_read-spelt false input (value, rest) e;
  complete = λ value text rest h n. quoted_read-complete value text rest h;
}

pub quoted_lawful : {After : List ℕ → Type 0} → Lawful After quoted
quoted_lawful = ended_lawful (octet_lawful 34) (λ u. quoted_end_lawful)

-- ---- a quoted string, octet by octet

abbrev pub with_front : List ℕ → Option (List ℕ × List ℕ) → Option (List ℕ × List ℕ)
with_front front read = option_map (λ found. (front ++ found.0, found.1)) read

pub with_front_nil : (read : Option (List ℕ × List ℕ)) → with_front [] read ≡ read
with_front_nil None = refl
with_front_nil (Some x) = refl

pub with_front_push : (front : List ℕ) (b : ℕ) (read : Option (List ℕ × List ℕ)) → with_front (front ++ b ∷ []) read ≡ with_front front (with_first b read)
with_front_push front b None = refl
with_front_push front b (Some x) = rw append_assoc refl

-- ---- literals, and either

pub literal_head_lawful : {After : List ℕ → Type 0} → Lawful After literal_head
literal_head_lawful =
    ended_lawful (octet_lawful 123) (λ u.
    then_lawful (number_lawful _ _) (λ n.
    then_lawful (flag_lawful 43) (λ plus.
    ended_lawful (octet_lawful 125) (λ v.
    ended_lawful crlf_lawful (λ w. give_lawful _)))
    (λ plus. octet_then_follows _ 125 (λ rest. refl)))
    (λ n. then_follows (flag_follows 43 (λ rest. refl)) (λ plus. octet_then_follows _ 125 (λ rest. refl))))

pub literal_head_opens : Opens (λ b. eqb b 123) literal_head
literal_head_opens = then_opens _ (octet_opens _ 123 refl)

pub literal_lawful : {After : List ℕ → Type 0} → Lawful After literal
literal_lawful = ended_lawful literal_head_lawful (λ n. ended_lawful (counted_lawful n) (λ octets. when_lawful _ _))

unfoldable pub begins_string : ℕ → Bool
begins_string b = eqb b 34 || eqb b 123

pub string_lawful : {After : List ℕ → Type 0} → Lawful After string
unfolding string
string_lawful = or_apart quoted_lawful literal_lawful (then_opens _ literal_head_opens) (λ b rest h. let k : b ≡ 123 = eqb-true b 123 h in rw k refl)

pub string_opens : Opens begins_string string
unfolding string begins_string
string_opens = or_opens (then_opens _ (octet_opens _ 34 refl)) (then_opens _ (then_opens _ (octet_opens _ 123 refl)))

begins_string-other : (b : ℕ) → begins_string b ≡ true → is_astring_char b ≡ false
unfolding begins_string
begins_string-other b h = grind (arith, nat_tests)

pub astring_lawful : Lawful (StopsAt is_astring_char) astring
unfolding astring
astring_lawful =
    or_apart (some_of_lawful is_astring_char) string_lawful string_opens
    (λ b rest h. let k : is_astring_char b ≡ false = begins_string-other b h in rw k refl)

-- ---- what strings begin with

pub begins_astring : ℕ → Bool
begins_astring b = is_astring_char b || begins_string b

pub no_astring : begins_astring 40 ≡ false
unfolding begins_astring begins_string
no_astring = refl

astring_char_begins : (b : ℕ) → is_astring_char b ≡ true → begins_astring b ≡ true
unfolding begins_astring
astring_char_begins b h = rw h refl

string_begins : (b : ℕ) → begins_string b ≡ true → begins_astring b ≡ true
unfolding begins_astring
string_begins b h = by (is_astring_char b)
  where
    by : (v : Bool) → (v || begins_string b) ≡ true
    by true = refl
    by false = h

pub astring_opens : Opens begins_astring astring
unfolding astring
astring_opens = or_opens (opens_weaker astring_char_begins (some_of_opens is_astring_char)) (opens_weaker string_begins string_opens)
