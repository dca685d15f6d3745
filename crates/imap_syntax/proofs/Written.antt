-- Strings, sets and flags are written as they are spelt.
use Rattle.std.proofs.Common.{◌≡◌, ℕ, ◌+◌, ◌-◌, ◌*◌, ◌<◌, ◌^◌, Bool, true, false, cond, not, ◌&&◌, ◌||◌, eqb, ltb, List, [], ◌∷◌, ◌++◌, length, Option, Some, None, get_or, flat_map, refl, sym, ap, subst, ◌∙◌, append_assoc, arith, inl, inr}
use Rattle.std.specs.Fmt.{decimal as decimal_text}
use Rattle.std.specs.Prelude.{find, is_none}
use Rattle.std.specs.Char.{is_ascii_digit}
use Rattle.std.specs.List.{list_any}
use Rattle.std.specs.Str.{str_eq_ignore_ascii_case}
use Rattle.std.proofs.lemmas.Fmt.{first_decimal}
use Rattle.std.proofs.lemmas.Bool.{eqb-true}
use Rattle.std.proofs.lemmas.Bool.Decides.{nat_tests}
use Rattle.std.proofs.lemmas.List.{append-nil}
use Rattle.imap_syntax.specs.Rule.{ConsistsOf, ◌<|>◌, ◌>>=◌, give, when, octet, counted}
use Rattle.imap_syntax.specs.Lexical as lexical
use Rattle.imap_syntax.specs.Lexical.{decimal, begins_with_zero, is_astring_char, is_atom_char, is_text_char, is_quoted_special, has_nul, IsQuoted, IsQuotedChar}
use Rattle.imap_syntax.specs.declared.set.SeqNumber.{SeqNumber}
use Rattle.imap_syntax.specs.declared.set.SeqNumber.TheVariants as seq
use Rattle.imap_syntax.specs.declared.set.SeqRange.{SeqRange}
use Rattle.imap_syntax.specs.declared.set.MessageSet.{MessageSet}
use Rattle.imap_syntax.specs.declared.set.MessageSet.TheVariants as messages
use Rattle.imap_syntax.specs.declared.flag.Flag.{Flag}
use Rattle.imap_syntax.specs.declared.flag.Flag.TheVariants as flag
use Rattle.imap_syntax.specs.declared.system_flag.SystemFlag.{SystemFlag}
use Rattle.imap_syntax.specs.declared.system_flag.SystemFlag.TheVariants as system
use Rattle.imap_syntax.specs.Sets as sets
use Rattle.imap_syntax.specs.declared.system_flag.TheConstants.{SYSTEM_FLAGS}
use Rattle.imap_syntax.specs.Flags as flags
use Rattle.imap_syntax.specs.Flags.{system_flag, known_or, flag_of}
use Rattle.imap_syntax.specs.Flags.{flag_name}
use Rattle.imap_syntax.specs.Writing.{number, some_of}
use Rattle.imap_syntax.specs.Rule as rule
use Rattle.imap_syntax.specs.Written.{is_unquotable, is_quotable, is_written_quoted, escaped, quoted_text, literal_text, quoted, string, bare_or_string, astring, atom, is_same, number_fits, number_text, seq_range, seq_set, message_set, set_fits, set_text, mod_sequence, number64, is_other, flag_fits, flag_text, message_flag}
use Rattle.imap_syntax.proofs.Numbers.{decimal_grows}
use Rattle.imap_syntax.proofs.Writing.{Writes, both_true, digits_made, number_made, number_value, number_writes, some_of_writes, separated_writes}

-- ---- quoted strings

neither : (a b : Bool) → not (a || b) ≡ true → (a ≡ false) × (not b ≡ true)
neither true b h = absurd cc
neither false b h = (refl, h)

quoted_char : (b : ℕ) (more : List ℕ) (v : Bool) → is_quoted_special b ≡ v → is_unquotable b ≡ false → IsQuotedChar b more (cond v (92 ∷ b ∷ []) (b ∷ []) ++ more)
quoted_char b more true e h = inr (e, refl)
quoted_char b more false e h = let plain : is_text_char b ≡ true = rw (e) (grind (arith, nat_tests)) in inl (plain, refl)

quoted_made : (octets : List ℕ) → is_quotable octets ≡ true → IsQuoted octets (flat_map escaped octets ++ 34 ∷ [])
quoted_made [] h = refl
quoted_made (b ∷ octets) h =
    let q = neither (is_unquotable b) (list_any is_unquotable octets) h in
    let more = flat_map escaped octets ++ 34 ∷ [] in
    (more, quoted_made octets q.1, subst (IsQuotedChar b more) (sym (append_assoc (escaped b) (flat_map escaped octets) (34 ∷ []))) (quoted_char b more (is_quoted_special b) refl q.0))

char_quotable : (b : ℕ) (more text : List ℕ) → IsQuotedChar b more text → is_unquotable b ≡ false
char_quotable b more text (inl plain) = grind (arith, nat_tests)
char_quotable b more text (inr special) = grind (arith, nat_tests)

quoted_fits : (octets text : List ℕ) → IsQuoted octets text → is_quotable octets ≡ true
quoted_fits [] text h = refl
quoted_fits (b ∷ octets) text h = rw (char_quotable b h.0 text h.2) (quoted_fits octets h.0 h.1)

-- ---- literals

pub literal_head_made : (n : ℕ) → n < 2 ^ 64 → lexical.literal_head.spells n (123 ∷ (decimal_text n ++ 125 ∷ 13 ∷ 10 ∷ []))
literal_head_made n lt =
    let digits = decimal_text n in
    let fits : (not (ltb n 0) && not (ltb 18446744073709551615 n)) ≡ true = grind (arith, nat_tests) in
    let end : (lexical.crlf >>= λ u. give n).spells n (13 ∷ 10 ∷ []) = (tt, 13 ∷ 10 ∷ [], [], (tt, 13 ∷ [], 10 ∷ [], refl, refl, refl), (refl, refl), refl) in
    let brace : (octet 125 >>= λ u. lexical.crlf >>= λ v. give n).spells n (125 ∷ 13 ∷ 10 ∷ []) = (tt, 125 ∷ [], 13 ∷ 10 ∷ [], refl, end, refl) in
    (tt, 123 ∷ [], digits ++ 125 ∷ 13 ∷ 10 ∷ [], refl, (n, digits, 125 ∷ 13 ∷ 10 ∷ [], number_made 0 18446744073709551615 n (omega arith) fits, (false, [], 125 ∷ 13 ∷ 10 ∷ [], refl, brace, refl), refl), refl)

literal_made : (octets : List ℕ) → not (has_nul octets) ≡ true → length octets < 2 ^ 64 → lexical.literal.spells octets (literal_text octets)
literal_made octets nul short =
    let n = length octets in
    let head = 123 ∷ (decimal_text n ++ 125 ∷ 13 ∷ 10 ∷ []) in
    let body : (counted n >>= λ o. when (not (has_nul o)) o).spells octets octets = (octets, octets, [], (refl, refl), (nul, refl, refl), sym (append-nil octets)) in
    (n, head, octets, literal_head_made n short, body, refl)

-- ---- either

quotable_no_nul : (octets : List ℕ) → is_quotable octets ≡ true → not (has_nul octets) ≡ true
quotable_no_nul [] h = refl
quotable_no_nul (b ∷ octets) h =
    let q = neither (is_unquotable b) (list_any is_unquotable octets) h in
    let other : eqb b 0 ≡ false = not_nul b q.0 in
    rw other (quotable_no_nul octets q.1)
  where
    not_nul : (b : ℕ) → is_unquotable b ≡ false → eqb b 0 ≡ false
    not_nul b h = grind (arith, nat_tests)

few_enough : (n : ℕ) (short : Bool) → ((short || ltb 18446744073709551615 n) && true) ≡ false → ltb n 18446744073709551616 ≡ true
few_enough n true h = absurd cc
few_enough n false h = go (ltb 18446744073709551615 n) refl h
  where
    go : (many : Bool) → ltb 18446744073709551615 n ≡ many → (many && true) ≡ false → ltb n 18446744073709551616 ≡ true
    go true e k = absurd cc
    go false e k = grind (arith, nat_tests)

-- what is not written in quotes can be a literal
pub literal_can : (octets : List ℕ) → is_written_quoted octets ≡ false → string.fits octets ≡ true → (not (has_nul octets) ≡ true) × (ltb (length octets) 18446744073709551616 ≡ true)
literal_can octets e h = go (is_quotable octets) refl
  where
    go : (v : Bool) → is_quotable octets ≡ v → (not (has_nul octets) ≡ true) × (ltb (length octets) 18446744073709551616 ≡ true)
    go true q = (quotable_no_nul octets q, few_enough (length octets) (not (ltb 255 (length octets))) (rw q at e))
    go false q = both_true _ _ (rw q at h)

string_made : (octets : List ℕ) (v : Bool) → is_written_quoted octets ≡ v → string.fits octets ≡ true → lexical.string.spells octets (cond v (quoted_text octets) (literal_text octets))
unfolding lexical.string
string_made octets true e h = inl (tt, 34 ∷ [], flat_map escaped octets ++ 34 ∷ [], refl, quoted_made octets (both_true _ _ e).1, refl)
string_made octets false e h =
    let q = literal_can octets e h in
    let test = q.1 in
    let short : length octets < 2 ^ 64 = grind (arith, nat_tests) in
    inr (literal_made octets q.0 short)

or_right : (a b : Bool) → b ≡ true → (a || b) ≡ true
or_right true b h = refl
or_right false b h = h

within_word : (n : ℕ) → not (ltb 18446744073709551615 n) ≡ true → ltb n 18446744073709551616 ≡ true
within_word n h = grind (arith, nat_tests)

pub head_within : (n : ℕ) (text : List ℕ) → lexical.literal_head.spells n text → ltb n 18446744073709551616 ≡ true
head_within n text h =
    let digits = h.4.3 in
    let same : n ≡ decimal digits.0 = h.4.4.4.4.4.0 ∙ digits.4.1 in
    rw same (within_word (decimal digits.0) (both_true _ _ digits.4.0).1)

literal_fits : (octets text : List ℕ) → lexical.literal.spells octets text → (not (has_nul octets) && ltb (length octets) 18446744073709551616) ≡ true
literal_fits octets text h =
    let same : h.4.0 ≡ octets = sym h.4.4.1 in
    let size : length octets ≡ h.0 = ap length h.4.4.1 ∙ h.4.3.1 in
    rw (subst (λ (o : List ℕ). not (has_nul o) ≡ true) same h.4.4.0, size) (head_within h.0 h.1 h.3)

string_fits : (octets text : List ℕ) → lexical.string.spells octets text → string.fits octets ≡ true
unfolding lexical.string
string_fits octets text (inl quoted) = rw (quoted_fits octets quoted.2 quoted.4) refl
string_fits octets text (inr literal) = or_right (is_quotable octets) _ (literal_fits octets text literal)

pub string_writes : Writes lexical.string string
string_writes = record { made = λ octets h. string_made octets (is_written_quoted octets) refl h; fits = string_fits }

pub quoted_writes : Writes lexical.quoted quoted
quoted_writes = record {
  made = λ octets h. (tt, 34 ∷ [], flat_map escaped octets ++ 34 ∷ [], refl, quoted_made octets h, refl);
  fits = λ octets text h. quoted_fits octets h.2 h.4;
}

-- ---- `astring` is written as a string

pub plain_quotable : (test : ℕ → Bool) → ((b : ℕ) → test b ≡ true → is_unquotable b ≡ false) → (octets : List ℕ) → ConsistsOf test octets → is_quotable octets ≡ true
plain_quotable test plain [] h = refl
plain_quotable test plain (b ∷ octets) h = rw (plain b h.0) (plain_quotable test plain octets h.1)

astring_char_plain : (b : ℕ) → is_astring_char b ≡ true → is_unquotable b ≡ false
astring_char_plain b h = grind (arith, nat_tests)

pub atom_char_plain : (b : ℕ) → is_atom_char b ≡ true → is_unquotable b ≡ false
atom_char_plain b h = astring_char_plain b (both_true (is_astring_char b) (not (eqb b 93)) h).0

pub quotable_fits : (octets : List ℕ) → is_quotable octets ≡ true → string.fits octets ≡ true
quotable_fits octets h = rw h refl

module _ (test : ℕ → Bool) (plain : (b : ℕ) → test b ≡ true → is_unquotable b ≡ false) where
  bare_fits : (octets text : List ℕ) → (rule.some_of test <|> lexical.string).spells octets text → string.fits octets ≡ true
  bare_fits octets text (inl bare) = quotable_fits octets (plain_quotable test plain octets (subst (ConsistsOf test) bare.0 bare.1))
  bare_fits octets text (inr other) = string_fits octets text other

  bare_made : (octets : List ℕ) → string.fits octets ≡ true → (v : Bool) → (some_of test).fits octets ≡ v → (rule.some_of test <|> lexical.string).spells octets (cond v octets (string.text octets))
  bare_made octets h true e = inl ((some_of_writes test).made octets e)
  bare_made octets h false e = inr (string_writes.made octets h)

  -- octets of a class that are written bare, or a string
  pub bare_or_string_writes : Writes (rule.some_of test <|> lexical.string) (bare_or_string test)
  bare_or_string_writes = record { made = λ octets h. bare_made octets h ((some_of test).fits octets) refl; fits = bare_fits }

pub astring_writes : Writes lexical.astring astring
unfolding lexical.astring
astring_writes = bare_or_string_writes is_astring_char astring_char_plain

-- ---- sets

not_zero_first : (digits : List ℕ) → 48 < get_or digits 0 0 → begins_with_zero digits ≡ false
not_zero_first [] lt = refl
not_zero_first (d ∷ digits) lt = grind (arith, nat_tests)

nz_number_made : (high n : ℕ) → high < 2 ^ 64 → (number 1 high).fits n ≡ true → (lexical.nz_number high).spells n (decimal_text n)
nz_number_made high n bound h =
    let positive : 0 < n = grind (arith, nat_tests) in
    let lt : n < 2 ^ 64 = grind (arith, nat_tests) in
    let value = number_value n lt in
    let first : begins_with_zero (decimal_text n) ≡ false = not_zero_first (decimal_text n) (first_decimal n positive lt) in
    let test : (not (begins_with_zero (decimal_text n)) && not (ltb high n)) ≡ true = rw first (grind (arith, nat_tests)) in
    (decimal_text n, decimal_text n, [], digits_made n lt, (rw value test, sym value, refl), sym (append-nil (decimal_text n)))

positive_value : (digits : List ℕ) → ConsistsOf is_ascii_digit digits → (digits ≡ [] → ⊥) → not (begins_with_zero digits) ≡ true → 0 < decimal digits
positive_value [] h some z = absurd (some refl)
positive_value (d ∷ digits) h some z = let above : 48 < d = above_zero d h.0 z in omega (arith, decimal_grows (10 * 0 + (d - 48)) digits)
  where
    above_zero : (d : ℕ) → is_ascii_digit d ≡ true → not (eqb d 48) ≡ true → 48 < d
    above_zero d h z = grind (arith, nat_tests)

pub nz_number_fits : (high n : ℕ) (text : List ℕ) → (lexical.nz_number high).spells n text → (number 1 high).fits n ≡ true
nz_number_fits high n text h =
    let q = both_true (not (begins_with_zero h.0)) (not (ltb high (decimal h.0))) h.4.0 in
    let positive = positive_value h.0 (subst (ConsistsOf is_ascii_digit) h.3.0 h.3.1) (λ e. h.3.2 (h.3.0 ∙ e)) q.0 in
    rw (h.4.1) (within high (decimal h.0) positive q.1)
  where
    within : (high n : ℕ) → 0 < n → not (ltb high n) ≡ true → (not (ltb n 1) && not (ltb high n)) ≡ true
    within high n some top = grind (arith, nat_tests)

pub nz_number_writes : (high : ℕ) → high < 2 ^ 64 → Writes (lexical.nz_number high) (number 1 high)
nz_number_writes high bound = record { made = λ n h. nz_number_made high n bound h; fits = λ n text h. nz_number_fits high n text h }

pub mod_sequence_writes : Writes (lexical.number 1 9223372036854775807) mod_sequence
mod_sequence_writes = number_writes 1 9223372036854775807 (omega arith)

pub number64_writes : Writes (lexical.number 0 9223372036854775807) number64
number64_writes = number_writes 0 9223372036854775807 (omega arith)

seq_number_made : (n : SeqNumber) → number_fits n ≡ true → sets.seq_number.spells n (number_text n)
seq_number_made seq.Last h = inl (tt, 42 ∷ [], [], refl, (refl, refl), refl)
seq_number_made (seq.Number n) h = inr (n, decimal_text n, [], nz_number_made 4294967295 n (omega arith) h, (refl, refl), sym (append-nil (decimal_text n)))

seq_number_fits : (n : SeqNumber) (text : List ℕ) → sets.seq_number.spells n text → number_fits n ≡ true
seq_number_fits n text (inl h) = rw (h.4.0) refl
seq_number_fits n text (inr h) = rw (h.4.0) (nz_number_fits 4294967295 h.0 h.1 h.3)

same_number : (m n : SeqNumber) → is_same m n ≡ true → n ≡ m
same_number seq.Last seq.Last h = refl
same_number seq.Last (seq.Number n) h = absurd cc
same_number (seq.Number m) seq.Last h = absurd cc
same_number (seq.Number m) (seq.Number n) h = ap seq.Number (sym (eqb-true m n h))

range_by : (r : SeqRange) → seq_range.fits r ≡ true → (v : Bool) → is_same r.first r.last ≡ v → sets.seq_range.spells r (cond v (number_text r.first) (number_text r.first ++ 58 ∷ number_text r.last))
range_by r h true e =
    let q = both_true (number_fits r.first) (number_fits r.last) h in
    let with_last : SeqNumber → SeqRange = λ n. record { first = r.first; last = n } in
    let whole : r ≡ record { first = r.first; last = r.first } = ap with_last (same_number r.first r.last e) in
    (r.first, number_text r.first, [], seq_number_made r.first q.0, (false, [], [], refl, (whole, refl), refl), sym (append-nil (number_text r.first)))
range_by r h false e =
    let q = both_true (number_fits r.first) (number_fits r.last) h in
    let behind : (sets.range_from r.first true).spells r (number_text r.last) = (r.last, number_text r.last, [], seq_number_made r.last q.1, (refl, refl), sym (append-nil (number_text r.last))) in
    (r.first, number_text r.first, 58 ∷ number_text r.last, seq_number_made r.first q.0, (true, 58 ∷ [], number_text r.last, refl, behind, refl), refl)

range_made : (r : SeqRange) → seq_range.fits r ≡ true → sets.seq_range.spells r (seq_range.text r)
range_made r h = range_by r h (is_same r.first r.last) refl

range_fits : (first : SeqNumber) → number_fits first ≡ true → (colon : Bool) (r : SeqRange) (text : List ℕ) → (sets.range_from first colon).spells r text → seq_range.fits r ≡ true
range_fits first f false r text h = rw (h.0) (rw f refl)
range_fits first f true r text h = rw (h.4.0) (rw (f, seq_number_fits h.0 h.1 h.3) refl)

seq_range_writes : Writes sets.seq_range seq_range
seq_range_writes = record { made = range_made; fits = λ r text h. range_fits h.0 (seq_number_fits h.0 h.1 h.3) h.4.0 r h.4.2 h.4.4 }

pub seq_set_writes : Writes sets.seq_set seq_set
seq_set_writes = separated_writes 44 sets.seq_range seq_range seq_range_writes

set_made : (m : MessageSet) → set_fits m ≡ true → sets.message_set.spells m (set_text m)
set_made messages.Saved h = inl (tt, 36 ∷ [], [], refl, (refl, refl), refl)
set_made (messages.Numbers ranges) h = inr (ranges, seq_set.text ranges, [], seq_set_writes.made ranges h, (refl, refl), sym (append-nil (seq_set.text ranges)))

message_set_fits : (m : MessageSet) (text : List ℕ) → sets.message_set.spells m text → set_fits m ≡ true
message_set_fits m text (inl h) = rw (h.4.0) refl
message_set_fits m text (inr h) = rw (h.4.0) (seq_set_writes.fits h.0 h.1 h.3)

pub message_set_writes : Writes sets.message_set message_set
message_set_writes = record { made = set_made; fits = message_set_fits }

-- ---- flags

known_atom : (known : SystemFlag) → atom.fits (flag_name known) ≡ true
known_atom system.Answered = refl
known_atom system.Deleted = refl
known_atom system.Draft = refl
known_atom system.Flagged = refl
known_atom system.Seen = refl

known_is : (known : SystemFlag) → system_flag known ≡ flag_of true (flag_name known)
known_is system.Answered = refl
known_is system.Deleted = refl
known_is system.Draft = refl
known_is system.Flagged = refl
known_is system.Seen = refl

known_made : (known : SystemFlag) → flags.message_flag.spells (system_flag known) (92 ∷ flag_name known)
known_made known =
    let word = flag_name known in
    (true, 92 ∷ [], word, refl, (word, word, [], (some_of_writes is_atom_char).made word (known_atom known), (known_is known, refl), sym (append-nil word)), refl)

unknown : (o : Option SystemFlag) (word : List ℕ) → is_none o ≡ true → known_or word o ≡ flag.Other word
unknown None word h = refl
unknown (Some known) word h = absurd cc

flag_made : (f : Flag) → flag_fits f ≡ true → flags.message_flag.spells f (flag_text f)
flag_made flag.Answered h = known_made system.Answered
flag_made flag.Deleted h = known_made system.Deleted
flag_made flag.Draft h = known_made system.Draft
flag_made flag.Flagged h = known_made system.Flagged
flag_made flag.Seen h = known_made system.Seen
flag_made (flag.Other word) h =
    let q = both_true (atom.fits word) (is_other word) h in
    (true, 92 ∷ [], word, refl, (word, word, [], (some_of_writes is_atom_char).made word q.0, (sym (unknown _ word q.1), refl), sym (append-nil word)), refl)
flag_made (flag.Keyword word) h =
    (false, [], word, refl, (word, word, [], (some_of_writes is_atom_char).made word h, (refl, refl), sym (append-nil word)), refl)

known_fits : (o : Option SystemFlag) (word : List ℕ) → atom.fits word ≡ true → o ≡ find (λ known. str_eq_ignore_ascii_case word (flag_name known)) SYSTEM_FLAGS → flag_fits (known_or word o) ≡ true
known_fits None word h e = rw (h) (rw (← e) refl)
known_fits (Some system.Answered) word h e = refl
known_fits (Some system.Deleted) word h e = refl
known_fits (Some system.Draft) word h e = refl
known_fits (Some system.Flagged) word h e = refl
known_fits (Some system.Seen) word h e = refl

word_fits : (backslash : Bool) (word : List ℕ) → atom.fits word ≡ true → flag_fits (flag_of backslash word) ≡ true
word_fits true word h = known_fits _ word h refl
word_fits false word h = h

flag_fits_all : (f : Flag) (text : List ℕ) → flags.message_flag.spells f text → flag_fits f ≡ true
flag_fits_all f text h = rw (h.4.4.0) (word_fits h.0 h.4.0 ((some_of_writes is_atom_char).fits h.4.0 h.4.1 h.4.3))

pub message_flag_writes : Writes flags.message_flag message_flag
message_flag_writes = record { made = flag_made; fits = flag_fits_all }
