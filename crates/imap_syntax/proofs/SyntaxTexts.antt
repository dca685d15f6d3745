-- Strings, numbers, sets, flags and dates are spelt as texts of lines and literals.
use Rattle.std.proofs.Common.{◌≡◌, ◌≢◌, ℕ, Bool, true, false, List, [], ◌∷◌, ◌++◌, length, inl, inr, refl, sym, ap, subst, ◌∙◌, arith}
use Rattle.std.specs.Char.{is_ascii_digit}
use Rattle.std.specs.List.{list_all}
use Rattle.std.proofs.lemmas.Bool.Decides.{nat_tests}
use Rattle.std.proofs.lemmas.List.{append-nil}
use Rattle.imap_lex.specs.Mark.{closing, decimal_from}
use Rattle.imap_syntax.specs.Rule.{Rule, ◌>>=◌, flag, some_of, ConsistsOf}
use Rattle.imap_syntax.specs.Lexical.{space, is_astring_char, is_atom_char, is_word_char, is_quoted_special, is_text_char, IsQuoted, IsQuotedChar, quoted_end, quoted, number, nz_number, literal_head, literal, crlf, string, astring}
use Rattle.imap_syntax.specs.Sets.{seq_number, range_from, seq_range, seq_set, message_set}
use Rattle.imap_syntax.specs.Flags.{message_flag}
use Rattle.imap_syntax.specs.Dates.{digits_of, date_behind_day, date_text, date_behind, date, day_behind, below, west_behind, zone, date_time_text, date_time_end}
use Rattle.imap_syntax.specs.declared.set.SeqNumber.{SeqNumber}
use Rattle.imap_syntax.proofs.Tables.{month_table}
use Rattle.imap_syntax.proofs.Writing.{both}
use Rattle.imap_syntax.proofs.Lined.{is_line_octet, is_safe, astring_safe, atom_safe}
use Rattle.imap_syntax.proofs.Texts.{IsText, head_text, part_text, literal_text, quoted_part, Texts, give_texts, when_texts, octet_texts, flag_texts, then_texts, or_texts, some_of_texts, keyword_texts, separated_texts}

digit_safe : (b : ℕ) → is_ascii_digit b ≡ true → is_safe b ≡ true
digit_safe b h = grind (arith, nat_tests)

word_safe : (b : ℕ) → is_word_char b ≡ true → is_safe b ≡ true
word_safe b h = grind (arith, nat_tests)

pub space_texts : Texts space
space_texts = octet_texts 32 refl

pub digits_texts : Texts (some_of is_ascii_digit)
digits_texts = some_of_texts is_ascii_digit digit_safe

pub atom_texts : Texts (some_of is_atom_char)
atom_texts = some_of_texts is_atom_char atom_safe

pub number_texts : (low high : ℕ) → Texts (number low high)
number_texts low high = then_texts digits_texts (λ digits. when_texts _ _)

pub nz_number_texts : (high : ℕ) → Texts (nz_number high)
nz_number_texts high = then_texts digits_texts (λ digits. when_texts _ _)

-- ---- strings

text_char_in_line : (b : ℕ) → is_text_char b ≡ true → is_line_octet b ≡ true
text_char_in_line b h = grind (arith, nat_tests)

special_in_line : (b : ℕ) → is_quoted_special b ≡ true → is_line_octet b ≡ true
special_in_line b h = grind (arith, nat_tests)

abbrev IsInner : List ℕ → Type 0
IsInner octets = (inner : List ℕ) × (list_all is_line_octet inner ≡ true) × (octets ≡ inner ++ 34 ∷ [])

with_char : (b : ℕ) (more octets : List ℕ) → IsInner more → IsQuotedChar b more octets → IsInner octets
with_char b more octets h (inl plain) = (b ∷ h.0, both (is_line_octet b) (list_all is_line_octet h.0) (text_char_in_line b plain.0) h.1, plain.1 ∙ ap (λ (t : List ℕ). b ∷ t) h.2)
with_char b more octets h (inr special) = (92 ∷ b ∷ h.0, both true _ refl (both (is_line_octet b) (list_all is_line_octet h.0) (special_in_line b special.0) h.1), special.1 ∙ ap (λ (t : List ℕ). 92 ∷ b ∷ t) h.2)

quoted_is : (value octets : List ℕ) → IsQuoted value octets → IsInner octets
quoted_is [] octets h = ([], refl, h)
quoted_is (b ∷ value) octets h = with_char b h.0 octets (quoted_is value h.0 h.1) h.2

pub quoted_end_texts : Texts quoted_end
quoted_end_texts = record { text = λ value octets h. let q = quoted_is value octets h in subst IsText (sym q.2) (part_text (q.0 ++ 34 ∷ []) (quoted_part q.0 q.1)) }

pub quoted_texts : Texts quoted
quoted_texts = then_texts (octet_texts 34 refl) (λ u. quoted_end_texts)

-- the mark of a literal, and CRLF
pub record IsHead (n : ℕ) (octets : List ℕ) : Type 0 where
  pub digits : List ℕ
  pub waits : Bool
  pub chars : ConsistsOf is_ascii_digit digits
  pub some : digits ≢ []
  pub value : decimal_from 0 digits ≡ n
  pub whole : octets ≡ head_text digits waits

-- digits, + or nothing, and the rest
plus_is : (plus : Bool) (octets : List ℕ) → (flag 43).spells plus octets → (waits : Bool) × (octets ++ 125 ∷ 13 ∷ 10 ∷ [] ≡ closing waits)
plus_is true octets h = (false, ap (λ (t : List ℕ). t ++ 125 ∷ 13 ∷ 10 ∷ []) h)
plus_is false octets h = (true, ap (λ (t : List ℕ). t ++ 125 ∷ 13 ∷ 10 ∷ []) h)

crlf_is : (u : Unit {0}) (octets : List ℕ) → crlf.spells u octets → octets ≡ 13 ∷ 10 ∷ []
crlf_is u octets h = h.5 ∙ rw (h.3, h.4) refl

head_is : (n : ℕ) (octets : List ℕ) → literal_head.spells n octets → IsHead n octets
head_is n octets h =
    let numbered = h.4 in
    let numeral = numbered.3 in
    let digits = numeral.3 in
    let plus = numbered.4 in
    let brace = plus.4 in
    let ended = brace.4 in
    let mark = plus_is plus.0 plus.1 plus.3 in
    let size : decimal_from 0 numeral.0 ≡ n = sym numeral.4.1 ∙ sym ended.4.0 in
    let chars : ConsistsOf is_ascii_digit numeral.0 = subst (ConsistsOf is_ascii_digit) digits.0 digits.1 in
    let numeral_is : numbered.1 ≡ numeral.0 = numeral.5 ∙ rw (digits.0, numeral.4.2) (append-nil numeral.0) in
    let end_is : ended.2 ≡ [] = ended.4.1 in
    let close_is : brace.2 ≡ 13 ∷ 10 ∷ [] = ended.5 ∙ rw (crlf_is ended.0 ended.1 ended.3, end_is) refl in
    let tail_is : numbered.2 ≡ closing mark.0 = plus.5 ∙ ap (λ (t : List ℕ). plus.1 ++ t) (brace.5 ∙ rw (brace.3, close_is) refl) ∙ mark.1 in
    record {
      digits = numeral.0;
      waits = mark.0;
      chars = chars;
      some = λ empty. digits.2 (digits.0 ∙ empty);
      value = size;
      whole = h.5 ∙ rw (h.3, numbered.5, numeral_is, tail_is) refl;
    }

-- a mark, and as many octets as it announces
pub head_then_texts : {A : Type 0} (next : ℕ → Rule A) → ((n : ℕ) (a : A) (octets : List ℕ) → (next n).spells a octets → length octets ≡ n) → Texts (literal_head >>= next)
head_then_texts next size = record {
  text = λ a octets h.
      let head = head_is h.0 h.1 h.3 in
      let counted : decimal_from 0 head.digits ≡ length h.2 = head.value ∙ sym (size h.0 a h.2 h.4) in
      let regrouped : octets ≡ head_text head.digits head.waits ++ h.2 = h.5 ∙ ap (λ (t : List ℕ). t ++ h.2) head.whole in
      subst IsText (sym regrouped) (literal_text head.digits head.waits h.2 head.chars head.some counted);
}

pub literal_texts : Texts literal
literal_texts = head_then_texts _ (λ n a octets h. ap length (h.5 ∙ rw (h.3.0, h.4.2) (append-nil h.0)) ∙ h.3.1)

pub string_texts : Texts string
unfolding string
string_texts = or_texts quoted_texts literal_texts

pub astring_texts : Texts astring
unfolding astring
astring_texts = or_texts (some_of_texts is_astring_char astring_safe) string_texts

-- ---- sets and flags

seq_number_texts : Texts seq_number
seq_number_texts = or_texts (then_texts (octet_texts 42 refl) (λ u. give_texts _)) (then_texts (nz_number_texts _) (λ n. give_texts _))

range_from_texts : (first : SeqNumber) (colon : Bool) → Texts (range_from first colon)
range_from_texts first false = give_texts _
range_from_texts first true = then_texts seq_number_texts (λ last. give_texts _)

seq_range_texts : Texts seq_range
seq_range_texts = then_texts seq_number_texts (λ first. then_texts (flag_texts 58 refl) (λ colon. range_from_texts first colon))

pub seq_set_texts : Texts seq_set
seq_set_texts = separated_texts 44 refl seq_range_texts

pub message_set_texts : Texts message_set
message_set_texts = or_texts (then_texts (octet_texts 36 refl) (λ u. give_texts _)) (then_texts seq_set_texts (λ ranges. give_texts _))

pub message_flag_texts : Texts message_flag
message_flag_texts = then_texts (flag_texts 92 refl) (λ backslash. then_texts atom_texts (λ word. give_texts _))

-- ---- dates

digits_of_texts : (least most : ℕ) → Texts (digits_of least most)
digits_of_texts least most = then_texts digits_texts (λ digits. when_texts _ _)

date_behind_day_texts : (day : ℕ) → Texts (date_behind_day day)
date_behind_day_texts day =
    then_texts (octet_texts 45 refl) (λ u. then_texts (keyword_texts month_table word_safe) (λ month. then_texts (octet_texts 45 refl) (λ v. then_texts (digits_of_texts 4 4) (λ year. when_texts _ _))))

date_text_texts : Texts date_text
date_text_texts = then_texts (digits_of_texts 1 2) (λ day. date_behind_day_texts day)

date_behind_texts : (quote : Bool) → Texts (date_behind quote)
date_behind_texts false = date_text_texts
date_behind_texts true = then_texts date_text_texts (λ day. then_texts (octet_texts 34 refl) (λ u. give_texts _))

pub date_texts : Texts date
date_texts = then_texts (flag_texts 34 refl) (λ quote. date_behind_texts quote)

day_behind_texts : (space : Bool) → Texts (day_behind space)
day_behind_texts true = digits_of_texts 1 1
day_behind_texts false = digits_of_texts 2 2

below_texts : (limit : ℕ) → Texts (below limit)
below_texts limit = then_texts (digits_of_texts 2 2) (λ number. when_texts _ _)

west_behind_texts : (minus : Bool) → Texts (west_behind minus)
west_behind_texts true = give_texts _
west_behind_texts false = then_texts (octet_texts 43 refl) (λ u. give_texts _)

zone_texts : Texts zone
zone_texts = then_texts (flag_texts 45 refl) (λ minus. then_texts (west_behind_texts minus) (λ west. then_texts (digits_of_texts 4 4) (λ number. when_texts _ _)))

date_time_text_texts : Texts date_time_text
date_time_text_texts =
    then_texts (then_texts (flag_texts 32 refl) (λ space. day_behind_texts space)) (λ day.
    then_texts (date_behind_day_texts day) (λ d.
    then_texts (octet_texts 32 refl) (λ u.
    then_texts (below_texts 24) (λ hour.
    then_texts (octet_texts 58 refl) (λ v.
    then_texts (below_texts 60) (λ minute.
    then_texts (octet_texts 58 refl) (λ w.
    then_texts (below_texts 60) (λ second.
    then_texts (octet_texts 32 refl) (λ x.
    then_texts zone_texts (λ from_utc. give_texts _))))))))))

pub date_time_end_texts : Texts date_time_end
date_time_end_texts = then_texts date_time_text_texts (λ t. then_texts (octet_texts 34 refl) (λ y. give_texts _))
