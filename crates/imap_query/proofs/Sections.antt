-- The laws of sections.
use Rattle.std.proofs.Common.{◌≡◌, ℕ, Bool, true, false, not, eqb, ◌==◌, List, refl, arith}
use Rattle.std.specs.Char.{is_ascii_digit, is_ascii_alphabetic}
use Rattle.std.proofs.lemmas.Bool.Decides.{nat_tests}
use Rattle.imap_query.specs.declared.fetch.Section.{Section}
use Rattle.imap_query.specs.declared.fetch_word.SectionWord.{SectionWord}
use Rattle.imap_query.specs.declared.fetch_word.SectionWord.TheVariants as part
use Rattle.imap_query.specs.declared.fetch_word.TheConstants.{SECTION_WORDS}
use Rattle.imap_syntax.specs.Rule.{give, ◌>>=◌, ◌>>◌, octet, keyword, listed}
use Rattle.imap_syntax.specs.First.{begins}
use Rattle.imap_syntax.specs.Lexical.{is_astring_char}
use Rattle.imap_query.specs.FetchWords.{section_name, is_section_char}
use Rattle.imap_query.specs.Sections.{partial_behind, partial, field_name, section_text, section_message, is_part_char, part_numbers, part_text, part_behind, section_part, section_end, part_item, message_item, body_section_behind, body_section, binary_behind, section_binary}
use Rattle.imap_syntax.proofs.RuleLaws.{Anything, StopsAt, Lawful, MayFollow, ended_lawful, then_lawful, then_follows, after_anything, give_lawful, give_follows, octet_lawful, octet_follows, octet_then_follows, some_of_lawful}
use Rattle.imap_syntax.proofs.Opens.{opens_weaker, Opens, then_opens, some_of_opens, opens_follows}
use Rattle.imap_syntax.proofs.Lists.{fail_lawful, fail_follows, when_lawful, when_follows, flag_then_lawful, judged_lawful, judged_follows}
use Rattle.imap_syntax.proofs.Words.{keyword_lawful, keyword_begins}
use Rattle.imap_syntax.proofs.Tables.{either_case_letter}
use Rattle.imap_query.proofs.Tables.{section_table}
use Rattle.imap_syntax.proofs.Numbers.{number_lawful, nz_number_lawful}
use Rattle.imap_syntax.proofs.Strings.{astring_lawful}
use Rattle.imap_syntax.proofs.Ends.{before, give_before, end_stops, listed_lawful}
use Rattle.imap_syntax.proofs.First.{by_first_lawful, by_first_opens}

-- a word of a section begins with a letter
section_word_opens : Opens is_ascii_alphabetic (keyword is_section_char section_name SECTION_WORDS)
section_word_opens = keyword_begins is_section_char section_name SECTION_WORDS is_ascii_alphabetic section_begins either_case_letter
  where
    section_begins : (v : SectionWord) → begins is_ascii_alphabetic (section_name v) ≡ true
    section_begins part.Header = refl
    section_begins _ = refl

-- ---- a part of the octets

abbrev NoAngle : List ℕ → Type 0
NoAngle = StopsAt (λ b. eqb b 60)

pub partial_lawful : Lawful NoAngle partial
partial_lawful =
    flag_then_lawful 60 partial_behind
    (then_lawful (number_lawful _ _) (λ o. ended_lawful (octet_lawful 46) (λ u. then_lawful (nz_number_lawful _) (λ c. ended_lawful (octet_lawful 62) (λ v. give_lawful _)) (λ c. octet_then_follows _ 62 (λ rest. refl)))) (λ o. octet_then_follows _ 46 (λ rest. refl)))
    (give_lawful _)
    (give_follows _)

-- ---- texts

pub field_name_lawful : Lawful (StopsAt is_astring_char) field_name
field_name_lawful = then_lawful astring_lawful (λ name. when_lawful _ _) (λ name. when_follows _ _)

names_lawful : {After : List ℕ → Type 0} (make : List (List ℕ) → Section) → Lawful After (do octet 32; names ← listed field_name; give (make names))
names_lawful make = ended_lawful (octet_lawful 32) (λ u. ended_lawful (listed_lawful (before (end_stops is_astring_char refl refl refl) field_name_lawful)) (λ names. give_lawful _))

section_text_lawful : {After : List ℕ → Type 0} (word : SectionWord) → Lawful After (section_text word)
section_text_lawful part.Header = give_lawful _
section_text_lawful part.Fields = names_lawful _
section_text_lawful part.FieldsNot = names_lawful _
section_text_lawful part.Text = give_lawful _
section_text_lawful part.Mime = fail_lawful

section_message_lawful : Lawful (StopsAt is_section_char) section_message
section_message_lawful = then_lawful (keyword_lawful section_table) section_text_lawful section_text_follows
  where
    section_text_follows : (word : SectionWord) → MayFollow (StopsAt is_section_char) (StopsAt is_section_char) (section_text word)
    section_text_follows part.Header = give_follows _
    section_text_follows part.Fields = octet_then_follows _ 32 (λ rest. refl)
    section_text_follows part.FieldsNot = octet_then_follows _ 32 (λ rest. refl)
    section_text_follows part.Text = give_follows _
    section_text_follows part.Mime = fail_follows

-- ---- parts

-- what may stand behind a part
abbrev AtBracket : List ℕ → Type 0
AtBracket rest = StopsAt is_part_char rest × StopsAt is_section_char rest

part_numbers_lawful : Lawful (StopsAt is_part_char) part_numbers
part_numbers_lawful = then_lawful (some_of_lawful is_part_char) (λ numbers. judged_lawful _) (λ numbers. judged_follows _)

part_text_lawful : {After : List ℕ → Type 0} (word : SectionWord) → Lawful After (part_text word)
part_text_lawful part.Mime = give_lawful _
part_text_lawful part.Header = ended_lawful (section_text_lawful part.Header) (λ s. give_lawful _)
part_text_lawful part.Fields = ended_lawful (section_text_lawful part.Fields) (λ s. give_lawful _)
part_text_lawful part.FieldsNot = ended_lawful (section_text_lawful part.FieldsNot) (λ s. give_lawful _)
part_text_lawful part.Text = ended_lawful (section_text_lawful part.Text) (λ s. give_lawful _)

part_text_follows : (word : SectionWord) → MayFollow (StopsAt is_section_char) AtBracket (part_text word)
part_text_follows part.Mime = give_before _ (λ rest n. n.1)
part_text_follows part.Header = then_follows (give_follows {After = StopsAt is_section_char} _) (λ s. give_before _ (λ rest n. n.1))
part_text_follows part.Fields = then_follows (octet_then_follows {After = Anything} _ 32 (λ rest. refl)) (λ s. after_anything _)
part_text_follows part.FieldsNot = then_follows (octet_then_follows {After = Anything} _ 32 (λ rest. refl)) (λ s. after_anything _)
part_text_follows part.Text = then_follows (give_follows {After = StopsAt is_section_char} _) (λ s. give_before _ (λ rest n. n.1))

part_behind_lawful : (dot : Bool) → Lawful AtBracket (part_behind dot)
part_behind_lawful false = give_lawful _
part_behind_lawful true = then_lawful (keyword_lawful section_table) part_text_lawful part_text_follows

no_part : (b : ℕ) → is_ascii_alphabetic b ≡ true → is_part_char b ≡ false
no_part b h = grind (arith, nat_tests)

part_behind_follows : (dot : Bool) → MayFollow (StopsAt is_part_char) AtBracket (part_behind dot)
part_behind_follows false = give_before _ (λ rest n. n.0)
part_behind_follows true = opens_follows (then_opens _ section_word_opens) (λ b rest h. no_part b h)

section_part_lawful : Lawful AtBracket section_part
section_part_lawful = then_lawful part_numbers_lawful part_behind_lawful part_behind_follows

-- ---- sections

section_end_lawful : (peek : Bool) (named : Section) → Lawful NoAngle (section_end peek named)
section_end_lawful peek named = then_lawful partial_lawful (λ range. give_lawful _) (λ range. give_follows _)

part_item_lawful : Lawful NoAngle part_item
part_item_lawful =
    then_lawful section_part_lawful
    (λ u. ended_lawful (octet_lawful 93) (λ v. then_lawful partial_lawful (λ range. give_lawful _) (λ range. give_follows _)))
    (λ u. octet_then_follows _ 93 (λ rest. (refl, refl)))

message_item_lawful : (peek : Bool) → Lawful NoAngle (message_item peek)
message_item_lawful peek =
    then_lawful section_message_lawful
    (λ named. ended_lawful (octet_lawful 93) (λ v. section_end_lawful peek named))
    (λ named. octet_then_follows _ 93 (λ rest. refl))

part_item_opens : Opens is_part_char part_item
part_item_opens = then_opens _ (then_opens _ (then_opens _ (some_of_opens is_part_char)))

message_item_opens : (peek : Bool) → Opens is_ascii_alphabetic (message_item peek)
message_item_opens peek = then_opens _ (then_opens _ section_word_opens)

abbrev no_bracket : ℕ → Bool
no_bracket b = not (b == 93)

part_no_bracket : (b : ℕ) → is_part_char b ≡ true → no_bracket b ≡ true
part_no_bracket b h = grind (arith, nat_tests)

letter_no_bracket : (b : ℕ) → is_ascii_alphabetic b ≡ true → no_bracket b ≡ true
letter_no_bracket b h = grind (arith, nat_tests)

not_true : (b : Bool) → not b ≡ true → b ≡ false
not_true true h = absurd cc
not_true false h = refl

pub body_section_lawful : (peek : Bool) → Lawful NoAngle (body_section peek)
body_section_lawful peek =
    flag_then_lawful 93 (body_section_behind peek)
    (section_end_lawful peek _)
    (by_first_lawful is_ascii_digit part_item_lawful (message_item_lawful peek) part_item_opens (message_item_opens peek))
    (opens_follows (by_first_opens is_ascii_digit (opens_weaker part_no_bracket part_item_opens) (opens_weaker letter_no_bracket (message_item_opens peek))) (λ b rest h. not_true _ h))

pub section_binary_lawful : {After : List ℕ → Type 0} → Lawful After section_binary
section_binary_lawful =
    ended_lawful (octet_lawful 91) (λ u.
    flag_then_lawful 93 binary_behind
    (give_lawful _)
    (then_lawful part_numbers_lawful
    (λ dot. ended_lawful (when_lawful _ _) (λ v. octet_lawful 93))
    (λ dot. then_follows (when_follows _ _) (λ v. octet_follows 93 (λ rest. refl))))
    (opens_follows (then_opens _ (then_opens _ (some_of_opens is_part_char))) (λ b rest h. not_true _ (part_no_bracket b h))))
