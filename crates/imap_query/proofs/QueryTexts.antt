-- What FETCH and SEARCH ask for is spelt as texts of lines and literals.
use Rattle.std.proofs.Common.{◌≡◌, ℕ, zero, suc, Bool, true, false, List, [], codes, Option, refl, sym, subst, arith}
use Rattle.std.specs.Char.{is_ascii_alphabetic}
use Rattle.std.proofs.lemmas.Bool.Decides.{nat_tests}
use Rattle.imap_syntax.specs.Rule.{Rule, ConsistsOf}
use Rattle.imap_syntax.specs.Lexical.{is_word_char}
use Rattle.imap_syntax.proofs.Lined.{is_safe, astring_safe}
use Rattle.imap_syntax.proofs.Words.{same_bytes, passes_alike}
use Rattle.imap_syntax.proofs.Tables.{either_case_letter, consists_from}
use Rattle.imap_query.proofs.Tables.{fetch_table, section_table, modifier_table, search_return_table, search_table, entry_type_table, status_table}
use Rattle.imap_query.specs.declared.fetch_word.FetchWord.{FetchWord}
use Rattle.imap_query.specs.declared.fetch_word.FetchWord.TheVariants as fetch_word_of
use Rattle.imap_query.specs.declared.fetch_word.SectionWord.{SectionWord}
use Rattle.imap_query.specs.declared.fetch_word.SectionWord.TheVariants as part
use Rattle.imap_query.specs.declared.fetch_word.ModifierWord.{ModifierWord}
use Rattle.imap_query.specs.declared.fetch_word.ModifierWord.TheVariants as given
use Rattle.imap_query.specs.declared.fetch_word.Modifier.{Modifier}
use Rattle.imap_query.specs.declared.fetch.Section.{Section}
use Rattle.imap_query.specs.declared.search.SearchReturn.{SearchReturn}
use Rattle.imap_query.specs.declared.search.SearchIn.{SearchIn}
use Rattle.imap_query.specs.declared.search.SearchDate.{SearchDate}
use Rattle.imap_query.specs.declared.search_word.SearchWord.{SearchWord}
use Rattle.imap_query.specs.declared.search_word.SearchWord.TheVariants as word
use Rattle.imap_query.specs.FetchWords.{is_section_char}
use Rattle.imap_query.specs.Status.{status_item}
use Rattle.imap_query.specs.Sections.{partial_behind, partial, field_name, section_text, section_message, is_part_char, part_text, part_behind, part_numbers, section_part, section_end, part_item, message_item, body_section_behind, body_section, binary_behind, section_binary}
use Rattle.imap_query.specs.Fetch.{body_behind, item_behind, fetch_word, fetch_item, single, is_fast, is_unserved, items_behind, fetch_items, modifier_behind, modifier, another_behind, modifiers_behind, modifiers}
use Rattle.imap_query.specs.Search.{text_key, date_key, sent_key, header_key, keyword_key, size, entry_behind, mod_seq_key, plain_behind}
use Rattle.imap_query.specs.Searching.{is_not, is_or, key_behind, key_over, key, IsWordFlag, word_flag, returns_behind, charset_behind, search_keys, search}
use Rattle.imap_query.specs.Keys.{Key, Token}
use Rattle.imap_syntax.proofs.Texts.{IsText, Texts, part_text as part_is_text, consists_part, give_texts, when_texts, fail_texts, judged_texts, octet_texts, flag_texts, then_texts, or_texts, by_first_texts, cond_texts, some_of_texts, keyword_texts, separated_texts, listed_texts, listed_or_none_texts}
use Rattle.imap_syntax.proofs.SyntaxTexts.{space_texts, atom_texts, number_texts, nz_number_texts, quoted_end_texts, quoted_texts, astring_texts, message_set_texts, date_texts}

letter_safe : (b : ℕ) → is_ascii_alphabetic b ≡ true → is_safe b ≡ true
letter_safe b h = grind (arith, nat_tests)

word_safe : (b : ℕ) → is_word_char b ≡ true → is_safe b ≡ true
word_safe b h = grind (arith, nat_tests)

section_safe : (b : ℕ) → is_section_char b ≡ true → is_safe b ≡ true
section_safe b h = grind (arith, nat_tests)

part_safe : (b : ℕ) → is_part_char b ≡ true → is_safe b ≡ true
part_safe b h = grind (arith, nat_tests)

-- ---- sections

partial_behind_texts : (angle : Bool) → Texts (partial_behind angle)
partial_behind_texts false = give_texts _
partial_behind_texts true =
    then_texts (number_texts _ _) (λ offset. then_texts (octet_texts 46 refl) (λ u. then_texts (nz_number_texts _) (λ count. then_texts (octet_texts 62 refl) (λ v. give_texts _))))

partial_texts : Texts partial
partial_texts = then_texts (flag_texts 60 refl) (λ angle. partial_behind_texts angle)

field_name_texts : Texts field_name
field_name_texts = then_texts astring_texts (λ name. when_texts _ _)

section_text_texts : (w : SectionWord) → Texts (section_text w)
section_text_texts part.Header = give_texts _
section_text_texts part.Fields = then_texts space_texts (λ u. then_texts (listed_texts field_name_texts) (λ names. give_texts _))
section_text_texts part.FieldsNot = then_texts space_texts (λ u. then_texts (listed_texts field_name_texts) (λ names. give_texts _))
section_text_texts part.Text = give_texts _
section_text_texts part.Mime = fail_texts

section_message_texts : Texts section_message
section_message_texts = then_texts (keyword_texts section_table section_safe) section_text_texts

part_text_texts : (w : SectionWord) → Texts (part_text w)
part_text_texts part.Mime = give_texts _
part_text_texts part.Header = then_texts (section_text_texts part.Header) (λ s. give_texts _)
part_text_texts part.Fields = then_texts (section_text_texts part.Fields) (λ s. give_texts _)
part_text_texts part.FieldsNot = then_texts (section_text_texts part.FieldsNot) (λ s. give_texts _)
part_text_texts part.Text = then_texts (section_text_texts part.Text) (λ s. give_texts _)

part_behind_texts : (dot : Bool) → Texts (part_behind dot)
part_behind_texts false = give_texts _
part_behind_texts true = then_texts (keyword_texts section_table section_safe) part_text_texts

part_numbers_texts : Texts part_numbers
part_numbers_texts = then_texts (some_of_texts is_part_char part_safe) (λ numbers. judged_texts _)

section_part_texts : Texts section_part
section_part_texts = then_texts part_numbers_texts part_behind_texts

section_end_texts : (peek : Bool) (s : Section) → Texts (section_end peek s)
section_end_texts peek s = then_texts partial_texts (λ range. give_texts _)

part_item_texts : Texts part_item
part_item_texts = then_texts section_part_texts (λ u. then_texts (octet_texts 93 refl) (λ v. then_texts partial_texts (λ range. give_texts _)))

message_item_texts : (peek : Bool) → Texts (message_item peek)
message_item_texts peek = then_texts section_message_texts (λ named. then_texts (octet_texts 93 refl) (λ u. section_end_texts peek named))

body_section_behind_texts : (peek empty : Bool) → Texts (body_section_behind peek empty)
body_section_behind_texts peek true = section_end_texts peek _
body_section_behind_texts peek false = by_first_texts part_item_texts (message_item_texts peek)

body_section_texts : (peek : Bool) → Texts (body_section peek)
body_section_texts peek = then_texts (flag_texts 93 refl) (λ empty. body_section_behind_texts peek empty)

binary_behind_texts : (empty : Bool) → Texts (binary_behind empty)
binary_behind_texts true = give_texts _
binary_behind_texts false = then_texts part_numbers_texts (λ dot. then_texts (when_texts _ _) (λ u. octet_texts 93 refl))

section_binary_texts : Texts section_binary
section_binary_texts = then_texts (octet_texts 91 refl) (λ u. then_texts (flag_texts 93 refl) (λ empty. binary_behind_texts empty))

-- ---- FETCH

body_behind_texts : (bracket : Bool) → Texts (body_behind bracket)
body_behind_texts false = give_texts _
body_behind_texts true = body_section_texts false

item_behind_texts : (w : FetchWord) → Texts (item_behind w)
item_behind_texts fetch_word_of.All = fail_texts
item_behind_texts fetch_word_of.Binary = then_texts section_binary_texts (λ u. then_texts partial_texts (λ range. give_texts _))
item_behind_texts fetch_word_of.BinaryPeek = then_texts section_binary_texts (λ u. then_texts partial_texts (λ range. give_texts _))
item_behind_texts fetch_word_of.BinarySize = then_texts section_binary_texts (λ u. give_texts _)
item_behind_texts fetch_word_of.Body = then_texts (flag_texts 91 refl) (λ bracket. body_behind_texts bracket)
item_behind_texts fetch_word_of.BodyPeek = then_texts (octet_texts 91 refl) (λ u. body_section_texts true)
item_behind_texts fetch_word_of.BodyStructure = give_texts _
item_behind_texts fetch_word_of.Envelope = give_texts _
item_behind_texts fetch_word_of.Fast = fail_texts
item_behind_texts fetch_word_of.Flags = give_texts _
item_behind_texts fetch_word_of.Full = fail_texts
item_behind_texts fetch_word_of.InternalDate = give_texts _
item_behind_texts fetch_word_of.ModSeq = give_texts _
item_behind_texts fetch_word_of.Rfc822Size = give_texts _
item_behind_texts fetch_word_of.Uid = give_texts _

fetch_word_texts : Texts fetch_word
fetch_word_texts = keyword_texts fetch_table word_safe

fetch_item_texts : Texts fetch_item
fetch_item_texts = then_texts fetch_word_texts item_behind_texts

single_texts : (w : FetchWord) → Texts (single w)
single_texts w = cond_texts (is_fast w) (give_texts _) (cond_texts (is_unserved w) (give_texts _) (then_texts (item_behind_texts w) (λ found. give_texts _)))

items_behind_texts : (parenthesis : Bool) → Texts (items_behind parenthesis)
items_behind_texts true = then_texts (separated_texts 32 refl fetch_item_texts) (λ items. then_texts (octet_texts 41 refl) (λ u. give_texts _))
items_behind_texts false = then_texts fetch_word_texts single_texts

pub fetch_items_texts : Texts fetch_items
fetch_items_texts = then_texts (flag_texts 40 refl) (λ parenthesis. items_behind_texts parenthesis)

modifier_behind_texts : (w : ModifierWord) → Texts (modifier_behind w)
modifier_behind_texts given.ChangedSince = then_texts space_texts (λ u. then_texts (number_texts _ _) (λ since. give_texts _))
modifier_behind_texts given.Vanished = give_texts _

modifier_texts : Texts modifier
modifier_texts = then_texts (keyword_texts modifier_table astring_safe) modifier_behind_texts

another_behind_texts : (first : Modifier) (more : Bool) → Texts (another_behind first more)
another_behind_texts first false = give_texts _
another_behind_texts first true = then_texts modifier_texts (λ second. judged_texts _)

modifiers_behind_texts : (more : Bool) → Texts (modifiers_behind more)
modifiers_behind_texts false = give_texts _
modifiers_behind_texts true =
    then_texts (octet_texts 40 refl) (λ u. then_texts modifier_texts (λ first.
    then_texts (then_texts (flag_texts 32 refl) (λ more. another_behind_texts first more)) (λ all. then_texts (octet_texts 41 refl) (λ v. give_texts _))))

pub modifiers_texts : Texts modifiers
modifiers_texts = then_texts (flag_texts 32 refl) (λ more. modifiers_behind_texts more)

pub status_item_texts : Texts status_item
status_item_texts = keyword_texts status_table astring_safe

-- ---- SEARCH

text_key_texts : (place : SearchIn) → Texts (text_key place)
text_key_texts place = then_texts space_texts (λ u. then_texts astring_texts (λ t. give_texts _))

date_key_texts : (how : SearchDate) → Texts (date_key how)
date_key_texts how = then_texts space_texts (λ u. then_texts date_texts (λ day. give_texts _))

sent_key_texts : Texts sent_key
sent_key_texts = then_texts space_texts (λ u. then_texts date_texts (λ day. give_texts _))

header_key_texts : Texts header_key
header_key_texts = then_texts space_texts (λ u. then_texts field_name_texts (λ field. then_texts space_texts (λ v. then_texts astring_texts (λ t. give_texts _))))

keyword_key_texts : (set : Bool) → Texts (keyword_key set)
keyword_key_texts set = then_texts space_texts (λ u. then_texts atom_texts (λ name. give_texts _))

size_texts : Texts size
size_texts = then_texts space_texts (λ u. number_texts _ _)

entry_behind_texts : (quote : Bool) → Texts (entry_behind quote)
entry_behind_texts false = give_texts _
entry_behind_texts true = then_texts quoted_end_texts (λ e. then_texts (when_texts _ _) (λ v. then_texts space_texts (λ u. then_texts (keyword_texts entry_type_table letter_safe) (λ kind. space_texts))))

mod_seq_key_texts : Texts mod_seq_key
mod_seq_key_texts = then_texts space_texts (λ u. then_texts (then_texts (flag_texts 34 refl) (λ quote. entry_behind_texts quote)) (λ v. then_texts (number_texts _ _) (λ least. give_texts _)))

plain_behind_texts : (w : SearchWord) → Texts (plain_behind w)
plain_behind_texts word.All = give_texts _
plain_behind_texts word.Answered = give_texts _
plain_behind_texts word.Bcc = text_key_texts _
plain_behind_texts word.Before = date_key_texts _
plain_behind_texts word.Body = text_key_texts _
plain_behind_texts word.Cc = text_key_texts _
plain_behind_texts word.Deleted = give_texts _
plain_behind_texts word.Draft = give_texts _
plain_behind_texts word.Flagged = give_texts _
plain_behind_texts word.From = text_key_texts _
plain_behind_texts word.Header = header_key_texts
plain_behind_texts word.Keyword = keyword_key_texts true
plain_behind_texts word.Larger = then_texts size_texts (λ n. give_texts _)
plain_behind_texts word.ModSeq = mod_seq_key_texts
plain_behind_texts word.Not = fail_texts
plain_behind_texts word.On = date_key_texts _
plain_behind_texts word.Or = fail_texts
plain_behind_texts word.Seen = give_texts _
plain_behind_texts word.SentBefore = sent_key_texts
plain_behind_texts word.SentOn = sent_key_texts
plain_behind_texts word.SentSince = sent_key_texts
plain_behind_texts word.Since = date_key_texts _
plain_behind_texts word.Smaller = then_texts size_texts (λ n. give_texts _)
plain_behind_texts word.Subject = text_key_texts _
plain_behind_texts word.Text = text_key_texts _
plain_behind_texts word.To = text_key_texts _
plain_behind_texts word.Uid = then_texts space_texts (λ u. then_texts message_set_texts (λ messages. give_texts _))
plain_behind_texts word.Unanswered = give_texts _
plain_behind_texts word.Undeleted = give_texts _
plain_behind_texts word.Undraft = give_texts _
plain_behind_texts word.Unflagged = give_texts _
plain_behind_texts word.Unkeyword = keyword_key_texts false
plain_behind_texts word.Unseen = give_texts _

key_behind_texts : {inner : Rule Key} → Texts inner → (w : SearchWord) → Texts (key_behind inner w)
key_behind_texts law w =
    cond_texts (is_not w) (then_texts space_texts (λ u. then_texts law (λ k. give_texts _)))
    (cond_texts (is_or w) (then_texts space_texts (λ u. then_texts law (λ left. then_texts space_texts (λ v. then_texts law (λ right. give_texts _)))))
    (then_texts (plain_behind_texts w) (λ k. give_texts _)))

key_over_texts : {inner : Rule Key} → Texts inner → Texts (key_over inner)
key_over_texts law =
    by_first_texts (then_texts (octet_texts 40 refl) (λ u. then_texts (separated_texts 32 refl law) (λ keys. then_texts (octet_texts 41 refl) (λ v. give_texts _))))
    (by_first_texts (then_texts message_set_texts (λ messages. give_texts _)) (then_texts (keyword_texts search_table letter_safe) (key_behind_texts law)))

key_texts : (levels : ℕ) → Texts (key levels)
unfolding key
key_texts zero = fail_texts
key_texts (suc levels) = key_over_texts (key_texts levels)

word_flag_text : (w : List ℕ) → ConsistsOf is_ascii_alphabetic w → (found : Bool) (octets : List ℕ) → IsWordFlag w found octets → IsText octets
word_flag_text w letters true octets h =
    part_is_text octets (consists_part is_ascii_alphabetic letter_safe octets (passes_alike is_ascii_alphabetic either_case_letter octets w (same_bytes _ _ h) letters))
word_flag_text w letters false octets h = subst IsText (sym h) ((flag_texts 32 refl).text false [] refl)

word_flag_texts : (w : List ℕ) → ConsistsOf is_ascii_alphabetic w → Texts (word_flag w)
word_flag_texts w letters = record { text = word_flag_text w letters }

returns_behind_texts : (given : Bool) → Texts (returns_behind given)
returns_behind_texts false = give_texts _
returns_behind_texts true = then_texts space_texts (λ u. then_texts (listed_or_none_texts (keyword_texts search_return_table astring_safe)) (λ all. then_texts space_texts (λ v. give_texts _)))

charset_behind_texts : (given : Bool) → Texts (charset_behind given)
charset_behind_texts false = give_texts _
charset_behind_texts true = then_texts space_texts (λ u. then_texts (or_texts atom_texts quoted_texts) (λ name. then_texts space_texts (λ v. give_texts _)))

search_keys_texts : Texts search_keys
search_keys_texts = then_texts (separated_texts 32 refl (key_texts 65)) (λ keys. give_texts _)

pub search_texts : {A : Type 0} (make : List SearchReturn → Option (List ℕ) → List Token → A) → Texts (search make)
search_texts make =
    then_texts space_texts (λ u.
    then_texts (then_texts (word_flag_texts (codes "RETURN") (consists_from is_ascii_alphabetic (codes "RETURN") refl)) (λ given. returns_behind_texts given)) (λ returns.
    then_texts (then_texts (word_flag_texts (codes "CHARSET") (consists_from is_ascii_alphabetic (codes "CHARSET") refl)) (λ given. charset_behind_texts given)) (λ charset.
    then_texts search_keys_texts (λ keys. give_texts _))))
