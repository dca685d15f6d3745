-- The tables of the words of FETCH and SEARCH are such as can be read.
use Rattle.std.proofs.Common.{◌≡◌, ℕ, true, refl, arith}
use Rattle.std.specs.Char.{to_ascii_lowercase, is_ascii_alphabetic}
use Rattle.std.proofs.lemmas.Bool.Decides.{nat_tests}
use Rattle.imap_syntax.specs.Lexical.{is_astring_char, is_word_char}
use Rattle.imap_syntax.proofs.Words.{IsTable}
use Rattle.imap_syntax.proofs.Tables.{either_case_astring, either_case_word, either_case_letter, IsRow, table_from}
use Rattle.imap_query.specs.FetchWords.{fetch_name, section_name, modifier_name, is_section_char}
use Rattle.imap_query.specs.declared.fetch_word.TheConstants.{FETCH_WORDS, SECTION_WORDS, MODIFIER_WORDS}
use Rattle.imap_query.specs.declared.fetch_word.FetchWord.{FetchWord}
use Rattle.imap_query.specs.declared.fetch_word.FetchWord.TheVariants as fetch_word
use Rattle.imap_query.specs.declared.fetch_word.SectionWord.{SectionWord}
use Rattle.imap_query.specs.declared.fetch_word.SectionWord.TheVariants as section_word
use Rattle.imap_query.specs.declared.fetch_word.ModifierWord.{ModifierWord}
use Rattle.imap_query.specs.declared.fetch_word.ModifierWord.TheVariants as modifier_word
use Rattle.imap_query.specs.StatusWords.{status_name}
use Rattle.imap_query.specs.declared.status.StatusItem.{StatusItem}
use Rattle.imap_query.specs.declared.status.StatusItem.TheVariants as status
use Rattle.imap_query.specs.declared.status.TheConstants.{STATUS_ITEMS}
use Rattle.imap_query.specs.SearchWords.{search_return_name, search_name, entry_type_name}
use Rattle.imap_query.specs.declared.search.TheConstants.{SEARCH_RETURNS}
use Rattle.imap_query.specs.declared.search_word.TheConstants.{SEARCH_WORDS, ENTRY_TYPES}
use Rattle.imap_query.specs.declared.search.SearchReturn.{SearchReturn}
use Rattle.imap_query.specs.declared.search.SearchReturn.TheVariants as search_return
use Rattle.imap_query.specs.declared.search_word.SearchWord.{SearchWord}
use Rattle.imap_query.specs.declared.search_word.SearchWord.TheVariants as search_word
use Rattle.imap_query.specs.declared.search_word.EntryType.{EntryType}
use Rattle.imap_query.specs.declared.search_word.EntryType.TheVariants as entry_type

either_case_section : (a b : ℕ) → to_ascii_lowercase a ≡ to_ascii_lowercase b → is_section_char b ≡ true → is_section_char a ≡ true
either_case_section a b e h = grind (arith, nat_tests)

fetch_row : (v : FetchWord) → IsRow is_word_char fetch_name FETCH_WORDS v
fetch_row fetch_word.All = (refl, refl, refl)
fetch_row _ = (refl, refl, refl)

pub fetch_table : IsTable is_word_char fetch_name FETCH_WORDS
fetch_table = table_from fetch_row either_case_word

section_row : (v : SectionWord) → IsRow is_section_char section_name SECTION_WORDS v
section_row section_word.Fields = (refl, refl, refl)
section_row _ = (refl, refl, refl)

pub section_table : IsTable is_section_char section_name SECTION_WORDS
section_table = table_from section_row either_case_section

modifier_row : (v : ModifierWord) → IsRow is_astring_char modifier_name MODIFIER_WORDS v
modifier_row modifier_word.ChangedSince = (refl, refl, refl)
modifier_row _ = (refl, refl, refl)

pub modifier_table : IsTable is_astring_char modifier_name MODIFIER_WORDS
modifier_table = table_from modifier_row either_case_astring

search_return_row : (v : SearchReturn) → IsRow is_astring_char search_return_name SEARCH_RETURNS v
search_return_row search_return.Min = (refl, refl, refl)
search_return_row _ = (refl, refl, refl)

pub search_return_table : IsTable is_astring_char search_return_name SEARCH_RETURNS
search_return_table = table_from search_return_row either_case_astring

search_row : (v : SearchWord) → IsRow is_ascii_alphabetic search_name SEARCH_WORDS v
search_row search_word.All = (refl, refl, refl)
search_row _ = (refl, refl, refl)

pub search_table : IsTable is_ascii_alphabetic search_name SEARCH_WORDS
search_table = table_from search_row either_case_letter

entry_type_row : (v : EntryType) → IsRow is_ascii_alphabetic entry_type_name ENTRY_TYPES v
entry_type_row entry_type.All = (refl, refl, refl)
entry_type_row _ = (refl, refl, refl)

pub entry_type_table : IsTable is_ascii_alphabetic entry_type_name ENTRY_TYPES
entry_type_table = table_from entry_type_row either_case_letter

status_row : (v : StatusItem) → IsRow is_astring_char status_name STATUS_ITEMS v
status_row status.Messages = (refl, refl, refl)
status_row _ = (refl, refl, refl)

pub status_table : IsTable is_astring_char status_name STATUS_ITEMS
status_table = table_from status_row either_case_astring
