-- What FETCH and SEARCH ask for is written as lines and literals.
use Rattle.std.proofs.Common.{◌≡◌, ℕ, zero, suc, Bool, true, false, cond, List, [], ◌∷◌, ◌++◌, codes, Option, Some, None, refl, arith}
use Rattle.std.specs.Fmt.{decimal as decimal_text}
use Rattle.std.specs.Char.{is_ascii_alphabetic}
use Rattle.std.proofs.lemmas.Bool.Decides.{nat_tests}
use Rattle.imap_query.specs.Searching.{max_key_levels}
use Rattle.imap_syntax.specs.declared.flag.Flag.{Flag}
use Rattle.imap_syntax.specs.declared.flag.Flag.TheVariants as flag
use Rattle.imap_query.specs.declared.fetch.Partial.{Partial}
use Rattle.imap_query.specs.declared.fetch.Section.{Section}
use Rattle.imap_query.specs.declared.fetch.Section.TheVariants as section
use Rattle.imap_query.specs.declared.fetch.BodySection.{BodySection}
use Rattle.imap_query.specs.declared.fetch.FetchItem.{FetchItem}
use Rattle.imap_query.specs.declared.fetch.FetchItem.TheVariants as item
use Rattle.imap_query.specs.declared.search.SearchReturn.{SearchReturn}
use Rattle.imap_query.specs.declared.search_word.SearchWord.{SearchWord}
use Rattle.imap_query.specs.declared.search_word.SearchWord.TheVariants as word
use Rattle.imap_syntax.specs.FieldNames.{written_name}
use Rattle.imap_query.specs.SearchWords.{search_return_name, search_name}
use Rattle.imap_query.specs.Keys.{Plain, all, flagged, contains, header, dated, larger, smaller, mod_seq, numbers, uids, unserved, Key, plain, negated, either, group, Keys, end, more, Token}
use Rattle.imap_syntax.specs.Writing as writing
use Rattle.imap_syntax.specs.Writing.{joined, listed, listed_or_none}
use Rattle.imap_syntax.specs.Written.{is_quotable, quoted_text, atom, astring, mod_sequence, number64, message_set}
use Rattle.imap_syntax.specs.WrittenDates.{date}
use Rattle.imap_query.specs.WrittenFetch.{section_fits, section_text, partial_fits, partial_text, peek_text, body_text, item_fits, single_text, is_fast, fetch_item, fetch_items, changed_fits, modifiers_text}
use Rattle.imap_query.specs.WrittenSearch.{keys_from, search_flag_fits, flag_word, keyword_text, place_word, relation_word, plain_fits, plain_text, row_fits, fits_over, key_fits, key_text, row_text, further_text, search_key, keys_fit, keys_text, search_keys, returns_text, charset_fits, charset_name_text, charset_text}
use Rattle.imap_query.proofs.Tables.{search_table, search_return_table}
use Rattle.imap_syntax.proofs.Writing.{both_true}
use Rattle.imap_query.proofs.WrittenSearch.{each_word}
use Rattle.imap_syntax.proofs.Lined.{IsLined, Lines, is_safe, none_lined, append_lined, safe_lined, octet_lined, astring_safe, atom_lined, word_lined, number64_lined, mod_sequence_lined, enclosed_lined, separated_lined, listed_lined, quoted_lined, astring_lined, set_lined, date_lined}

-- ---- FETCH

name_lined : Lines written_name
name_lined octets h = astring_lined octets (quotable_fits octets h)
  where
    quotable_fits : (name : List ℕ) → is_quotable name ≡ true → astring.fits name ≡ true
    quotable_fits name h = rw h refl

names_lined : (names : List (List ℕ)) → (listed written_name).fits names ≡ true → IsLined ((listed written_name).text names)
names_lined names h = listed_lined written_name name_lined names (both_true _ _ h).1

section_lined : (s : Section) → section_fits s ≡ true → IsLined (section_text s)
section_lined section.Whole h = none_lined
section_lined section.Header h = safe_lined (codes "HEADER") refl
section_lined section.Text h = safe_lined (codes "TEXT") refl
section_lined (section.Fields names) h = append_lined (codes "HEADER.FIELDS ") _ (safe_lined (codes "HEADER.FIELDS ") refl) (names_lined names h)
section_lined (section.FieldsNot names) h = append_lined (codes "HEADER.FIELDS.NOT ") _ (safe_lined (codes "HEADER.FIELDS.NOT ") refl) (names_lined names h)

partial_lined : (p : Option Partial) → partial_fits p ≡ true → IsLined (partial_text p)
partial_lined None h = none_lined
partial_lined (Some p) h =
    let q = both_true (number64.fits p.offset) (mod_sequence.fits p.count) h in
    let count = decimal_text p.count in
    octet_lined 60 (decimal_text p.offset ++ (46 ∷ (count ++ 62 ∷ []))) refl
    (append_lined (decimal_text p.offset) (46 ∷ (count ++ 62 ∷ [])) (number64_lined p.offset q.0)
    (octet_lined 46 (count ++ 62 ∷ []) refl (append_lined count (62 ∷ []) (mod_sequence_lined p.count q.1) (safe_lined (62 ∷ []) refl))))

peek_lined : (peek : Bool) → IsLined (peek_text peek)
peek_lined true = safe_lined (codes "BODY.PEEK[") refl
peek_lined false = safe_lined (codes "BODY[") refl

body_lined : (b : BodySection) → section_fits b.section ≡ true → partial_fits b.partial ≡ true → IsLined (body_text b)
body_lined b h k =
    append_lined (peek_text b.peek) (section_text b.section ++ (93 ∷ partial_text b.partial)) (peek_lined b.peek)
    (append_lined (section_text b.section) (93 ∷ partial_text b.partial) (section_lined b.section h) (octet_lined 93 (partial_text b.partial) refl (partial_lined b.partial k)))

item_lined : Lines fetch_item
item_lined item.Uid h = safe_lined (codes "UID") refl
item_lined item.Flags h = safe_lined (codes "FLAGS") refl
item_lined item.InternalDate h = safe_lined (codes "INTERNALDATE") refl
item_lined item.Rfc822Size h = safe_lined (codes "RFC822.SIZE") refl
item_lined item.ModSeq h = safe_lined (codes "MODSEQ") refl
item_lined (item.Section body) h = let q = both_true (section_fits body.section) (partial_fits body.partial) h in body_lined body q.0 q.1
item_lined item.Unserved h = safe_lined (codes "BODY") refl

single_lined : (i : FetchItem) → item_fits i ≡ true → IsLined (single_text i)
single_lined item.Unserved h = safe_lined (codes "ALL") refl
single_lined i h = item_lined i h

several_lined : (items : List FetchItem) → fetch_items.fits items ≡ true → (fast : Bool) → IsLined (cond fast (codes "FAST") ((listed fetch_item).text items))
several_lined items h true = safe_lined (codes "FAST") refl
several_lined items h false = listed_lined fetch_item item_lined items (both_true _ _ h).1

pub items_lined : Lines fetch_items
items_lined [] h = several_lined [] h (is_fast [])
items_lined (i ∷ []) h = single_lined i (both_true (item_fits i) true h).0
items_lined (i ∷ j ∷ items) h = several_lined (i ∷ j ∷ items) h (is_fast (i ∷ j ∷ items))

-- a number between two words
pub between_lined : (front : List ℕ) (n : ℕ) (back : List ℕ) → IsLined front → IsLined (decimal_text n) → IsLined back → IsLined (front ++ (decimal_text n ++ back))
between_lined front n back h k l = append_lined front (decimal_text n ++ back) h (append_lined (decimal_text n) back k l)

pub modifiers_lined : (since : Option ℕ) (vanished : Bool) → changed_fits since ≡ true → IsLined (modifiers_text since vanished)
modifiers_lined None false h = none_lined
modifiers_lined None true h = safe_lined (codes " (VANISHED)") refl
modifiers_lined (Some n) false h = between_lined (codes " (CHANGEDSINCE ") n (codes ")") (safe_lined (codes " (CHANGEDSINCE ") refl) (mod_sequence_lined n h) (safe_lined (codes ")") refl)
modifiers_lined (Some n) true h = between_lined (codes " (CHANGEDSINCE ") n (codes " VANISHED)") (safe_lined (codes " (CHANGEDSINCE ") refl) (mod_sequence_lined n h) (safe_lined (codes " VANISHED)") refl)

-- ---- SEARCH

letter_safe : (b : ℕ) → is_ascii_alphabetic b ≡ true → is_safe b ≡ true
letter_safe b h = grind (arith, nat_tests)

key_word_lined : (w : SearchWord) → IsLined (search_name w)
key_word_lined w = word_lined search_table letter_safe w

-- a word, and behind a space what it is about
about_lined : (w : SearchWord) (back : List ℕ) → IsLined back → IsLined (search_name w ++ (32 ∷ back))
about_lined w back h = append_lined (search_name w) (32 ∷ back) (key_word_lined w) (octet_lined 32 back refl h)

keyword_lined : (f : Flag) → search_flag_fits f ≡ true → IsLined (keyword_text f)
keyword_lined flag.Answered h = none_lined
keyword_lined flag.Deleted h = none_lined
keyword_lined flag.Draft h = none_lined
keyword_lined flag.Flagged h = none_lined
keyword_lined flag.Seen h = none_lined
keyword_lined (flag.Other name) h = none_lined
keyword_lined (flag.Keyword name) h = octet_lined 32 name refl (atom_lined name h)

plain_lined : (p : Plain) → plain_fits p ≡ true → IsLined (plain_text p)
plain_lined all h = key_word_lined word.All
plain_lined (flagged f set) h = append_lined (search_name (flag_word f set)) (keyword_text f) (key_word_lined (flag_word f set)) (keyword_lined f h)
plain_lined (contains where_it_is text) h = about_lined (place_word where_it_is) (astring.text text) (astring_lined text h)
plain_lined (header field text) h =
    let q = both_true (written_name.fits field) (astring.fits text) h in
    about_lined word.Header (astring.text field ++ (32 ∷ astring.text text)) (append_lined (astring.text field) (32 ∷ astring.text text) (name_lined field q.0) (octet_lined 32 (astring.text text) refl (astring_lined text q.1)))
plain_lined (dated how day) h = about_lined (relation_word how) (date.text day) (date_lined day)
plain_lined (larger n) h = about_lined word.Larger (decimal_text n) (number64_lined n h)
plain_lined (smaller n) h = about_lined word.Smaller (decimal_text n) (number64_lined n h)
plain_lined (mod_seq n) h = about_lined word.ModSeq (decimal_text n) (number64_lined n h)
plain_lined (numbers m) h = set_lined m h
plain_lined (uids m) h = about_lined word.Uid (message_set.text m) (set_lined m h)
plain_lined unserved h = safe_lined (codes "SENTON 1-Jan-2000") refl

abbrev LinesOver : (Key → Bool) → Type 0
LinesOver f = (k : Key) → f k ≡ true → IsLined (key_text k)

row_further : (f : Key → Bool) → LinesOver f → (row : Keys) → row_fits f row ≡ true → IsLined (further_text row)
row_further f law end h = none_lined
row_further f law (more k row) h =
    let q = both_true (f k) (row_fits f row) h in
    octet_lined 32 (key_text k ++ further_text row) refl (append_lined (key_text k) (further_text row) (law k q.0) (row_further f law row q.1))

group_lined : (f : Key → Bool) → LinesOver f → (row : Keys) → fits_over f (group row) ≡ true → IsLined (key_text (group row))
group_lined f law end h = absurd cc
group_lined f law (more k row) h =
    let q = both_true (f k) (row_fits f row) h in
    enclosed_lined (row_text (more k row)) (append_lined (key_text k) (further_text row) (law k q.0) (row_further f law row q.1))

over_lined : (f : Key → Bool) → LinesOver f → LinesOver (fits_over f)
over_lined f law (plain p) h = plain_lined p h
over_lined f law (negated k) h = append_lined (codes "NOT ") (key_text k) (safe_lined (codes "NOT ") refl) (law k h)
over_lined f law (either l r) h =
    let q = both_true (f l) (f r) h in
    append_lined (codes "OR ") (key_text l ++ (32 ∷ key_text r)) (safe_lined (codes "OR ") refl) (append_lined (key_text l) (32 ∷ key_text r) (law l q.0) (octet_lined 32 (key_text r) refl (law r q.1)))
over_lined f law (group row) h = group_lined f law row h

key_lined : (levels : ℕ) → LinesOver (key_fits levels)
unfolding key_fits
key_lined zero k h = absurd cc
key_lined (suc levels) k h = over_lined (key_fits levels) (key_lined levels) k h

keys_lined : (o : Option (List Key)) → keys_fit o ≡ true → IsLined (keys_text o)
keys_lined None h = none_lined
keys_lined (Some ks) h = separated_lined 32 (search_key max_key_levels) refl (key_lined max_key_levels) ks h

pub tokens_lined : (tokens : List Token) → search_keys.fits tokens ≡ true → IsLined (search_keys.text tokens)
tokens_lined tokens h = keys_lined (keys_from tokens) h

pub returns_lined : (returns : List SearchReturn) → IsLined (returns_text returns)
returns_lined [] = none_lined
returns_lined (first ∷ others) =
    let returns = first ∷ others in
    let shown = (listed_or_none (writing.word search_return_name)).text returns in
    append_lined (codes "RETURN ") (shown ++ 32 ∷ []) (safe_lined (codes "RETURN ") refl)
    (append_lined shown (32 ∷ []) (listed_lined (writing.word search_return_name) (λ w h. word_lined search_return_table astring_safe w) returns (each_word returns)) (safe_lined (32 ∷ []) refl))

charset_name_lined : (name : List ℕ) → is_quotable name ≡ true → (v : Bool) → atom.fits name ≡ v → IsLined (cond v name (quoted_text name))
charset_name_lined name h true e = atom_lined name e
charset_name_lined name h false e = quoted_lined name h

pub charset_lined : (charset : Option (List ℕ)) → charset_fits charset ≡ true → IsLined (charset_text charset)
charset_lined None h = none_lined
charset_lined (Some name) h =
    append_lined (codes "CHARSET ") (charset_name_text name ++ 32 ∷ []) (safe_lined (codes "CHARSET ") refl)
    (append_lined (charset_name_text name) (32 ∷ []) (charset_name_lined name h (atom.fits name) refl) (safe_lined (32 ∷ []) refl))
