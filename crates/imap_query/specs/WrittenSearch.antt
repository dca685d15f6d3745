-- How the keys and options of SEARCH are written (RFC 9051, section 9; RFC 7162, section 7).
use Rattle.std.specs.Prelude.{ℕ, zero, suc, Bool, true, false, ◌&&◌, List, [], ◌∷◌, ◌++◌, codes}
use Rattle.std.specs.Prelude.{decimal, if◌then◌else◌, Option, Some, None}
use Rattle.std.specs.Option.{option_and_then}
use Rattle.imap_syntax.specs.Moments.{Day}
use Rattle.imap_syntax.specs.declared.set.MessageSet.{MessageSet}
use Rattle.imap_syntax.specs.declared.flag.Flag.{Flag}
use Rattle.imap_syntax.specs.declared.flag.Flag.TheVariants as flag
use Rattle.imap_query.specs.declared.search.SearchReturn.{SearchReturn}
use Rattle.imap_query.specs.declared.search.SearchIn.{SearchIn}
use Rattle.imap_query.specs.declared.search.SearchIn.TheVariants as place
use Rattle.imap_query.specs.declared.search.SearchDate.{SearchDate}
use Rattle.imap_query.specs.declared.search.SearchDate.TheVariants as relation
use Rattle.imap_query.specs.declared.search_word.SearchWord.{SearchWord}
use Rattle.imap_query.specs.declared.search_word.SearchWord.TheVariants as word
use Rattle.imap_query.specs.SearchWords.{search_return_name, search_name}
use Rattle.imap_query.specs.Keys.{Plain, all, flagged, contains, header, dated, larger, smaller, mod_seq}
use Rattle.imap_query.specs.Keys.{numbers, uids, unserved, Key, plain, negated, either, group, Keys, end}
use Rattle.imap_query.specs.Keys.{more, Token, one, not_next, or_next, group_end, group_more}
use Rattle.imap_syntax.specs.Writing as writing
use Rattle.imap_syntax.specs.Writing.{Writing, separated, listed_or_none, in_parentheses}
use Rattle.imap_syntax.specs.Written.{is_quotable, quoted_text, astring, atom, number64, message_set}
use Rattle.imap_syntax.specs.WrittenDates.{date}
use Rattle.imap_query.specs.Searching.{max_key_levels}
use Rattle.imap_syntax.specs.FieldNames.{written_name}

-- ---- tokens, read as the keys that they are

-- the keys with one token more before theirs
abbrev pub onto : Token → List Key → Option (List Key)
onto (one key) keys = Some (plain key ∷ keys)
onto not_next (k ∷ keys) = Some (negated k ∷ keys)
onto or_next (k ∷ l ∷ keys) = Some (either k l ∷ keys)
onto group_end keys = Some (group end ∷ keys)
onto group_more (k ∷ group others ∷ keys) = Some (group (more k others) ∷ keys)
onto _ _ = None

-- None where the tokens are no keys
abbrev pub keys_from : List Token → Option (List Key)
keys_from [] = Some []
keys_from (t ∷ ts) = option_and_then (onto t) (keys_from ts)

-- ---- keys without others within them

-- SEARCH has no key for another flag with a backslash.
abbrev pub search_flag_fits : Flag → Bool
search_flag_fits (flag.Other name) = false
search_flag_fits (flag.Keyword name) = atom.fits name
search_flag_fits _ = true

abbrev pub flag_word : Flag → (set : Bool) → SearchWord
flag_word flag.Answered true = word.Answered
flag_word flag.Answered false = word.Unanswered
flag_word flag.Deleted true = word.Deleted
flag_word flag.Deleted false = word.Undeleted
flag_word flag.Draft true = word.Draft
flag_word flag.Draft false = word.Undraft
flag_word flag.Flagged true = word.Flagged
flag_word flag.Flagged false = word.Unflagged
flag_word flag.Seen true = word.Seen
flag_word flag.Seen false = word.Unseen
flag_word (flag.Other name) true = word.Keyword
flag_word (flag.Other name) false = word.Unkeyword
flag_word (flag.Keyword name) true = word.Keyword
flag_word (flag.Keyword name) false = word.Unkeyword

abbrev pub keyword_text : Flag → List ℕ
keyword_text (flag.Keyword name) = 32 ∷ name
keyword_text _ = []

abbrev pub place_word : SearchIn → SearchWord
place_word place.Bcc = word.Bcc
place_word place.Body = word.Body
place_word place.Cc = word.Cc
place_word place.From = word.From
place_word place.Subject = word.Subject
place_word place.Text = word.Text
place_word place.To = word.To

abbrev pub relation_word : SearchDate → SearchWord
relation_word relation.Before = word.Before
relation_word relation.On = word.On
relation_word relation.Since = word.Since

abbrev pub plain_fits : Plain → Bool
plain_fits all = true
plain_fits (flagged f set) = search_flag_fits f
plain_fits (contains where_it_is text) = astring.fits text
plain_fits (header field text) = written_name.fits field && astring.fits text
plain_fits (dated how day) = date.fits day
plain_fits (larger size) = number64.fits size
plain_fits (smaller size) = number64.fits size
plain_fits (mod_seq least) = number64.fits least
plain_fits (numbers messages) = message_set.fits messages
plain_fits (uids messages) = message_set.fits messages
plain_fits unserved = true

abbrev pub flagged_text : Flag → (set : Bool) → List ℕ
flagged_text f set = search_name (flag_word f set) ++ keyword_text f

abbrev pub text_key_text : SearchWord → List ℕ → List ℕ
text_key_text name text = search_name name ++ (32 ∷ astring.text text)

abbrev pub header_key_text : (field text : List ℕ) → List ℕ
header_key_text field text =
    search_name word.Header ++ (32 ∷ (astring.text field ++ (32 ∷ astring.text text)))

abbrev pub date_key_text : SearchWord → Day → List ℕ
date_key_text name day = search_name name ++ (32 ∷ date.text day)

abbrev pub number_key_text : SearchWord → ℕ → List ℕ
number_key_text name n = search_name name ++ (32 ∷ decimal n)

abbrev pub uid_key_text : MessageSet → List ℕ
uid_key_text messages = search_name word.Uid ++ (32 ∷ message_set.text messages)

-- A key that isn't served is written so.
abbrev pub unserved_text : List ℕ
unserved_text = codes "SENTON 1-Jan-2000"

abbrev pub plain_text : Plain → List ℕ
plain_text all = search_name word.All
plain_text (flagged f set) = flagged_text f set
plain_text (contains where_it_is text) = text_key_text (place_word where_it_is) text
plain_text (header field text) = header_key_text field text
plain_text (dated how day) = date_key_text (relation_word how) day
plain_text (larger size) = number_key_text word.Larger size
plain_text (smaller size) = number_key_text word.Smaller size
plain_text (mod_seq least) = number_key_text word.ModSeq least
plain_text (numbers messages) = message_set.text messages
plain_text (uids messages) = uid_key_text messages
plain_text unserved = unserved_text

-- ---- keys

abbrev pub row_fits : (Key → Bool) → Keys → Bool
row_fits inner end = true
row_fits inner (more key others) = inner key && row_fits inner others

-- where those within the key fit by this test
abbrev pub fits_over : (inner : Key → Bool) → Key → Bool
fits_over inner (plain key) = plain_fits key
fits_over inner (negated key) = inner key
fits_over inner (either left right) = inner left && inner right
fits_over inner (group end) = false
fits_over inner (group (more key others)) = inner key && row_fits inner others

-- with fewer levels than the number
unfoldable pub key_fits : (levels : ℕ) → Key → Bool
key_fits zero key = false
key_fits (suc levels) key = fits_over (key_fits levels) key

abbrev mutual
  pub key_text : Key → List ℕ
  key_text (plain key) = plain_text key
  key_text (negated key) = codes "NOT " ++ key_text key
  key_text (either left right) = codes "OR " ++ (key_text left ++ 32 ∷ key_text right)
  key_text (group keys) = in_parentheses (row_text keys)

  pub row_text : Keys → List ℕ
  row_text end = []
  row_text (more key others) = key_text key ++ further_text others

  pub further_text : Keys → List ℕ
  further_text end = []
  further_text (more key others) = 32 ∷ (key_text key ++ further_text others)

abbrev pub search_key : (levels : ℕ) → Writing Key
search_key levels = record { fits = key_fits levels; text = key_text }

abbrev pub keys : Writing (List Key)
keys = separated 32 (search_key max_key_levels)

abbrev pub keys_fit : Option (List Key) → Bool
keys_fit None = false
keys_fit (Some all_of_them) = keys.fits all_of_them

abbrev pub keys_text : Option (List Key) → List ℕ
keys_text None = []
keys_text (Some all_of_them) = keys.text all_of_them

abbrev pub search_keys : Writing (List Token)
search_keys = record {
  fits = λ tokens. keys_fit (keys_from tokens);
  text = λ tokens. keys_text (keys_from tokens);
}

-- ---- what stands before the keys

-- `search-return-opts` and a space, or nothing
abbrev pub some_returns_text : List SearchReturn → List ℕ
some_returns_text returns =
    codes "RETURN " ++ ((listed_or_none (writing.word search_return_name)).text returns ++ 32 ∷ [])

abbrev pub returns_text : List SearchReturn → List ℕ
returns_text [] = []
returns_text (first ∷ others) = some_returns_text (first ∷ others)

abbrev pub charset_fits : Option (List ℕ) → Bool
charset_fits None = true
charset_fits (Some name) = is_quotable name

-- an atom as it is, all else in quotes
abbrev pub charset_name_text : List ℕ → List ℕ
charset_name_text name = if atom.fits name then name else quoted_text name

-- CHARSET, its name and a space, or nothing
abbrev pub charset_text : Option (List ℕ) → List ℕ
charset_text None = []
charset_text (Some name) = codes "CHARSET " ++ (charset_name_text name ++ 32 ∷ [])
