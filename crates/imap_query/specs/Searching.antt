-- SEARCH's keys within keys, and what stands before them (RFC 9051, section 9).
use Rattle.std.specs.Prelude.{◌≡◌, ℕ, zero, suc, Bool, true, false, cond, ◌==◌, List}
use Rattle.std.specs.Prelude.{[], Option, Some, None, codes}
use Rattle.std.specs.Char.{is_ascii_alphabetic}
use Rattle.std.specs.Str.{str_eq_ignore_ascii_case}
use Rattle.imap_query.specs.declared.search.SearchReturn.{SearchReturn}
use Rattle.imap_query.specs.declared.search.TheConstants.{SEARCH_RETURNS}
use Rattle.imap_query.specs.declared.search_word.SearchWord.{SearchWord}
use Rattle.imap_query.specs.declared.search_word.SearchWord.TheVariants as word
use Rattle.imap_query.specs.declared.search_word.TheConstants.{SEARCH_WORDS}
use Rattle.imap_syntax.specs.Rule.{Rule, fail, give, ◌>>=◌, ◌>>◌, ◌<|>◌, octet, some_of}
use Rattle.imap_syntax.specs.Rule.{some_read, keyword, separated, listed_or_none}
use Rattle.imap_syntax.specs.First.{by_first}
use Rattle.imap_syntax.specs.Lexical.{is_astring_char, is_atom_char, space, quoted}
use Rattle.imap_query.specs.SearchWords.{search_return_name, search_name}
use Rattle.imap_syntax.specs.Sets.{message_set, begins_set}
use Rattle.imap_query.specs.Keys.{Token, numbers, Key, plain, negated, either, group, keys_of, all_tokens}
use Rattle.imap_query.specs.Search.{plain_behind, as_plain}

-- ---- keys, where this rule reads those within them

abbrev pub not_key : Rule Key → Rule Key
not_key inner = do
  space
  key ← inner
  give (negated key)

abbrev pub or_key : Rule Key → Rule Key
or_key inner = do
  space
  left ← inner
  space
  right ← inner
  give (either left right)

abbrev pub is_not : SearchWord → Bool
is_not word.Not = true
is_not _ = false

abbrev pub is_or : SearchWord → Bool
is_or word.Or = true
is_or _ = false

-- the part of a key after its word
abbrev pub key_behind : Rule Key → SearchWord → Rule Key
key_behind inner name =
    cond (is_not name) (not_key inner) (cond (is_or name) (or_key inner) (as_plain (plain_behind name)))

abbrev pub group_key : Rule Key → Rule Key
group_key inner = do
  octet 40
  keys ← separated 32 inner
  octet 41
  give (group (keys_of keys))

abbrev pub set_key : Rule Key
set_key = do
  messages ← message_set
  give (plain (numbers messages))

abbrev pub key_word : Rule SearchWord
key_word = keyword is_ascii_alphabetic search_name SEARCH_WORDS

abbrev pub word_key : Rule Key → Rule Key
word_key inner = do
  name ← key_word
  key_behind inner name

-- `search-key`
abbrev pub key_over : Rule Key → Rule Key
key_over inner = by_first (λ b. b == 40) (group_key inner) (by_first begins_set set_key (word_key inner))

-- the most levels of keys: a depth of 64, and the keys within which there are none
abbrev pub max_key_levels : ℕ
max_key_levels = 65

-- a key with fewer levels than the number
unfoldable pub key : (levels : ℕ) → Rule Key
key zero = fail
key (suc levels) = key_over (key levels)

-- ---- a word, or nothing

abbrev pub IsWordFlag : List ℕ → Bool → List ℕ → Type 0
IsWordFlag word true text = str_eq_ignore_ascii_case text word ≡ true
IsWordFlag word false text = text ≡ []

abbrev pub word_flag_by : List ℕ → List ℕ → Option (List ℕ × List ℕ) → Option (Bool × List ℕ)
word_flag_by word input None = Some (false, input)
word_flag_by word input (Some found) =
    cond (str_eq_ignore_ascii_case found.0 word) (Some (true, found.1)) (Some (false, input))

abbrev pub word_flag_read : List ℕ → List ℕ → Option (Bool × List ℕ)
word_flag_read word input = word_flag_by word input (some_read is_ascii_alphabetic input)

abbrev pub word_flag : List ℕ → Rule Bool
word_flag word = record {
  spells = IsWordFlag word;
  read = word_flag_read word;
}

-- ---- before the keys

abbrev pub returns_behind : Bool → Rule (List SearchReturn)
returns_behind false = give []
returns_behind true = do
  space
  all ← listed_or_none (keyword is_astring_char search_return_name SEARCH_RETURNS)
  space
  give all

-- `search-return-opts` and a space, or nothing
abbrev pub search_returns : Rule (List SearchReturn)
search_returns = do
  given ← word_flag (codes "RETURN")
  returns_behind given

abbrev pub charset_name : Rule (List ℕ)
charset_name = some_of is_atom_char <|> quoted

abbrev pub charset_behind : Bool → Rule (Option (List ℕ))
charset_behind false = give None
charset_behind true = do
  space
  name ← charset_name
  space
  give (Some name)

-- CHARSET, its name and a space, or nothing
abbrev pub search_charset : Rule (Option (List ℕ))
search_charset = do
  given ← word_flag (codes "CHARSET")
  charset_behind given

-- one key or more, which nest up to a depth of 64, as their tokens
abbrev pub search_keys : Rule (List Token)
search_keys = do
  keys ← separated 32 (key max_key_levels)
  give (all_tokens keys)

-- the part of the command after SEARCH, made into a value
abbrev pub search : {A : Type 0} → (List SearchReturn → Option (List ℕ) → List Token → A) → Rule A
search make = do
  space
  returns ← search_returns
  charset ← search_charset
  keys ← search_keys
  give (make returns charset keys)
