-- SEARCH (RFC 9051, section 9; RFC 7162, section 7).
use Rattle.std.specs.Prelude.{ℕ, Bool, true, false, cond, ◌==◌, ◌&&◌, List, [], ◌∷◌, take, drop, codes}
use Rattle.std.specs.Char.{is_ascii_alphabetic}
use Rattle.std.specs.Str.{str_eq_ignore_ascii_case}
use Rattle.imap_syntax.specs.declared.flag.Flag.TheVariants as flag
use Rattle.imap_query.specs.declared.search.SearchIn.{SearchIn}
use Rattle.imap_query.specs.declared.search.SearchIn.TheVariants as place
use Rattle.imap_query.specs.declared.search.SearchDate.{SearchDate}
use Rattle.imap_query.specs.declared.search.SearchDate.TheVariants as relation
use Rattle.imap_query.specs.declared.search_word.SearchWord.{SearchWord}
use Rattle.imap_query.specs.declared.search_word.SearchWord.TheVariants as word
use Rattle.imap_query.specs.declared.search_word.TheConstants.{ENTRY_TYPES}
use Rattle.imap_syntax.specs.Rule as rule
use Rattle.imap_syntax.specs.Rule.{Rule, fail, give, ◌>>=◌, ◌>>◌, ◌<|>◌, octet, some_of, some_read}
use Rattle.imap_syntax.specs.Rule.{when, keyword, separated, listed_or_none}
use Rattle.imap_syntax.specs.Lexical.{is_atom_char, space, number, quoted_end, astring}
use Rattle.imap_query.specs.SearchWords.{entry_type_name}
use Rattle.imap_syntax.specs.Sets.{message_set}
use Rattle.imap_syntax.specs.Dates.{date}
use Rattle.imap_syntax.specs.Atoms.{atom}
use Rattle.imap_syntax.specs.FieldNames.{field_name}
use Rattle.imap_query.specs.Keys.{Plain, all, flagged, contains, header, dated, larger, smaller}
use Rattle.imap_query.specs.Keys.{mod_seq, uids, unserved, Key, plain}

-- ---- keys without others within them

abbrev pub text_key : SearchIn → Rule Plain
text_key where_it_is = do
  space
  text ← astring
  give (contains where_it_is text)

abbrev pub date_key : SearchDate → Rule Plain
date_key how = do
  space
  day ← date
  give (dated how day)

-- a date that is read and not served
abbrev pub sent_key : Rule Plain
sent_key = do
  space
  day ← date
  give unserved

abbrev pub header_key : Rule Plain
header_key = do
  space
  field ← field_name
  space
  text ← astring
  give (header field text)

abbrev pub keyword_key : Bool → Rule Plain
keyword_key set = do
  space
  name ← some_of is_atom_char
  give (flagged (flag.Keyword name) set)

-- SP number64
abbrev pub size : Rule ℕ
size = do
  space
  number 0 9223372036854775807

abbrev pub uid_key : Rule Plain
uid_key = do
  space
  messages ← message_set
  give (uids messages)

-- an atom, and perhaps a backslash before it
abbrev pub is_flag : List ℕ → Bool
is_flag [] = false
is_flag (b ∷ text) = cond (b == 92) (atom.fits text) (atom.fits (b ∷ text))

-- `entry-name`: /flags/ and a flag (RFC 7162, section 3.1.5)
abbrev pub is_entry : List ℕ → Bool
is_entry text = str_eq_ignore_ascii_case (take 7 text) (codes "/flags/") && is_flag (drop 7 text)

abbrev pub entry_behind : Bool → Rule (Unit {0})
entry_behind false = give tt
entry_behind true = do
  entry ← quoted_end
  when (is_entry entry) entry
  space
  kind ← keyword is_ascii_alphabetic entry_type_name ENTRY_TYPES
  space

-- an entry and its type, which are read and not kept, or nothing
abbrev pub entry : Rule (Unit {0})
entry = do
  quote ← rule.flag 34
  entry_behind quote

abbrev pub mod_seq_key : Rule Plain
mod_seq_key = do
  space
  entry
  least ← number 0 9223372036854775807
  give (mod_seq least)

-- the part of a key after its word
abbrev pub plain_behind : SearchWord → Rule Plain
plain_behind word.All = give all
plain_behind word.Answered = give (flagged flag.Answered true)
plain_behind word.Bcc = text_key place.Bcc
plain_behind word.Before = date_key relation.Before
plain_behind word.Body = text_key place.Body
plain_behind word.Cc = text_key place.Cc
plain_behind word.Deleted = give (flagged flag.Deleted true)
plain_behind word.Draft = give (flagged flag.Draft true)
plain_behind word.Flagged = give (flagged flag.Flagged true)
plain_behind word.From = text_key place.From
plain_behind word.Header = header_key
plain_behind word.Keyword = keyword_key true
plain_behind word.Larger = do n ← size; give (larger n)
plain_behind word.ModSeq = mod_seq_key
plain_behind word.Not = fail
plain_behind word.On = date_key relation.On
plain_behind word.Or = fail
plain_behind word.Seen = give (flagged flag.Seen true)
plain_behind word.SentBefore = sent_key
plain_behind word.SentOn = sent_key
plain_behind word.SentSince = sent_key
plain_behind word.Since = date_key relation.Since
plain_behind word.Smaller = do n ← size; give (smaller n)
plain_behind word.Subject = text_key place.Subject
plain_behind word.Text = text_key place.Text
plain_behind word.To = text_key place.To
plain_behind word.Uid = uid_key
plain_behind word.Unanswered = give (flagged flag.Answered false)
plain_behind word.Undeleted = give (flagged flag.Deleted false)
plain_behind word.Undraft = give (flagged flag.Draft false)
plain_behind word.Unflagged = give (flagged flag.Flagged false)
plain_behind word.Unkeyword = keyword_key false
plain_behind word.Unseen = give (flagged flag.Seen false)

-- a key that has no other within it
abbrev pub as_plain : Rule Plain → Rule Key
as_plain q = do key ← q; give (plain key)
