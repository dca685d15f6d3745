-- What SEARCH looks for, without where it lies in memory.
use Rattle.std.specs.Prelude.{ℕ, Bool, List, [], ◌∷◌}
use Rattle.imap_syntax.specs.Moments.{Day}
use Rattle.imap_syntax.specs.declared.flag.Flag.{Flag}
use Rattle.imap_syntax.specs.declared.set.MessageSet.{MessageSet}
use Rattle.imap_query.specs.declared.search.SearchIn.{SearchIn}
use Rattle.imap_query.specs.declared.search.SearchDate.{SearchDate}
use Rattle.imap_query.specs.declared.search.SearchKey as key
use Rattle.imap_query.specs.declared.search.SearchKey.{SearchKey, All, Contains, Header, Larger, Smaller}
use Rattle.imap_query.specs.declared.search.SearchKey.{ModSeq, Numbers, Uids, Not', Or', Group', Unserved}
use Rattle.imap_query.specs.declared.search.SearchKey.{Row_of-SearchKey, end_of-SearchKey, more_of-SearchKey}

-- a key that has no other within it
pub data Plain : Type 0 where
  all : Plain
  flagged : (flag : Flag) (set : Bool) → Plain
  contains : (place : SearchIn) (text : List ℕ) → Plain
  header : (field text : List ℕ) → Plain
  dated : (relation : SearchDate) (date : Day) → Plain
  larger : (size : ℕ) → Plain
  smaller : (size : ℕ) → Plain
  mod_seq : (least : ℕ) → Plain
  numbers : (messages : MessageSet) → Plain
  uids : (messages : MessageSet) → Plain
  unserved : Plain

mutual
  pub data Key : Type 0 where
    plain : (key : Plain) → Key
    negated : (key : Key) → Key
    either : (left right : Key) → Key
    group : (keys : Keys) → Key

  pub data Keys : Type 0 where
    end : Keys
    more : (key : Key) (others : Keys) → Keys

abbrev pub as_flagged : Flag → Bool → Key
as_flagged flag set = plain (flagged flag set)

abbrev pub keys_of : List Key → Keys
keys_of [] = end
keys_of (k ∷ ks) = more k (keys_of ks)

abbrev mutual
  pub key_of : SearchKey → Key
  key_of All = plain all
  key_of (key.Flag flag set) = plain (flagged flag set)
  key_of (Contains place text) = plain (contains place text)
  key_of (Header field text) = plain (header field text)
  key_of (key.Date relation date) = plain (dated relation date)
  key_of (Larger size) = plain (larger size)
  key_of (Smaller size) = plain (smaller size)
  key_of (ModSeq least) = plain (mod_seq least)
  key_of (Numbers messages) = plain (numbers messages)
  key_of (Uids messages) = plain (uids messages)
  key_of (Not' p key) = negated (key_of key)
  key_of (Or' p left q right) = either (key_of left) (key_of right)
  key_of (Group' shape keys) = group (row_of keys)
  key_of Unserved = plain unserved

  pub row_of : {m : _} → Row_of-SearchKey m → Keys
  row_of end_of-SearchKey = end
  row_of (more_of-SearchKey key others) = more (key_of key) (row_of others)

-- ---- keys as a list of tokens, each operator before its operands (WrittenSearch reads them back)

pub data Token : Type 0 where
  one : (key : Plain) → Token
  not_next : Token
  or_next : Token
  group_end : Token
  group_more : Token

abbrev mutual
  pub tokens : Key → List Token → List Token
  tokens (plain key) rest = one key ∷ rest
  tokens (negated key) rest = not_next ∷ tokens key rest
  tokens (either left right) rest = or_next ∷ tokens left (tokens right rest)
  tokens (group keys) rest = row_tokens keys rest

  pub row_tokens : Keys → List Token → List Token
  row_tokens end rest = group_end ∷ rest
  row_tokens (more key others) rest = group_more ∷ tokens key (row_tokens others rest)

abbrev pub all_tokens : List Key → List Token
all_tokens [] = []
all_tokens (k ∷ ks) = tokens k (all_tokens ks)
