-- The messages that keys find which were made ready.
use Rattle.std.specs.Prelude.{◌≡◌, ℕ, Bool, true, false, not, ◌&&◌, ◌||◌, List}
use Rattle.std.specs.List.{list_all}
use Rattle.imap_mailbox.specs.Rows.{Row}
use Rattle.imap_query.specs.Keys.{Key, plain, negated, either, group, key_of, Token}
use Rattle.imap_search.specs.declared.ready_key.ReadyKey.{ReadyKey, Plain, Numbers, Uids, Not', Or', Group'}
use Rattle.imap_search.specs.declared.ready_key.ReadyKey.{Row_of-ReadyKey, end_of-ReadyKey, more_of-ReadyKey}
use Rattle.imap_search.specs.Finds.{Candidate, finds, finds_plain}
use Rattle.imap_search.specs.Ranges.{in_ranges}
use Rattle.imap_search.specs.Search.{candidate_of}
use Rattle.imap_search.specs.Tokens.{finds_all}

-- a key that has others within it finds nothing here
abbrev pub finds_if_plain : Candidate → Key → Bool
finds_if_plain c (plain key) = finds_plain c key
finds_if_plain c (negated key) = false
finds_if_plain c (either left right) = false
finds_if_plain c (group keys) = false

abbrev mutual
  pub finds_ready : Candidate → ReadyKey → Bool
  finds_ready c (Plain key) = finds_if_plain c (key_of key.now)
  finds_ready c (Numbers set) = in_ranges set c.number
  finds_ready c (Uids set) = in_ranges set c.row.uid
  finds_ready c (Not' p key) = not (finds_ready c key)
  finds_ready c (Or' p left q right) = finds_ready c left || finds_ready c right
  finds_ready c (Group' shape keys) = finds_row c keys

  pub finds_row : Candidate → {m : _} → Row_of-ReadyKey m → Bool
  finds_row c end_of-ReadyKey = true
  finds_row c (more_of-ReadyKey key others) = finds_ready c key && finds_row c others

-- ---- both find the same messages, where `*` is `last` in a set of numbers and `last_uid` in one of UIDs
abbrev pub IsReady : (last last_uid : ℕ) → ReadyKey → Key → Type 0
IsReady last last_uid ready key = (number : ℕ) (row : Row)
    → finds_ready (candidate_of last last_uid number row) ready
    ≡ finds (candidate_of last last_uid number row) key

abbrev pub AreReady : (last last_uid : ℕ) → List ReadyKey → List Key → Type 0
AreReady last last_uid ready keys = (number : ℕ) (row : Row)
    → list_all (finds_ready (candidate_of last last_uid number row)) ready
    ≡ list_all (finds (candidate_of last last_uid number row)) keys

-- for the keys of a command
abbrev pub AreReadyFor : (keys : List Token) → (last last_uid : ℕ) → List ReadyKey → Type 0
AreReadyFor keys last last_uid ready = (number : ℕ) (row : Row)
    → list_all (finds_ready (candidate_of last last_uid number row)) ready
    ≡ finds_all (candidate_of last last_uid number row) keys
