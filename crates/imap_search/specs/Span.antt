-- Where the messages that SEARCH finds stand among those that a session knows.
use Rattle.std.specs.Prelude.{◌≡◌, ℕ, ◌+◌, ◌<◌, ◌≤◌, false, List, [], length, drop, slice_index_or}
use Rattle.std.specs.List.{list_all}
use Rattle.imap_mailbox.specs.Rows.{Row}
use Rattle.imap_query.specs.Keys.{Key}
use Rattle.imap_syntax.specs.declared.set.Numbering.{Numbering}
use Rattle.imap_syntax.specs.declared.set.SeqRange.{SeqRange}
use Rattle.imap_targets.specs.MessageNumbers.{in_set}
use Rattle.imap_targets.specs.Spans.{name_at}
use Rattle.imap_search.specs.Finds.{finds}
use Rattle.imap_search.specs.Search.{SearchArguments, candidate_of, found_from}

-- ---- one set. It names no message before the index `start`, and none from the index `end` on
pub record AreNamedAmong (by : Numbering) (last : ℕ) (ranges : List SeqRange) (known : List ℕ)
    (start end : ℕ) : Type 0 where
  pub order : start ≤ end
  pub within : end ≤ length known
  pub before : (index d : ℕ) → index < start
      → in_set last ranges (name_at by known index d) ≡ false
  pub after : (index d : ℕ) → end ≤ index → index < length known
      → in_set last ranges (name_at by known index d) ≡ false

-- ---- keys

-- not all of the keys find the message at the index, whatever its values are
abbrev pub IsMissed : List Key → (last last_uid : ℕ) → (known : List ℕ) → (index : ℕ) → Type 0
IsMissed keys last last_uid known index =
    (d : ℕ) (row : Row) → row.uid ≡ slice_index_or known index d
    → list_all (finds (candidate_of last last_uid (index + 1) row)) keys ≡ false

-- they find no message before the index `start`, and none from the index `end` on
pub record AreAmong (keys : List Key) (last last_uid : ℕ) (known : List ℕ) (start end : ℕ)
    : Type 0 where
  pub order : start ≤ end
  pub within : end ≤ length known
  pub before : (index : ℕ) → index < start → IsMissed keys last last_uid known index
  pub after : (index : ℕ) → end ≤ index → index < length known → IsMissed keys last last_uid known index

-- ---- a command. What it finds stands from the index `start` up to, but without, the index `end`
pub record FindsAmong (arguments : SearchArguments) (last last_uid : ℕ) (known : List ℕ)
    (start end : ℕ) : Type 0 where
  pub order : start ≤ end
  pub within : end ≤ length known
  pub before : (rows : List Row) → found_from arguments last last_uid rows (start + 1) (drop start known)
      ≡ found_from arguments last last_uid rows 1 known
  pub after : (rows : List Row) → found_from arguments last last_uid rows (end + 1) (drop end known) ≡ []
