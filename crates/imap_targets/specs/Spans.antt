-- Where the messages of a set stand among those that a session knows.
use Rattle.std.specs.Prelude.{◌≡◌, ℕ, ◌+◌, ◌<◌, ◌≤◌, true, List, [], length, drop, slice_index_or}
use Rattle.imap_session.specs.Held.{UidsRise}
use Rattle.imap_syntax.specs.declared.set.Numbering.{Numbering}
use Rattle.imap_syntax.specs.declared.set.SeqRange.{SeqRange}
use Rattle.imap_targets.specs.declared.message_numbers.MessageNumbers.{MessageNumbers}
use Rattle.imap_targets.specs.declared.message_numbers.Numbered.{Numbered}
use Rattle.imap_targets.specs.MessageNumbers.{in_set, messages_from, number_by}

-- the known messages of the set
abbrev pub named_in : MessageNumbers → (known : List ℕ) → List Numbered
named_in m known = messages_from m.numbering m.last m.ranges.now 1 known

-- ---- where they stand

-- each number of the set lies between these
abbrev pub AreBounds : (last : ℕ) → List SeqRange → (low high : ℕ) → Type 0
AreBounds last ranges low high =
    (n : ℕ) → in_set last ranges n ≡ true → (low ≤ n) × (n ≤ high)

abbrev pub name_at : Numbering → (known : List ℕ) → (index d : ℕ) → ℕ
name_at by known index d =
    number_by by (record { number = index + 1; uid = slice_index_or known index d })

-- before the index `start` they are named by less than `low`, and from the index `end` on by more than `high`
pub record IsWithin (by : Numbering) (low high : ℕ) (known : List ℕ) (start end : ℕ) : Type 0 where
  pub order : start ≤ end
  pub within : end ≤ length known
  pub less : (index d : ℕ) → index < start → name_at by known index d < low
  pub more : (index d : ℕ) → end ≤ index → index < length known
      → high < name_at by known index d

-- those of the set stand from the index `start` up to, but without, the index `end`
pub record IsSpan (m : MessageNumbers) (known : List ℕ) (start end : ℕ) : Type 0 where
  pub rise : UidsRise known
  pub order : start ≤ end
  pub within : end ≤ length known
  pub before : messages_from m.numbering m.last m.ranges.now (start + 1) (drop start known) ≡ named_in m known
  pub after : messages_from m.numbering m.last m.ranges.now (end + 1) (drop end known) ≡ []
