-- The messages that UNCHANGEDSINCE leaves as they are (RFC 7162, section 3.1.3).
use Rattle.std.specs.Prelude.{ℕ, Bool, false, nat_lt, not, List, filter, map, Option, Some, None}
use Rattle.imap_mailbox.specs.Rows.{Row}
use Rattle.imap_syntax.specs.declared.set.Numbering.{Numbering}
use Rattle.imap_targets.specs.declared.message_numbers.Numbered.{Numbered}
use Rattle.imap_targets.specs.MessageNumbers.{number_by, row_with}

-- the message is there, and its mod-sequence is greater than the number
abbrev pub is_later : (since : ℕ) → Option Row → Bool
is_later since None = false
is_later since (Some row) = nat_lt since row.number

abbrev pub was_changed : (since : Option ℕ) → Option Row → Bool
was_changed None row = false
was_changed (Some since) row = is_later since row

-- the message is left as it is
abbrev pub is_skipped : (since : Option ℕ) → List Row → Numbered → Bool
is_skipped since rows m = was_changed since (row_with m.uid rows)

-- the numbers of the messages that are left as they are, or their UIDs
abbrev pub skipped_numbers : Numbering → (since : Option ℕ) → List Row → List Numbered → List ℕ
skipped_numbers by since rows messages = map (number_by by) (filter (is_skipped since rows) messages)

-- the other messages, which alone are stored
abbrev pub unskipped : (since : Option ℕ) → List Row → List Numbered → List Numbered
unskipped since rows messages = filter (λ m. not (is_skipped since rows m)) messages
