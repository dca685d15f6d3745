-- What STATUS counts (RFC 9051, section 6.3.11).
use Rattle.std.specs.Prelude.{ℕ, not, List, length, count_by}
use Rattle.std.specs.List.{sum_by}
use Rattle.imap_mailbox.specs.Rows.{Row}

-- DELETED
abbrev pub deleted_in : List Row → ℕ
deleted_in rows = count_by (λ r. r.flags.deleted) rows

-- UNSEEN
abbrev pub unseen_in : List Row → ℕ
unseen_in rows = count_by (λ r. not r.seen) rows

-- SIZE: the octets of all messages
abbrev pub size_in : List Row → ℕ
size_in rows = sum_by (λ r. length r.octets) rows

-- the greatest size that can be said, 2^63 - 1 (RFC 9051, section 9, `number64`)
abbrev pub max_size : ℕ
max_size = 9223372036854775807
