-- The UIDs of a user's latest own changes.
use Rattle.std.specs.Prelude.{ℕ, ◌<◌, ◌≤◌, nat_le, Bool, ◌&&◌, ◌||◌, List}
use Rattle.imap_modseq.specs.Numbers.{own_number_at}
use Rattle.imap_mailbox.specs.declared.late.LateUids.{LateUids}

abbrev pub may_have : LateUids → ℕ → Bool
may_have late uid = late.all || (nat_le late.low uid && nat_le uid late.high)

-- the changes before the place `end` are at most at the number
abbrev pub AreEarly : (number end : ℕ) → (befores : List ℕ) → Type 0
AreEarly number end befores = (place : ℕ) → place < end → own_number_at befores place ≤ number
