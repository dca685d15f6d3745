-- Seats at a host.
use Rattle.std.specs.Prelude.{ℕ, List, Option, Some, None}
use Rattle.std.specs.FinMap as map
use Rattle.imap_receipts.specs.Settling.{SeatNotes}
use Rattle.imap_host.specs.declared.seat.Seat.{Seat}
use Rattle.imap_user_map.specs.Rows.{Users}

-- what a seat keeps
abbrev pub notes_of : {L : Type 0} → Seat L → SeatNotes
notes_of s = record { who = s.who; base = s.told_base; receipts = s.receipts.items }

-- ---- seats of a user

abbrev pub last_in : Option ℕ → ℕ
last_in None = 0
last_in (Some number) = number

-- the number of the last seat of a user, 0 if there is none
abbrev pub last_of : Users ℕ → (user : List ℕ) → ℕ
last_of numbers user = last_in (map.get numbers user)
