-- What a mailbox has left for changes.
use Rattle.std.specs.Prelude.{ℕ, Bool, ◌+◌, ◌-◌, nat_lt}
use Rattle.imap_modseq.specs.Numbers.{max_events}
use Rattle.imap_view.specs.declared.readable.Readable.{Readable}

-- the number of shared events so far. HIGHESTMODSEQ counts them, and the user's own changes, from 1
abbrev pub shared_events : Readable → ℕ
shared_events mailbox = mailbox.highest - (1 + mailbox.own)

-- the number of shared events that may still be
abbrev pub events_left : Readable → ℕ
events_left mailbox = max_events - shared_events mailbox

abbrev pub lacks_events : Readable → (count : ℕ) → Bool
lacks_events mailbox count = nat_lt (events_left mailbox) count
