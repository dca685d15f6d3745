-- The UIDs of rows.
use Rattle.std.proofs.Common.{ℕ, ◌<◌, ◌≤◌, List, length, arith}
use Rattle.std.proofs.lemmas.List.{length-map}
use Rattle.imap_mailbox.specs.Rows.{Row, first_uid}
use Rattle.imap_mailbox.specs.Lent.{row_uids}
use Rattle.imap_mailbox.specs.Summary.{Rises}
use Rattle.imap_mailbox.proofs.Rising.{rises_upper}
use Rattle.imap_session.specs.Held.{UidsRise, uid_limit}
use Rattle.imap_session.proofs.Telling.{rises_length}

pub rows_rise : (next : ℕ) (rows : List Row) → Rises first_uid next (row_uids rows) → next ≤ uid_limit → UidsRise (row_uids rows)
rows_rise next rows h few = rises_upper first_uid next uid_limit (row_uids rows) few h

pub rows_fit : (next : ℕ) (rows : List Row) → Rises first_uid next (row_uids rows) → length rows < next
rows_fit next rows h = let most = rises_length first_uid next (row_uids rows) h in omega (arith, most, length-map rows (λ (r : Row). r.uid))
