-- The rows that are left to a cursor.
use Rattle.std.specs.Prelude.{List}
use Rattle.imap_mailbox.specs.Rows.{Row}
use Rattle.imap_upcoming.specs.declared.upcoming_rows.UpcomingRows.{UpcomingRows}
use Rattle.imap_upcoming.specs.declared.upcoming_rows.UpcomingRows.TheVariants as rows

abbrev pub rows_left : UpcomingRows → List Row
rows_left (rows.There left) = left
rows_left (rows.Planned left) = left
