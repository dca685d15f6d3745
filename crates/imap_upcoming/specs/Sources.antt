-- Where the rows of a mailbox come from.
use Rattle.std.specs.Prelude.{List}
use Rattle.imap_batch.specs.Written.{with_batch, MayWrite}
use Rattle.imap_mailbox.specs.Held.{summary_in}
use Rattle.imap_mailbox.specs.Rows.{Row}
use Rattle.imap_mailbox.specs.Summary.{rows_of}
use Rattle.imap_upcoming.specs.declared.source.Source.{Source}
use Rattle.imap_upcoming.specs.declared.source.Source.TheVariants as source

abbrev pub rows_in : Source → List Row
rows_in (source.There rows) = rows
rows_in (source.Planned mailbox w) =
    rows_of (with_batch w.now.batch (summary_in mailbox.now)) w.now.batch.user

-- what is written is what was found for the mailbox as it is
abbrev pub MayPlan : Source → Type 0
MayPlan (source.There rows) = Unit {0}
MayPlan (source.Planned mailbox w) = MayWrite w.now (summary_in mailbox.now)
