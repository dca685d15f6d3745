-- What a FETCH finds along the messages that a session knows.
use Rattle.std.specs.Prelude.{◌≡◌, Bool, List, flat_map}
use Rattle.std.specs.List.{AllByRecursion}
use Rattle.imap_batch.specs.declared.batch.FlagUpdate.{FlagUpdate}
use Rattle.imap_mailbox.specs.Rows.{Row}
use Rattle.imap_print.specs.Lines.{IsPrintable}
use Rattle.imap_view.specs.declared.readable.Readable.{Readable}
use Rattle.imap_messages.specs.declared.reading.Reading.{Reading}
use Rattle.imap_messages.specs.Fetched.{Wanted}
use Rattle.imap_targets.specs.declared.message_numbers.Numbered.{Numbered}
use Rattle.imap_targets.specs.MessageNumbers.{row_with}
use Rattle.imap_messages.specs.Reading.{lines_from, marks_if_there, uids_told}

-- ---- what is found

-- in the order of the messages
abbrev pub marks_named : (sets : Bool) → List Row → List Numbered → List FlagUpdate
marks_named sets rows messages = flat_map (λ m. marks_if_there sets (row_with m.uid rows)) messages

pub record IsReading (wanted : Wanted) (sets : Bool) (mailbox : Readable) (messages : List Numbered)
    (found : Reading) : Type 0 where
  pub lines : found.lines.items
      ≡ lines_from wanted sets mailbox.rows mailbox.highest mailbox.own messages
  pub marks : found.marks.items ≡ marks_named sets mailbox.rows messages
  pub told : found.told.items ≡ uids_told wanted sets mailbox.rows mailbox.own messages
  pub printable : AllByRecursion IsPrintable found.lines.items
