-- What FETCH says that it told, its lines told (RFC 9051, section 7.5.2).
use Rattle.std.specs.Prelude.{◌≡◌, ℕ, Bool, true, List, ◌∷◌, ◌++◌, Some}
use Rattle.imap_mailbox.specs.Rows.{Row, is_among}
use Rattle.imap_print.specs.declared.fetch.FetchedItems.{FetchedItems}
use Rattle.imap_print.specs.declared.response.Response.{Response}
use Rattle.imap_print.specs.declared.response.Response.TheVariants as response
use Rattle.imap_messages.specs.Fetched.{Wanted, flags_shown}
use Rattle.imap_messages.specs.Reading.{lines_from, row_read, uids_told}
use Rattle.imap_targets.specs.declared.message_numbers.Numbered.{Numbered}
use Rattle.imap_targets.specs.MessageNumbers.{row_with}

-- A line tells the flags of the message with the UID, and its mod-sequence if these are sent, as the command leaves
-- it: with `\Seen` and a mod-sequence above `highest`, if it sets `\Seen`.
pub record IsTold (wanted : Wanted) (rows : List Row) (uid : ℕ) (lines : List Response) : Type 0 where
  pub row : Row
  pub uid_is : row.uid ≡ uid
  pub asked : ℕ
  pub there : row_with asked rows ≡ Some row
  pub set : Bool
  pub highest : ℕ
  pub number : ℕ
  pub items : FetchedItems
  pub flags : items.flags ≡ Some (flags_shown (row_read set highest row))
  pub mod_seq : wanted.mod_seq ≡ true → items.mod_seq ≡ Some (row_read set highest row).number
  pub before : List Response
  pub after : List Response
  pub line : lines ≡ before ++ response.Fetch number items ∷ after

-- Each message that notices then pass over was told by a line of the command.
abbrev pub FetchedMessagesAreTold : Type 0
FetchedMessagesAreTold =
    (wanted : Wanted) (sets : Bool) (rows : List Row) (highest own : ℕ) (messages : List Numbered) (uid : ℕ)
    → is_among uid (uids_told wanted sets rows own messages) ≡ true
    → IsTold wanted rows uid (lines_from wanted sets rows highest own messages)
