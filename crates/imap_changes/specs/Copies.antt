-- The copies that COPY and MOVE put into a mailbox (RFC 9051, sections 6.4.7 and 6.4.8; RFC 4314, section 4).
use Rattle.std.specs.Prelude.{ℕ, ◌&&◌, List, [], filter, map, if◌then◌else◌}
use Rattle.imap_batch.specs.declared.batch.NewMessage.{NewMessage}
use Rattle.imap_mailbox.specs.declared.flags.SharedFlags.{SharedFlags}
use Rattle.imap_mailbox.specs.Rows.{Row, is_among}
use Rattle.imap_rights.specs.Rights.{delete_messages, has_any, seen, write}
use Rattle.imap_targets.specs.declared.message_numbers.Numbered.{Numbered}
use Rattle.imap_targets.specs.MessageNumbers.{uids_of}

-- the messages that are named and are there, in the order of UIDs
abbrev pub rows_named : List Numbered → List Row → List Row
rows_named messages rows = filter (λ r. is_among r.uid (uids_of messages)) rows

-- the flags that all users share, of a copy: those for which the user holds the right on the target
abbrev pub flags_kept : (rights : ℕ) → SharedFlags → SharedFlags
flags_kept rights f = record {
  answered = f.answered && has_any rights write;
  deleted = f.deleted && has_any rights delete_messages;
  draft = f.draft && has_any rights write;
  flagged = f.flagged && has_any rights write;
  keywords = if has_any rights write then f.keywords else [];
}

-- The internal date stays. `rights` are those on the target
abbrev pub copy_of : (rights : ℕ) → Row → NewMessage
copy_of rights r = record {
  date = r.date;
  octets = r.octets;
  flags = flags_kept rights r.flags;
  seen = r.seen && has_any rights seen;
}

abbrev pub copies_of : (rights : ℕ) → List Row → List NewMessage
copies_of rights rows = map (copy_of rights) rows
