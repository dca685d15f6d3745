-- What EXPUNGE takes, message by message, and what STORE tells and leaves (RFC 9051, sections 6.4.3, 6.4.6 and 6.4.9;
-- RFC 7162, section 3.1.3).
use Rattle.std.specs.Prelude.{◌≡◌, ℕ, ◌+◌, ◌==◌, ◌≤◌, Bool, true, false, not, ◌&&◌, ◌||◌, List, [], ◌∷◌, ◌++◌}
use Rattle.std.specs.Prelude.{length, Option, Some, None, if◌then◌else◌}
use Rattle.std.specs.List.{list_any}
use Rattle.imap_batch.specs.declared.batch.Batch.{Batch}
use Rattle.imap_batch.specs.declared.batch.FlagUpdate.{FlagUpdate}
use Rattle.imap_batch.specs.Seen.{content_batched}
use Rattle.imap_commands.specs.declared.commands.store.StoreSpec.{StoreSpec}
use Rattle.imap_mailbox.specs.Brought.{IsOrdered, highest_in, told_of}
use Rattle.imap_mailbox.specs.Rows.{Row, is_among}
use Rattle.imap_mailbox.specs.Shown.{Content}
use Rattle.imap_modseq.specs.Numbers.{max_events}
use Rattle.imap_print.specs.declared.response.Response.{Response}
use Rattle.imap_targets.specs.State.{Selection}
use Rattle.imap_syntax.specs.declared.set.MessageSet.{MessageSet}
use Rattle.imap_syntax.specs.declared.set.Numbering.TheVariants as numbering
use Rattle.imap_targets.specs.declared.message_numbers.Numbered.{Numbered}
use Rattle.imap_targets.specs.Left.{events_left}
use Rattle.imap_targets.specs.MessageNumbers.{last_of, row_with}
use Rattle.imap_view.specs.declared.readable.Readable.{Readable}
use Rattle.imap_changes.specs.Expunge.{expunged_uids, is_wanted}
use Rattle.imap_changes.specs.Store.{full_line, is_behind, lines_from, marks_of, number_with, seen_changes, short_line}
use Rattle.imap_changes.specs.Store.{stored_all}
use Rattle.imap_targets.specs.UnchangedSince.{is_skipped, unskipped}

-- ---- EXPUNGE

-- a message with the UID is there, and has \Deleted
abbrev pub is_deleted : (uid : ℕ) → List Row → Bool
is_deleted uid rows = list_any (λ r. (r.uid == uid) && r.flags.deleted) rows

-- it is deleted, the session knows it, and the set has its UID, if there is one
abbrev pub may_go : (set : Option MessageSet) → (known : List ℕ) → Readable → (uid : ℕ) → Bool
may_go set known mailbox uid =
    is_deleted uid mailbox.rows && is_wanted set (last_of numbering.Uid mailbox.next_uid known) known uid

-- no other message goes
abbrev pub ExpungesDeleted : Type 0
ExpungesDeleted =
    (set : Option MessageSet) (known : List ℕ) (mailbox : Readable) (uid : ℕ)
    → is_among uid (expunged_uids set known mailbox) ≡ true → may_go set known mailbox uid ≡ true

-- and each of them goes, if the mailbox has an event left for every row
abbrev pub ExpungesAll : Type 0
ExpungesAll =
    (set : Option MessageSet) (known : List ℕ) (mailbox : Readable) (uid : ℕ)
    → length mailbox.rows ≤ events_left mailbox
    → is_among uid (expunged_uids set known mailbox) ≡ may_go set known mailbox uid

-- ---- STORE

-- the line of a message with its flags and mod-sequence, if the command names it
abbrev pub line_if_named : (condstore : Bool) → (number : Option ℕ) → Row → List Response
line_if_named condstore None row = []
line_if_named condstore (Some number) row = full_line condstore number (told_of row) ∷ []

abbrev pub lines_of : (condstore : Bool) → List Numbered → List Row → List Response
lines_of condstore messages [] = []
lines_of condstore messages (row ∷ rows) =
    line_if_named condstore (number_with row.uid messages) row ++ lines_of condstore messages rows

abbrev pub marking : (user : List ℕ) → List FlagUpdate → Batch
marking user marks = record { user = user; added = []; marks = marks; expunged = [] }

-- The lines of a STORE that isn't silent tell each message that it names as the user then sees it.
abbrev pub StoreTellsWhatItLeaves : Type 0
StoreTellsWhatItLeaves =
    (user : List ℕ) (rights : ℕ) (spec : StoreSpec) (s : Selection) (condstore : Bool)
    (messages : List Numbered) (mailbox : Content) → IsOrdered mailbox →
    let stored = stored_all rights spec s messages mailbox.rows in
    mailbox.own + seen_changes stored ≤ max_events
    → lines_from false condstore (highest_in mailbox) stored
    ≡ lines_of condstore messages (content_batched (marking user (marks_of stored)) mailbox).rows

-- The lines of a message that the command names, as it was before and is after it. With .SILENT its flags are told
-- only if the session was not told all of it before, and else the mod-sequence alone, if any.
abbrev pub lines_if_named : (silent condstore : Bool) → Selection → (number : Option ℕ) → (before after : Row) →
    List Response
lines_if_named silent condstore s None before after = []
lines_if_named silent condstore s (Some number) before after =
    if not silent || is_behind s before then full_line condstore number (told_of after) ∷ []
    else if condstore then short_line number (told_of after) ∷ []
    else []

-- of all messages
abbrev pub lines_left : (silent condstore : Bool) → Selection → List Numbered → (before after : List Row) →
    List Response
lines_left silent condstore s messages [] after = []
lines_left silent condstore s messages (b ∷ before) [] = []
lines_left silent condstore s messages (b ∷ before) (a ∷ after) =
    lines_if_named silent condstore s (number_with b.uid messages) b a
    ++ lines_left silent condstore s messages before after

-- A STORE, silent or not, tells each message that it names of which another changed what the session was told, as
-- its user then sees it.
abbrev pub SilentStoreTellsOthersChanges : Type 0
SilentStoreTellsOthersChanges =
    (user : List ℕ) (rights : ℕ) (spec : StoreSpec) (s : Selection) (silent condstore : Bool)
    (messages : List Numbered) (mailbox : Content) → IsOrdered mailbox →
    let stored = stored_all rights spec s messages mailbox.rows in
    mailbox.own + seen_changes stored ≤ max_events
    → lines_from silent condstore (highest_in mailbox) stored
    ≡ lines_left silent condstore s messages mailbox.rows
    (content_batched (marking user (marks_of stored)) mailbox).rows

-- A message that UNCHANGEDSINCE skips is afterwards as it was, whatever the command names.
abbrev pub SkippedMessagesStay : Type 0
SkippedMessagesStay =
    (user : List ℕ) (rights : ℕ) (spec : StoreSpec) (s : Selection) (messages : List Numbered)
    (mailbox : Content) (m : Numbered) → IsOrdered mailbox →
    let since = spec.unchanged_since in
    let stored = stored_all rights spec s (unskipped since mailbox.rows messages) mailbox.rows in
    is_skipped since mailbox.rows m ≡ true
    → row_with m.uid (content_batched (marking user (marks_of stored)) mailbox).rows
    ≡ row_with m.uid mailbox.rows
