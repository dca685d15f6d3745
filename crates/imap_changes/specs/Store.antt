-- STORE and UID STORE (RFC 9051, sections 6.4.6 and 6.4.9; RFC 4314, section 4; RFC 7162, section 3.1.3).
use Rattle.std.specs.Prelude.{ℕ, ◌+◌, ◌==◌, nat_lt, Bool, true, false, not, ◌&&◌, ◌||◌, List, [], ◌∷◌, ◌++◌}
use Rattle.std.specs.Prelude.{length, map, Option, Some, None, is_some, option_map, if◌then◌else◌}
use Rattle.std.specs.List.{list_any}
use Rattle.imap_answer.specs.Answer.{Answer, carried_out, enabling, refusal, telling}
use Rattle.imap_batch.specs.declared.batch.FlagUpdate.{FlagUpdate}
use Rattle.imap_batch.specs.Batch.{one_if}
use Rattle.imap_commands.specs.declared.commands.store.StoreChange.{StoreChange}
use Rattle.imap_commands.specs.declared.commands.store.StoreChange.TheVariants.{Add, Remove, Replace}
use Rattle.imap_commands.specs.declared.commands.store.StoreSpec.{StoreSpec}
use Rattle.imap_mailbox.specs.declared.flags.SharedFlags.{SharedFlags}
use Rattle.imap_mailbox.specs.declared.known.KnownMessage.{KnownMessage}
use Rattle.imap_mailbox.specs.Calls.{is_same, same_flags}
use Rattle.imap_mailbox.specs.Flags.{has_too_many, without_flag}
use Rattle.imap_mailbox.specs.Rows.{Row, is_among}
use Rattle.imap_modseq.specs.Numbers.{max_events}
use Rattle.imap_print.specs.declared.enabled.EnabledCapabilities.{EnabledCapabilities}
use Rattle.imap_print.specs.declared.response.Code.{Code}
use Rattle.imap_print.specs.declared.response.Code.TheVariants as code
use Rattle.imap_print.specs.declared.response.Refusal.TheVariants.{Cannot, ExpungeIssued, Limit, Malformed, NonExistent, NoPerm, WrongState}
use Rattle.imap_print.specs.declared.response.Response.{Response}
use Rattle.imap_print.specs.declared.response.Response.TheVariants as response
use Rattle.imap_print.specs.Sets.{set_of}
use Rattle.imap_rights.specs.Rights.{delete_messages, has_any, seen, union, write}
use Rattle.imap_targets.specs.Notices.{notice_items}
use Rattle.imap_targets.specs.State.{Selection, SessionState}
use Rattle.imap_syntax.specs.declared.flag.Flag.{Flag}
use Rattle.imap_syntax.specs.declared.flag.Flag.TheVariants as flag
use Rattle.imap_syntax.specs.declared.set.MessageSet.{MessageSet}
use Rattle.imap_syntax.specs.declared.set.Numbering.{Numbering}
use Rattle.imap_view.specs.declared.readable.Readable.{Readable}
use Rattle.imap_view.specs.Readable.{readable_in}
use Rattle.imap_view.specs.View.{View}
use Rattle.imap_targets.specs.Effects.{marking_effect}
use Rattle.imap_targets.specs.Left.{lacks_events}
use Rattle.imap_changes.specs.declared.store_outcome.StoreOutcome.{StoreOutcome}
use Rattle.imap_targets.specs.declared.message_numbers.Numbered.{Numbered}
use Rattle.imap_targets.specs.MessageNumbers.{has_known_numbers, is_by_uid, is_refused, is_saved, messages_named, ranges_of}
use Rattle.imap_targets.specs.NewFlags.{is_seen, right_for, storing_rights, with_permitted}
use Rattle.imap_targets.specs.UnchangedSince.{skipped_numbers, unskipped}

-- the arguments of STORE
pub record StoreArguments : Type 0 where
  pub numbering : Numbering
  pub messages : MessageSet
  pub spec : StoreSpec

-- ---- rights: `s` is needed for \Seen, `t` for \Deleted, and `w` for all others

abbrev pub may_store : (rights : ℕ) → Bool
may_store rights = has_any rights (union seen (union delete_messages write))

-- a flag of another name with a backslash is passed over
abbrev pub is_kept : Flag → Bool
is_kept (flag.Other word) = false
is_kept _ = true

abbrev pub may_change : (rights : ℕ) → Flag → Bool
may_change rights flag = is_kept flag && has_any rights (right_for flag)

-- the list has flags, and none that may be changed
abbrev pub changes_none : (rights : ℕ) → List Flag → Bool
changes_none rights flags = list_any is_kept flags && not (list_any (may_change rights) flags)

abbrev pub lacks_right : (rights : ℕ) → List Flag → Bool
lacks_right rights flags = not (may_store rights) || changes_none rights flags

-- ---- the flags of a message afterwards

-- without those that the user may change
abbrev pub cleared : (rights : ℕ) → SharedFlags → SharedFlags
cleared rights f = record {
  answered = f.answered && not (has_any rights write);
  deleted = f.deleted && not (has_any rights delete_messages);
  draft = f.draft && not (has_any rights write);
  flagged = f.flagged && not (has_any rights write);
  keywords = if has_any rights write then [] else f.keywords;
}

abbrev pub without_permitted_flag : (rights : ℕ) → Flag → SharedFlags → SharedFlags
without_permitted_flag rights flag f = if has_any rights (right_for flag) then without_flag flag f else f

abbrev pub without_permitted : (rights : ℕ) → List Flag → SharedFlags → SharedFlags
without_permitted rights [] f = f
without_permitted rights (flag ∷ flags) f =
    without_permitted rights flags (without_permitted_flag rights flag f)

abbrev pub flags_changed : (rights : ℕ) → StoreChange → List Flag → SharedFlags → SharedFlags
flags_changed rights Replace flags f = with_permitted rights flags (cleared rights f)
flags_changed rights Add flags f = with_permitted rights flags f
flags_changed rights Remove flags f = without_permitted rights flags f

-- `listed` is whether the list has \Seen
abbrev pub seen_changed : StoreChange → (listed is : Bool) → Bool
seen_changed Replace listed is = listed
seen_changed Add listed is = is || listed
seen_changed Remove listed is = is && not listed

abbrev pub seen_if_permitted : (rights : ℕ) → StoreChange → List Flag → (is : Bool) → Bool
seen_if_permitted rights change flags is =
    if has_any rights seen then seen_changed change (list_any is_seen flags) is else is

-- ---- UNCHANGEDSINCE (RFC 7162, section 3.1.3)

-- MODIFIED tells which messages are skipped, if any are
abbrev pub modified_code : (skipped : List ℕ) → Option Code
modified_code skipped = option_map code.Modified (set_of skipped)

-- UNCHANGEDSINCE enables CONDSTORE (RFC 7162, section 3.1)
abbrev pub enabled_by : StoreSpec → EnabledCapabilities
enabled_by spec = record { condstore = is_some spec.unchanged_since; imap4rev2 = false; qresync = false }

-- ---- a message with its flags afterwards

-- the session knows the message, but was not told all of it
abbrev pub is_behind : Selection → Row → Bool
is_behind s row = is_among row.uid s.known && nat_lt s.up_to row.number

abbrev pub stored_as : (number : ℕ) → (behind : Bool) → Row → SharedFlags → (is : Bool) → StoreOutcome
stored_as number behind row flags is = record {
  number = number;
  uid = row.uid;
  before = row.number;
  behind = behind;
  flags = flags;
  seen = is;
  flags_change = not (same_flags row.flags flags);
  seen_changes = not (is_same row.seen is);
}

abbrev pub stored_of : (rights : ℕ) → StoreSpec → Selection → (number : ℕ) → Row → StoreOutcome
stored_of rights spec s number row = stored_as number (is_behind s row) row
    (flags_changed rights spec.change spec.flags row.flags)
    (seen_if_permitted rights spec.change spec.flags row.seen)

-- the number by which the command names a message, if it does
abbrev pub number_with : (uid : ℕ) → List Numbered → Option ℕ
number_with uid [] = None
number_with uid (m ∷ messages) = if uid == m.uid then Some m.number else number_with uid messages

abbrev pub stored_if_named : (rights : ℕ) → StoreSpec → Selection → (number : Option ℕ) → Row →
    List StoreOutcome
stored_if_named rights spec s None row = []
stored_if_named rights spec s (Some number) row = stored_of rights spec s number row ∷ []

-- the messages that are named and are there, in the order of UIDs
abbrev pub stored_all : (rights : ℕ) → StoreSpec → Selection → List Numbered → List Row →
    List StoreOutcome
stored_all rights spec s messages [] = []
stored_all rights spec s messages (row ∷ rows) =
    stored_if_named rights spec s (number_with row.uid messages) row
    ++ stored_all rights spec s messages rows

-- ---- what is asked of the mailbox

-- of a message that changes
abbrev pub mark_of : StoreOutcome → List FlagUpdate
mark_of m = if m.flags_change || m.seen_changes
    then record {
      uid = m.uid;
      flags = if m.flags_change then Some m.flags else None;
      seen = if m.seen_changes then Some m.seen else None;
    } ∷ []
    else []

abbrev pub marks_of : List StoreOutcome → List FlagUpdate
marks_of [] = []
marks_of (m ∷ messages) = mark_of m ++ marks_of messages

-- ---- limits

abbrev pub changes_by : (test : StoreOutcome → Bool) → List StoreOutcome → ℕ
changes_by test [] = 0
changes_by test (m ∷ messages) = one_if (test m) + changes_by test messages

abbrev pub flag_changes : List StoreOutcome → ℕ
flag_changes messages = changes_by (λ m. m.flags_change) messages

abbrev pub seen_changes : List StoreOutcome → ℕ
seen_changes messages = changes_by (λ m. m.seen_changes) messages

-- events don't suffice for all changes
abbrev pub lacks_changes : Readable → List StoreOutcome → Bool
lacks_changes mailbox messages =
    lacks_events mailbox (flag_changes messages)
    || nat_lt max_events (mailbox.own + seen_changes messages)

-- a message has more keywords than it may have
abbrev pub are_many : List StoreOutcome → Bool
are_many messages = list_any (λ m. has_too_many m.flags) messages

-- ---- lines

-- the events of a message: that of its shared flags, and then that of \Seen
abbrev pub event_count : StoreOutcome → ℕ
event_count m = one_if m.flags_change + one_if m.seen_changes

-- the message afterwards. `after` is HIGHESTMODSEQ after its events
abbrev pub message_after : (after : ℕ) → StoreOutcome → KnownMessage
message_after after m = record {
  uid = m.uid;
  flags = m.flags;
  seen = m.seen;
  number = if m.flags_change || m.seen_changes then after else m.before;
}

abbrev pub full_line : (condstore : Bool) → (number : ℕ) → KnownMessage → Response
full_line condstore number k = response.Fetch number (notice_items condstore k)

-- UID and MODSEQ alone (RFC 7162, section 3.1.3)
abbrev pub short_line : (number : ℕ) → KnownMessage → Response
short_line number k = response.Fetch number (record {
  uid = Some k.uid;
  flags = None;
  internal_date = None;
  size = None;
  mod_seq = Some k.number;
  sections = [];
})

-- With .SILENT a message has its flags told only if the session knows an older state of it
abbrev pub line_of : (silent condstore : Bool) → (after : ℕ) → StoreOutcome → List Response
line_of silent condstore after m =
    if not silent || m.behind then full_line condstore m.number (message_after after m) ∷ []
    else if condstore then short_line m.number (message_after after m) ∷ []
    else []

-- `highest` is HIGHESTMODSEQ before them
abbrev pub lines_from : (silent condstore : Bool) → (highest : ℕ) → List StoreOutcome → List Response
lines_from silent condstore highest [] = []
lines_from silent condstore highest (m ∷ messages) =
    let after = highest + event_count m in
    line_of silent condstore after m ++ lines_from silent condstore after messages

-- ---- the answer

-- lines have MODSEQ if CONDSTORE is enabled, and with UNCHANGEDSINCE, by which it is
abbrev pub tells_mod_seq : EnabledCapabilities → StoreSpec → Bool
tells_mod_seq enabled spec = enabled.condstore || is_some spec.unchanged_since

-- All messages that are stored are told: of one without a line the session knows the new flags, too. `skipped` are
-- the numbers or UIDs of those that are left as they are.
abbrev pub store_events : View → EnabledCapabilities → (tag : List ℕ) → StoreArguments → Selection →
    Readable → (skipped : List ℕ) → List StoreOutcome → Answer
store_events view enabled tag arguments s mailbox skipped messages =
    let spec = arguments.spec in
    if lacks_changes mailbox messages then refusal tag Limit
    else enabling (enabled_by spec) (telling (map (λ m. m.uid) messages)
    (carried_out (lines_from spec.silent (tells_mod_seq enabled spec) mailbox.highest messages) tag
    (modified_code skipped) (marking_effect view.user s.name (marks_of messages))))

-- no message gets too many keywords
abbrev pub store_messages : View → EnabledCapabilities → (tag : List ℕ) → StoreArguments → Selection →
    Readable → (skipped : List ℕ) → List StoreOutcome → Answer
store_messages view enabled tag arguments s mailbox skipped messages =
    if are_many messages then refusal tag Limit
    else store_events view enabled tag arguments s mailbox skipped messages

-- `rights` are those by which flags are stored
abbrev pub store_unskipped : View → EnabledCapabilities → (tag : List ℕ) → StoreArguments → (rights : ℕ) →
    Selection → Readable → List Numbered → Answer
store_unskipped view enabled tag arguments rights s mailbox messages =
    let since = arguments.spec.unchanged_since in
    let skipped = skipped_numbers arguments.numbering since mailbox.rows messages in
    store_messages view enabled tag arguments s mailbox skipped
    (stored_all rights arguments.spec s (unskipped since mailbox.rows messages) mailbox.rows)

abbrev pub store_named : View → EnabledCapabilities → (tag : List ℕ) → StoreArguments → (rights : ℕ) →
    Selection → Readable → List Numbered → Answer
store_named view enabled tag arguments rights s mailbox messages =
    if is_refused (is_by_uid arguments.numbering) mailbox.rows messages then refusal tag ExpungeIssued
    else store_unskipped view enabled tag arguments rights s mailbox messages

abbrev pub messages_of : StoreArguments → (next_uid : ℕ) → (known : List ℕ) → List Numbered
messages_of arguments next_uid known =
    messages_named arguments.numbering next_uid (ranges_of arguments.messages) known

abbrev pub store_if_readable : View → EnabledCapabilities → (tag : List ℕ) → StoreArguments → (rights : ℕ) →
    Selection → Option Readable → Answer
store_if_readable view enabled tag arguments rights s None = refusal tag NonExistent
store_if_readable view enabled tag arguments rights s (Some mailbox) =
    store_named view enabled tag arguments rights s mailbox (messages_of arguments mailbox.next_uid s.known)

abbrev pub store_by_rights : View → EnabledCapabilities → (tag : List ℕ) → StoreArguments → (rights : ℕ) →
    Selection → Answer
store_by_rights view enabled tag arguments rights s =
    if not (has_known_numbers arguments.numbering (length s.known) arguments.messages)
    then refusal tag Malformed
    else if is_saved arguments.messages then refusal tag Cannot
    else if lacks_right rights arguments.spec.flags then refusal tag NoPerm
    else store_if_readable view enabled tag arguments rights s (readable_in view s.name)

abbrev pub store_selected : View → EnabledCapabilities → (tag : List ℕ) → StoreArguments → Selection → Answer
store_selected view enabled tag arguments s =
    store_by_rights view enabled tag arguments (storing_rights view s) s

abbrev pub store_if_selected : View → EnabledCapabilities → (tag : List ℕ) → StoreArguments →
    Option Selection → Answer
store_if_selected view enabled tag arguments None = refusal tag WrongState
store_if_selected view enabled tag arguments (Some s) = store_selected view enabled tag arguments s

abbrev pub store_answer : View → SessionState → (tag : List ℕ) → StoreArguments → Answer
store_answer view own tag arguments = store_if_selected view own.enabled tag arguments own.selected
