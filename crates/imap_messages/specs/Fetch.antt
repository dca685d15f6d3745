-- FETCH and UID FETCH (RFC 9051, sections 6.4.5 and 6.4.9; RFC 7162, sections 3.1.4 and 3.2.6).
use Rattle.std.specs.Prelude.{ℕ, Bool, true, false, not, ◌&&◌, ◌||◌, List, length}
use Rattle.std.specs.Prelude.{Option, Some, None, is_some, if◌then◌else◌}
use Rattle.std.specs.List.{list_any}
use Rattle.imap_answer.specs.Answer.{Answer, carried_out, enabling, preceded_by, refusal, telling}
use Rattle.imap_print.specs.declared.enabled.EnabledCapabilities.{EnabledCapabilities}
use Rattle.imap_print.specs.declared.response.Refusal.TheVariants.{Cannot, ExpungeIssued, Malformed, NonExistent, WrongState}
use Rattle.imap_print.specs.declared.response.Response.{Response}
use Rattle.imap_query.specs.declared.fetch.FetchItem.{FetchItem}
use Rattle.imap_query.specs.declared.fetch.FetchItem.TheVariants as item
use Rattle.imap_rights.specs.Rights.{has_any, seen}
use Rattle.imap_targets.specs.State.{Selection, SessionState}
use Rattle.imap_syntax.specs.declared.set.MessageSet.{MessageSet}
use Rattle.imap_syntax.specs.declared.set.Numbering.{Numbering}
use Rattle.imap_view.specs.declared.readable.Readable.{Readable}
use Rattle.imap_view.specs.Readable.{readable_in}
use Rattle.imap_view.specs.View.{View, rights_in}
use Rattle.imap_messages.specs.Changed.{changed_of, fetched_set, vanished_lines}
use Rattle.imap_messages.specs.Fetched.{Wanted, wanted_of}
use Rattle.imap_targets.specs.declared.message_numbers.Numbered.{Numbered}
use Rattle.imap_targets.specs.MessageNumbers.{has_known_numbers, is_by_uid, is_refused, is_saved, messages_named, ranges_of}
use Rattle.imap_messages.specs.Reading.{lines_from, read_effect, uids_told}

-- the arguments of FETCH
pub record FetchArguments : Type 0 where
  pub numbering : Numbering
  pub messages : MessageSet
  pub items : List FetchItem
  pub changed_since : Option ℕ
  pub vanished : Bool

-- ---- what is malformed

-- VANISHED is for UID FETCH with CHANGEDSINCE, once QRESYNC is enabled (RFC 7162, section 3.2.6)
abbrev pub may_ask_vanished : EnabledCapabilities → FetchArguments → Bool
may_ask_vanished enabled arguments =
    enabled.qresync && (is_by_uid arguments.numbering && is_some arguments.changed_since)

abbrev pub is_malformed : EnabledCapabilities → (count : ℕ) → FetchArguments → Bool
is_malformed enabled count arguments =
    (arguments.vanished && not (may_ask_vanished enabled arguments))
    || not (has_known_numbers arguments.numbering count arguments.messages)

-- ---- what can't be done

abbrev pub is_unserved : FetchItem → Bool
is_unserved item.Unserved = true
is_unserved _ = false

-- items that aren't served, and `$`
abbrev pub is_impossible : FetchArguments → Bool
is_impossible arguments = list_any is_unserved arguments.items || is_saved arguments.messages

-- ---- what sets \Seen

-- an item that is read and not only peeked at
abbrev pub is_reading : FetchItem → Bool
is_reading (item.Section body) = not body.peek
is_reading _ = false

-- one who holds `s` sets it, unless the mailbox is examined
abbrev pub sets_seen : View → Selection → FetchArguments → Bool
sets_seen view s arguments =
    list_any is_reading arguments.items && (not s.read_only && has_any (rights_in view s.name) seen)

-- ---- the answer

abbrev pub is_mod_seq : FetchItem → Bool
is_mod_seq item.ModSeq = true
is_mod_seq _ = false

-- who asks for MODSEQ, or by CHANGEDSINCE, knows CONDSTORE (RFC 7162, section 3.1)
abbrev pub enabled_by : FetchArguments → EnabledCapabilities
enabled_by arguments = record {
  condstore = list_any is_mod_seq arguments.items || is_some arguments.changed_since;
  imap4rev2 = false;
  qresync = false;
}

-- what enables CONDSTORE is sent the mod-sequence by this command, too
abbrev pub wanted_by : EnabledCapabilities → FetchArguments → Wanted
wanted_by enabled arguments =
    let condstore = enabled.condstore || is_some arguments.changed_since in
    wanted_of (is_by_uid arguments.numbering) condstore arguments.items

abbrev pub messages_of : FetchArguments → (known : List ℕ) → Readable → List Numbered
messages_of arguments known mailbox =
    messages_named arguments.numbering mailbox.next_uid (ranges_of arguments.messages) known

abbrev pub fetched_lines : EnabledCapabilities → FetchArguments → (sets : Bool) → Readable → List Numbered →
    List Response
fetched_lines enabled arguments sets mailbox messages =
    lines_from (wanted_by enabled arguments) sets mailbox.rows mailbox.highest mailbox.own messages

abbrev pub fetched_uids : EnabledCapabilities → FetchArguments → (sets : Bool) → Readable → List Numbered →
    List ℕ
fetched_uids enabled arguments sets mailbox messages =
    uids_told (wanted_by enabled arguments) sets mailbox.rows mailbox.own messages

-- these messages are read
abbrev pub fetch_read : View → EnabledCapabilities → (tag : List ℕ) → FetchArguments → Selection → Readable →
    List Numbered → Answer
fetch_read view enabled tag arguments s mailbox messages =
    let sets = sets_seen view s arguments in
    telling (fetched_uids enabled arguments sets mailbox messages)
    (enabling (enabled_by arguments)
    (carried_out (fetched_lines enabled arguments sets mailbox messages) tag None
    (read_effect sets view.user s.name messages mailbox.rows)))

-- of these messages those that changed are read, after the line of those that went
abbrev pub fetch_changed : View → EnabledCapabilities → (tag : List ℕ) → FetchArguments → Selection →
    Readable → List Numbered → Answer
fetch_changed view enabled tag arguments s mailbox messages =
    let uids = fetched_set (ranges_of arguments.messages) mailbox.next_uid in
    preceded_by (vanished_lines view s.name arguments.vanished arguments.changed_since uids)
    (fetch_read view enabled tag arguments s mailbox
    (changed_of arguments.changed_since mailbox.rows messages))

abbrev pub fetch_messages : View → EnabledCapabilities → (tag : List ℕ) → FetchArguments → Selection →
    Readable → List Numbered → Answer
fetch_messages view enabled tag arguments s mailbox messages =
    if is_refused (is_by_uid arguments.numbering) mailbox.rows messages then refusal tag ExpungeIssued
    else fetch_changed view enabled tag arguments s mailbox messages

abbrev pub fetch_if_readable : View → EnabledCapabilities → (tag : List ℕ) → FetchArguments → Selection →
    Option Readable → Answer
fetch_if_readable view enabled tag arguments s None = refusal tag NonExistent
fetch_if_readable view enabled tag arguments s (Some mailbox) =
    fetch_messages view enabled tag arguments s mailbox (messages_of arguments s.known mailbox)

abbrev pub fetch_selected : View → EnabledCapabilities → (tag : List ℕ) → FetchArguments → Selection → Answer
fetch_selected view enabled tag arguments s =
    if is_malformed enabled (length s.known) arguments then refusal tag Malformed
    else if is_impossible arguments then refusal tag Cannot
    else fetch_if_readable view enabled tag arguments s (readable_in view s.name)

abbrev pub fetch_if_selected : View → EnabledCapabilities → (tag : List ℕ) → FetchArguments →
    Option Selection → Answer
fetch_if_selected view enabled tag arguments None = refusal tag WrongState
fetch_if_selected view enabled tag arguments (Some s) = fetch_selected view enabled tag arguments s

abbrev pub fetch_answer : View → SessionState → (tag : List ℕ) → FetchArguments → Answer
fetch_answer view own tag arguments = fetch_if_selected view own.enabled tag arguments own.selected
