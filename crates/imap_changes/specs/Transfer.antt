-- COPY and MOVE, and their forms by UID (RFC 9051, sections 6.4.7, 6.4.8 and 6.4.9; RFC 4314, section 4).
use Rattle.std.specs.Prelude.{ℕ, ◌+◌, nat_lt, Bool, true, not, ◌&&◌, ◌||◌, List, [], ◌∷◌, length}
use Rattle.std.specs.Prelude.{Option, Some, None, option_map, if◌then◌else◌}
use Rattle.std.specs.FinMap as map
use Rattle.imap_answer.specs.Answer.{Answer, carried_out, refusal}
use Rattle.imap_answer.specs.Name.{if_named}
use Rattle.imap_batch.specs.Batch.{adding, expunging}
use Rattle.imap_batch.specs.declared.batch.NewMessage.{NewMessage}
use Rattle.imap_mailbox.specs.Lent.{row_uids}
use Rattle.imap_mailbox.specs.Rows.{Row}
use Rattle.imap_names.specs.Name.{Name}
use Rattle.imap_print.specs.declared.copied.CopiedUids.{CopiedUids}
use Rattle.imap_print.specs.declared.response.Code.{Code}
use Rattle.imap_print.specs.declared.response.Code.TheVariants as code
use Rattle.imap_print.specs.declared.response.Refusal.TheVariants.{Cannot, ExpungeIssued, Limit, Malformed}
use Rattle.imap_print.specs.declared.response.Refusal.TheVariants.{NonExistent, NoPerm, OverQuota, WrongState}
use Rattle.imap_print.specs.declared.response.Response.{Response}
use Rattle.imap_print.specs.declared.response.Response.TheVariants as response
use Rattle.imap_rights.specs.Rights.{delete_messages, expunge, has_any, insert}
use Rattle.imap_targets.specs.State.{Selection, SessionState}
use Rattle.imap_syntax.specs.declared.set.MessageSet.{MessageSet}
use Rattle.imap_syntax.specs.declared.set.Numbering.{Numbering}
use Rattle.imap_targets.specs.declared.message_numbers.Numbered.{Numbered}
use Rattle.imap_targets.specs.Effects.{batch_effect, named_batch}
use Rattle.imap_targets.specs.Left.{lacks_events}
use Rattle.imap_targets.specs.MessageNumbers.{has_known_numbers, is_by_uid, is_refused, is_saved, messages_named}
use Rattle.imap_targets.specs.MessageNumbers.{ranges_of}
use Rattle.imap_targets.specs.Target.{target_refusal}
use Rattle.imap_view.specs.declared.readable.Readable.{Readable}
use Rattle.imap_view.specs.Readable.{readable_in}
use Rattle.imap_view.specs.Seen.{Seen}
use Rattle.imap_view.specs.View.{View, rights_in}
use Rattle.imap_world.specs.declared.effect.Effect.{Effect}
use Rattle.imap_world.specs.declared.effect.Effect.TheVariants as effect
use Rattle.imap_world.specs.Messages.{is_same_name}
use Rattle.imap_changes.specs.declared.transfer_kind.TransferKind.{TransferKind}
use Rattle.imap_changes.specs.declared.transfer_kind.TransferKind.TheVariants.{Copy, Move}
use Rattle.imap_changes.specs.Copies.{copies_of, rows_named}
use Rattle.imap_changes.specs.CopiedUids.{copied_uids}

-- the arguments of COPY or MOVE
pub record TransferArguments : Type 0 where
  pub kind : TransferKind
  pub numbering : Numbering
  pub messages : MessageSet
  pub mailbox : List ℕ

-- ---- what is asked of the mailboxes

abbrev pub copy_effect : (user : List ℕ) → (target : Name) → List NewMessage → Option Effect
copy_effect user target [] = None
copy_effect user target (m ∷ copies) =
    Some (batch_effect target (adding user (m ∷ copies)))

-- within one mailbox: all copies are added before a message is expunged
abbrev pub move_within : (user : List ℕ) → Name → List NewMessage → (uids : List ℕ) → Effect
move_within user name copies uids =
    batch_effect name (record { user = user; added = copies; marks = []; expunged = uids })

-- between two mailboxes: both change at once, the target first
abbrev pub move_between :
    (user : List ℕ) → (target source : Name) → List NewMessage → (uids : List ℕ) → Effect
move_between user target source copies uids = effect.Messages
    (named_batch target (adding user copies)) (Some (named_batch source (expunging user uids)))

abbrev pub move_effect :
    (user : List ℕ) → (target source : Name) → List NewMessage → (uids : List ℕ) → Option Effect
move_effect user target source copies [] = None
move_effect user target source copies (uid ∷ uids) =
    if is_same_name source target then Some (move_within user target copies (uid ∷ uids))
    else Some (move_between user target source copies (uid ∷ uids))

-- ---- limits

-- how many messages may be added, as far as the user may know
abbrev pub room_left : Option ℕ → ℕ
room_left None = 0
room_left (Some room) = room

abbrev pub lacks_room : Seen → (count : ℕ) → Bool
lacks_room seen count = nat_lt (room_left seen.messages.room) count

-- the shared events of the source, of which a move within it has two for each message
abbrev pub source_events : (within : Bool) → (count : ℕ) → ℕ
source_events within count = if within then count + count else count

abbrev pub lacks_move_events : Readable → (within : Bool) → (count : ℕ) → Bool
lacks_move_events mailbox within count = lacks_events mailbox (source_events within count)

-- ---- COPY

abbrev pub copy_code : Option CopiedUids → Option Code
copy_code copied = option_map code.CopyUid copied

-- Either all messages are copied or none. `uids` are those that they have in the source
abbrev pub copy_messages :
    View → (tag : List ℕ) → (target : Name) → Seen → (uids : List ℕ) → List NewMessage → Answer
copy_messages view tag target seen uids copies =
    if lacks_room seen (length uids) then refusal tag OverQuota
    else carried_out [] tag (copy_code (copied_uids seen uids)) (copy_effect view.user target copies)

-- ---- MOVE

-- the UIDs are told before the messages go
abbrev pub moved_lines : Option CopiedUids → List Response
moved_lines None = []
moved_lines (Some copied) = response.Moved copied ∷ []

-- either all messages are moved or none
abbrev pub move_messages :
    View → (tag : List ℕ) → Selection → Readable → (target : Name) → Seen → (uids : List ℕ) →
    List NewMessage → Answer
move_messages view tag s mailbox target seen uids copies =
    if lacks_room seen (length uids) then refusal tag OverQuota
    else if lacks_move_events mailbox (is_same_name s.name target) (length uids) then refusal tag Limit
    else carried_out (moved_lines (copied_uids seen uids)) tag None
    (move_effect view.user target s.name copies uids)

-- ---- both

abbrev pub transfer_messages :
    TransferKind → View → (tag : List ℕ) → Selection → Readable → (target : Name) → Seen →
    (uids : List ℕ) → List NewMessage → Answer
transfer_messages Copy view tag s mailbox target seen uids copies =
    copy_messages view tag target seen uids copies
transfer_messages Move view tag s mailbox target seen uids copies =
    move_messages view tag s mailbox target seen uids copies

abbrev pub transfer_rows :
    TransferKind → View → (tag : List ℕ) → Selection → Readable → (target : Name) → Seen → List Row → Answer
transfer_rows kind view tag s mailbox target seen rows =
    transfer_messages kind view tag s mailbox target seen (row_uids rows) (copies_of seen.rights rows)

abbrev pub transfer_named :
    View → (tag : List ℕ) → TransferArguments → Selection → Readable → (target : Name) → Seen →
    List Numbered → Answer
transfer_named view tag arguments s mailbox target seen messages =
    if is_refused (is_by_uid arguments.numbering) mailbox.rows messages then refusal tag ExpungeIssued
    else transfer_rows arguments.kind view tag s mailbox target seen (rows_named messages mailbox.rows)

abbrev pub messages_of : TransferArguments → (next_uid : ℕ) → (known : List ℕ) → List Numbered
messages_of arguments next_uid known =
    messages_named arguments.numbering next_uid (ranges_of arguments.messages) known

-- the rights on the target are the user's own, also if it is the selected mailbox and was examined
abbrev pub transfer_to_seen :
    View → (tag : List ℕ) → TransferArguments → Selection → Readable → (target : Name) → Option Seen → Answer
transfer_to_seen view tag arguments s mailbox target None = refusal tag (target_refusal view target)
transfer_to_seen view tag arguments s mailbox target (Some seen) =
    if not (has_any seen.rights insert) then refusal tag (target_refusal view target)
    else transfer_named view tag arguments s mailbox target seen
    (messages_of arguments mailbox.next_uid s.known)

abbrev pub transfer_to_name :
    View → (tag : List ℕ) → TransferArguments → Selection → Readable → (target : Name) → Answer
transfer_to_name view tag arguments s mailbox target =
    transfer_to_seen view tag arguments s mailbox target (map.get view.seen target)

abbrev pub transfer_if_readable :
    View → (tag : List ℕ) → TransferArguments → Selection → Option Readable → Answer
transfer_if_readable view tag arguments s None = refusal tag NonExistent
transfer_if_readable view tag arguments s (Some mailbox) =
    if_named view tag arguments.mailbox (transfer_to_name view tag arguments s mailbox)

-- `t` and `e` on the selected mailbox
abbrev pub holds_move_rights : View → Selection → Bool
holds_move_rights view s =
    has_any (rights_in view s.name) delete_messages && has_any (rights_in view s.name) expunge

-- MOVE takes messages away, which isn't done in a mailbox that is examined
abbrev pub may_take : TransferKind → View → Selection → Bool
may_take Copy view s = true
may_take Move view s = not s.read_only && holds_move_rights view s

-- `$` isn't served
abbrev pub transfer_selected : View → (tag : List ℕ) → TransferArguments → Selection → Answer
transfer_selected view tag arguments s =
    if not (has_known_numbers arguments.numbering (length s.known) arguments.messages)
    then refusal tag Malformed
    else if is_saved arguments.messages then refusal tag Cannot
    else if not (may_take arguments.kind view s) then refusal tag NoPerm
    else transfer_if_readable view tag arguments s (readable_in view s.name)

abbrev pub transfer_if_selected : View → (tag : List ℕ) → TransferArguments → Option Selection → Answer
transfer_if_selected view tag arguments None = refusal tag WrongState
transfer_if_selected view tag arguments (Some s) = transfer_selected view tag arguments s

abbrev pub transfer_answer : View → SessionState → (tag : List ℕ) → TransferArguments → Answer
transfer_answer view own tag arguments = transfer_if_selected view tag arguments own.selected
