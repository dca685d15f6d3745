-- EXPUNGE, UID EXPUNGE and CLOSE (RFC 9051, sections 6.4.1, 6.4.3 and 6.4.9).
use Rattle.std.specs.Prelude.{ℕ, ◌+◌, Bool, true, false, not, ◌&&◌, List, [], ◌∷◌, filter, length, take}
use Rattle.std.specs.Prelude.{Option, Some, None, if◌then◌else◌}
use Rattle.imap_answer.specs.Answer.{Answer, carried_out, refusal}
use Rattle.imap_batch.specs.Batch.{expunging}
use Rattle.imap_mailbox.specs.Lent.{row_uids}
use Rattle.imap_mailbox.specs.Rows.{Row, is_among}
use Rattle.imap_names.specs.Name.{Name}
use Rattle.imap_print.specs.declared.response.Code.{Code}
use Rattle.imap_print.specs.declared.response.Code.TheVariants as code
use Rattle.imap_print.specs.declared.response.Refusal.TheVariants.{Cannot, NonExistent, NoPerm, WrongState}
use Rattle.imap_rights.specs.Rights.{expunge, has_any}
use Rattle.imap_targets.specs.State.{Selection, SessionState}
use Rattle.imap_syntax.specs.declared.set.MessageSet.{MessageSet}
use Rattle.imap_syntax.specs.declared.set.Numbering.TheVariants as numbering
use Rattle.imap_view.specs.declared.readable.Readable.{Readable}
use Rattle.imap_view.specs.Readable.{readable_in}
use Rattle.imap_view.specs.View.{View, rights_in}
use Rattle.imap_world.specs.declared.effect.Effect.{Effect}
use Rattle.imap_targets.specs.Effects.{batch_effect}
use Rattle.imap_targets.specs.Left.{events_left}
use Rattle.imap_targets.specs.MessageNumbers.{in_set, is_saved, last_of, ranges_of}

-- ---- the messages that go

-- the set has the UID, if one is asked for
abbrev pub is_in_asked : (set : Option MessageSet) → (last uid : ℕ) → Bool
is_in_asked None last uid = true
is_in_asked (Some set) last uid = in_set last (ranges_of set) uid

-- and the session knows the message
abbrev pub is_wanted : (set : Option MessageSet) → (last : ℕ) → (known : List ℕ) → (uid : ℕ) → Bool
is_wanted set last known uid = is_among uid known && is_in_asked set last uid

-- and it has \Deleted
abbrev pub is_taken : (set : Option MessageSet) → (last : ℕ) → (known : List ℕ) → Row → Bool
is_taken set last known r = r.flags.deleted && is_wanted set last known r.uid

-- as many as the mailbox has events left for, in the order of UIDs
abbrev pub expunged_uids : (set : Option MessageSet) → (known : List ℕ) → Readable → List ℕ
expunged_uids set known mailbox =
    let last = last_of numbering.Uid mailbox.next_uid known in
    take (events_left mailbox) (row_uids (filter (is_taken set last known) mailbox.rows))

-- ---- what is asked of the mailbox

abbrev pub expunge_effect : (user : List ℕ) → Name → (uids : List ℕ) → Option Effect
expunge_effect user name [] = None
expunge_effect user name (uid ∷ uids) =
    Some (batch_effect name (expunging user (uid ∷ uids)))

-- one who holds `e`, unless the mailbox is examined
abbrev pub may_expunge : View → Selection → Bool
may_expunge view s = not s.read_only && has_any (rights_in view s.name) expunge

-- ---- EXPUNGE and UID EXPUNGE

-- HIGHESTMODSEQ afterwards, if messages went and QRESYNC is enabled (RFC 7162, section 3.2.7)
abbrev pub expunge_code : (qresync : Bool) → Readable → (uids : List ℕ) → Option Code
expunge_code qresync mailbox [] = None
expunge_code qresync mailbox (uid ∷ uids) =
    if qresync then Some (code.HighestModSeq (mailbox.highest + length (uid ∷ uids))) else None

abbrev pub expunge_messages : View → (qresync : Bool) → (tag : List ℕ) → Selection → Readable →
    (uids : List ℕ) → Answer
expunge_messages view qresync tag s mailbox uids =
    carried_out [] tag (expunge_code qresync mailbox uids) (expunge_effect view.user s.name uids)

abbrev pub expunge_if_readable : View → (qresync : Bool) → (tag : List ℕ) → (set : Option MessageSet) →
    Selection → Option Readable → Answer
expunge_if_readable view qresync tag set s None = refusal tag NonExistent
expunge_if_readable view qresync tag set s (Some mailbox) =
    expunge_messages view qresync tag s mailbox (expunged_uids set s.known mailbox)

-- `$` isn't served
abbrev pub is_saved_set : Option MessageSet → Bool
is_saved_set None = false
is_saved_set (Some set) = is_saved set

abbrev pub expunge_selected : View → (qresync : Bool) → (tag : List ℕ) → (set : Option MessageSet) →
    Selection → Answer
expunge_selected view qresync tag set s =
    if is_saved_set set then refusal tag Cannot
    else if not (may_expunge view s) then refusal tag NoPerm
    else expunge_if_readable view qresync tag set s (readable_in view s.name)

abbrev pub expunge_if_selected : View → (qresync : Bool) → (tag : List ℕ) → (set : Option MessageSet) →
    Option Selection → Answer
expunge_if_selected view qresync tag set None = refusal tag WrongState
expunge_if_selected view qresync tag set (Some s) = expunge_selected view qresync tag set s

-- of the messages of the set, or of all
abbrev pub expunge_answer : View → SessionState → (tag : List ℕ) → (set : Option MessageSet) → Answer
expunge_answer view own tag set = expunge_if_selected view own.enabled.qresync tag set own.selected

-- ---- CLOSE

abbrev pub close_effect : View → Selection → Option Readable → Option Effect
close_effect view s None = None
close_effect view s (Some mailbox) =
    if may_expunge view s then expunge_effect view.user s.name (expunged_uids None s.known mailbox) else None

-- it expunges as EXPUNGE does, if the user may, and is never refused for a right
abbrev pub close_selected : View → (tag : List ℕ) → Selection → Answer
close_selected view tag s =
    carried_out [] tag None (close_effect view s (readable_in view s.name))

abbrev pub close_if_selected : View → (tag : List ℕ) → Option Selection → Answer
close_if_selected view tag None = refusal tag WrongState
close_if_selected view tag (Some s) = close_selected view tag s

abbrev pub close_answer : View → SessionState → (tag : List ℕ) → Answer
close_answer view own tag = close_if_selected view tag own.selected
