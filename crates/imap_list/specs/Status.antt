-- STATUS (RFC 9051, sections 6.3.11 and 7.3.4; RFC 7162, section 3.1.7).
use Rattle.std.specs.Prelude.{ℕ, min, Bool, true, false, List, [], ◌∷◌, length, map as map_list}
use Rattle.std.specs.Prelude.{Option, Some, None, option_map}
use Rattle.std.specs.List.{list_any}
use Rattle.imap_answer.specs.Access.{missing_right_refusal}
use Rattle.imap_answer.specs.Answer.{Answer, done_after, enabling, refusal}
use Rattle.imap_answer.specs.Name.{if_named}
use Rattle.imap_mailbox.specs.Status.{deleted_in, max_size, size_in, unseen_in}
use Rattle.imap_names.specs.Name.{Name}
use Rattle.imap_names.specs.Showing.{shown}
use Rattle.imap_print.specs.declared.enabled.EnabledCapabilities.{EnabledCapabilities}
use Rattle.imap_print.specs.declared.response.Response.{Response}
use Rattle.imap_print.specs.declared.response.Response.TheVariants as response
use Rattle.imap_print.specs.declared.status.StatusValue.{StatusValue}
use Rattle.imap_query.specs.declared.status.StatusItem.{StatusItem}
use Rattle.imap_query.specs.declared.status.StatusItem.TheVariants as item
use Rattle.imap_view.specs.declared.readable.Readable.{Readable}
use Rattle.imap_view.specs.Readable.{readable_in}
use Rattle.imap_view.specs.View.{View, rights_in}

abbrev pub status_number : Readable → StatusItem → ℕ
status_number mailbox item.Messages = length mailbox.rows
status_number mailbox item.UidNext = mailbox.next_uid
status_number mailbox item.UidValidity = mailbox.validity
status_number mailbox item.Unseen = unseen_in mailbox.rows
status_number mailbox item.Deleted = deleted_in mailbox.rows
status_number mailbox item.Size = min max_size (size_in mailbox.rows)
status_number mailbox item.HighestModSeq = mailbox.highest

abbrev pub status_value : Readable → StatusItem → StatusValue
status_value mailbox item = record { item = item; value = status_number mailbox item }

-- the items in the order in which they are asked for
abbrev pub status_line : (user : List ℕ) → Name → List StatusItem → Readable → Response
status_line user name items mailbox =
    response.Status (shown user name) (map_list (status_value mailbox) items)

-- of the mailbox, if the user may read it
abbrev pub status_in : View → List StatusItem → Name → Option Response
status_in view items name = option_map (status_line view.user name items) (readable_in view name)

abbrev pub is_highest : StatusItem → Bool
is_highest item.HighestModSeq = true
is_highest _ = false

-- who asks for HIGHESTMODSEQ knows CONDSTORE (RFC 7162, section 3.1)
abbrev pub enabled_by : List StatusItem → EnabledCapabilities
enabled_by items = record { condstore = list_any is_highest items; imap4rev2 = false; qresync = false }

abbrev pub answer_of_line : View → (tag : List ℕ) → List StatusItem → Name → Option Response → Answer
answer_of_line view tag items name None = refusal tag (missing_right_refusal (rights_in view name))
answer_of_line view tag items name (Some line) = enabling (enabled_by items) (done_after (line ∷ []) tag)

abbrev pub status_of_name : View → (tag : List ℕ) → List StatusItem → Name → Answer
status_of_name view tag items name = answer_of_line view tag items name (status_in view items name)

abbrev pub status_answer : View → (tag mailbox : List ℕ) → List StatusItem → Answer
status_answer view tag mailbox items = if_named view tag mailbox (status_of_name view tag items)
