-- A client that was away, and follows the lines of SELECT (RFC 7162, section 3.2.5).
use Rattle.std.specs.Prelude.{◌≡◌, ℕ, ◌-◌, Bool, true, List, [], ◌∷◌, ◌++◌, take}
use Rattle.std.specs.Prelude.{map as map_list, Option, Some, None}
use Rattle.std.specs.FinMap as map
use Rattle.imap_answer.specs.Name.{name_of_text}
use Rattle.imap_commands.specs.declared.commands.select.QresyncArg.{QresyncArg}
use Rattle.imap_commands.specs.declared.commands.select.SelectParameters.{SelectParameters}
use Rattle.imap_mailbox.specs.Client.{Known, fetch, known_of, vanish_all}
use Rattle.imap_mailbox.specs.declared.flags.SharedFlags.{SharedFlags}
use Rattle.imap_mailbox.specs.History.{History, IsLawful, events_of}
use Rattle.imap_mailbox.specs.Rows.{rows_after}
use Rattle.imap_mailbox.specs.Shown.{Content, content_of}
use Rattle.imap_mailbox.specs.Summary.{Summary, rows_of, summary_of}
use Rattle.imap_names.specs.Name.{Name}
use Rattle.imap_print.specs.declared.flag.FlagSet.{FlagSet}
use Rattle.imap_print.specs.declared.response.Response.{Response}
use Rattle.imap_print.specs.declared.response.Response.TheVariants as response
use Rattle.imap_rights.specs.Rights.{has_any, read}
use Rattle.imap_targets.specs.Select.{select_answer}
use Rattle.imap_targets.specs.State.{SessionState}
use Rattle.imap_view.specs.Seen.{Seen}
use Rattle.imap_view.specs.View.{View}
use Rattle.imap_resync.specs.Select.{resync_lines, select_with_parameters}

-- ---- what a client makes of lines

abbrev pub shared_flags : FlagSet → SharedFlags
shared_flags flags = record {
  answered = flags.answered;
  deleted = flags.deleted;
  draft = flags.draft;
  flagged = flags.flagged;
  keywords = flags.keywords;
}

-- the flags of a message, if the line has them and its UID
abbrev pub after_items : (uid : Option ℕ) → Option FlagSet → List Known → List Known
after_items (Some uid) (Some flags) client =
    fetch (record { uid = uid; flags = shared_flags flags; seen = flags.seen }) client
after_items _ _ client = client

abbrev pub after_line : Response → List Known → List Known
after_line (response.Vanished earlier uids) client = vanish_all uids client
after_line (response.Fetch number items) client = after_items items.uid items.flags client
after_line _ client = client

abbrev pub after_lines : List Response → List Known → List Known
after_lines [] client = client
after_lines (line ∷ lines) client = after_lines lines (after_line line client)

-- ---- it is brought up

-- the mailbox, as it is named in the command, is one that the user may read, shows this content, and has the
-- UIDVALIDITY that the client knows
pub record IsResynced (view : View) (mailbox : List ℕ) (known : QresyncArg) (content : Content) : Type 0 where
  pub name : Name
  pub seen : Seen
  pub named : name_of_text view mailbox ≡ Some name
  pub found : map.get view.seen name ≡ Some seen
  pub held : has_any seen.rights read ≡ true
  pub same : seen.validity ≡ Some known.validity
  pub shown : seen.messages.content ≡ Some content

-- the lines of SELECT are those without parameters, and then those of QRESYNC
abbrev pub SelectResyncs : Type 0
SelectResyncs =
    (view : View) (own : SessionState) (tag : List ℕ) (read_only : Bool) (mailbox : List ℕ)
    (parameters : SelectParameters) (known : QresyncArg) (content : Content)
    → parameters.qresync ≡ Some known → IsResynced view mailbox known content
    → (select_with_parameters view own tag read_only mailbox parameters).answer.untagged
    ≡ (select_answer view own tag read_only mailbox).answer.untagged ++ resync_lines known content

-- A client that held what the first n - 1 events of the user give, and follows the untagged lines of SELECT with
-- the mod-sequence n and without known UIDs, holds what a fetch of all messages gives.
abbrev pub ClientIsBroughtUp : Type 0
ClientIsBroughtUp =
    (view : View) (own : SessionState) (tag : List ℕ) (read_only : Bool) (mailbox : List ℕ)
    (parameters : SelectParameters) (known : QresyncArg) (s : Summary) (history : History) (user : List ℕ)
    → parameters.qresync ≡ Some known → known.known_uids ≡ None
    → IsResynced view mailbox known (content_of user s)
    → summary_of history ≡ s → ((other : List ℕ) → IsLawful history other) →
    let held = map_list known_of (rows_after (take (known.mod_seq - 1) (events_of history user))) in
    let lines = (select_with_parameters view own tag read_only mailbox parameters).answer.untagged in
    after_lines lines held ≡ map_list known_of (rows_of s user)
