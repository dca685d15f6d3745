-- SELECT and EXAMINE (RFC 9051, sections 6.3.2 and 6.3.3).
use Rattle.std.specs.Prelude.{ℕ, Bool, not, ◌&&◌, ◌||◌, List, [], ◌∷◌, length}
use Rattle.std.specs.Prelude.{Option, Some, None, if◌then◌else◌}
use Rattle.imap_listing.specs.Access.{missing_right_refusal}
use Rattle.imap_listing.specs.Answer.{carried_out, preceded_by, refusal}
use Rattle.imap_listing.specs.Name.{name_of_text}
use Rattle.imap_listing.specs.MailboxLine.{mailbox_line}
use Rattle.imap_mailbox.specs.Lent.{row_uids}
use Rattle.imap_mailbox.specs.Rows.{Row}
use Rattle.imap_names.specs.Name.{Name}
use Rattle.imap_print.specs.declared.flag.FlagSet.{FlagSet}
use Rattle.imap_print.specs.declared.response.Code.{Code}
use Rattle.imap_print.specs.declared.response.Code.TheVariants.{ReadOnly, ReadWrite}
use Rattle.imap_print.specs.declared.response.Refusal.{Refusal}
use Rattle.imap_print.specs.declared.response.Refusal.TheVariants.{NonExistent}
use Rattle.imap_print.specs.declared.response.Response.{Response}
use Rattle.imap_print.specs.declared.response.Response.TheVariants as response
use Rattle.imap_rights.specs.Rights.{has_any, no_rights, seen, write, insert, delete_messages, expunge}
use Rattle.imap_syntax.specs.Keywords.{with_words}
use Rattle.imap_listing.specs.ReadableMailbox.{Readable}
use Rattle.imap_listing.specs.Readable.{readable_in}
use Rattle.imap_listing.specs.View.{View, rights_in}
use Rattle.imap_session.specs.declared.select.Selecting.{Selecting}
use Rattle.imap_session.specs.State.{Selection, SessionState}

-- ---- flags

abbrev pub with_keywords : List (List ℕ) → List Row → List (List ℕ)
with_keywords words [] = words
with_keywords words (r ∷ rows) = with_keywords (with_words r.flags.keywords words) rows

-- the keywords of messages that are there
abbrev pub keywords_of : List Row → List (List ℕ)
keywords_of rows = with_keywords [] rows

-- the flags that a user with these rights may change for good (RFC 9051, section 7.1; RFC 4314, section 4)
abbrev pub permanent_flags : (rights : ℕ) → (keywords : List (List ℕ)) → FlagSet
permanent_flags rights keywords = record {
  answered = has_any rights write;
  deleted = has_any rights delete_messages;
  draft = has_any rights write;
  flagged = has_any rights write;
  seen = has_any rights seen;
  keywords = if has_any rights write then keywords else [];
}

-- the own \Seen alone makes no mailbox READ-WRITE
abbrev pub may_change : (rights : ℕ) → Bool
may_change rights =
    has_any rights insert
    || (has_any rights expunge || (has_any rights delete_messages || has_any rights write))

abbrev pub mode : (read_only : Bool) → (rights : ℕ) → Code
mode read_only rights = if not read_only && may_change rights then ReadWrite else ReadOnly

-- in a mailbox that is examined nothing is changed
abbrev pub rights_to_change : (read_only : Bool) → (rights : ℕ) → ℕ
rights_to_change read_only rights = if read_only then no_rights else rights

-- ---- lines

-- a mailbox that was selected is closed
abbrev pub closed_line : Option Selection → List Response
closed_line None = []
closed_line (Some old) = response.Closed ∷ []

abbrev pub mailbox_lines : View → Name → (rights : ℕ) → Readable → List Response
mailbox_lines view name rights mailbox =
    response.Flags (keywords_of mailbox.rows)
    ∷ response.Exists (length mailbox.rows)
    ∷ mailbox_line view name
    ∷ response.PermanentFlags (permanent_flags rights (keywords_of mailbox.rows)) (has_any rights write)
    ∷ response.UidValidity mailbox.validity
    ∷ response.UidNext mailbox.next_uid
    ∷ response.HighestModSeq mailbox.highest
    ∷ []

-- ---- answers

-- the session is told of all messages
abbrev pub selected_as : Name → (read_only : Bool) → Readable → Selection
selected_as name read_only mailbox = record {
  name = name;
  validity = mailbox.validity;
  read_only = read_only;
  known = row_uids mailbox.rows;
  up_to = mailbox.highest;
}

abbrev pub selecting : View → SessionState → (tag : List ℕ) → (read_only : Bool) → Name → Readable → Selecting
selecting view own tag read_only name mailbox =
    let rights = rights_in view name in
    let lines = mailbox_lines view name (rights_to_change read_only rights) mailbox in
    let answer = carried_out lines tag (Some (mode read_only rights)) None in
    record {
      answer = preceded_by (closed_line own.selected) answer;
      selection = Some (selected_as name read_only mailbox);
    }

-- then no mailbox is selected any more (RFC 9051, section 6.3.2)
abbrev pub refused_selecting : SessionState → (tag : List ℕ) → Refusal → Selecting
refused_selecting own tag reason =
    record { answer = preceded_by (closed_line own.selected) (refusal tag reason); selection = None }

abbrev pub select_if_readable : View → SessionState → (tag : List ℕ) → (read_only : Bool) → Name →
    Option Readable → Selecting
select_if_readable view own tag read_only name None =
    refused_selecting own tag (missing_right_refusal (rights_in view name))
select_if_readable view own tag read_only name (Some mailbox) = selecting view own tag read_only name mailbox

abbrev pub select_if_named : View → SessionState → (tag : List ℕ) → (read_only : Bool) → Option Name →
    Selecting
select_if_named view own tag read_only None = refused_selecting own tag NonExistent
select_if_named view own tag read_only (Some name) =
    select_if_readable view own tag read_only name (readable_in view name)

-- SELECT, or EXAMINE if it is read-only, of a mailbox as it is named
abbrev pub select_answer : View → SessionState → (tag : List ℕ) → (read_only : Bool) →
    (mailbox : List ℕ) → Selecting
select_answer view own tag read_only mailbox =
    select_if_named view own tag read_only (name_of_text view mailbox)
