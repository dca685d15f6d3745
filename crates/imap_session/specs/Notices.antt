-- What a session is told of its mailbox: what became of the messages that it knows by their UIDs, and of which it
-- was told all up to a mod-sequence (RFC 9051, sections 5.2, 7.4.1, 7.5.1 and 7.5.2; RFC 7162, section 3.2.10).
use Rattle.std.specs.Prelude.{ℕ, ◌+◌, Bool, false, List, [], ◌∷◌, ◌++◌, length, Some, None, if◌then◌else◌}
use Rattle.imap_print.specs.declared.response.Response.{Response}
use Rattle.imap_print.specs.declared.response.Response.TheVariants as response
use Rattle.imap_print.specs.declared.fetch.FetchedItems.{FetchedItems}
use Rattle.imap_print.specs.declared.flag.FlagSet.{FlagSet}
use Rattle.imap_mailbox.specs.declared.flags.SharedFlags.{SharedFlags}
use Rattle.imap_mailbox.specs.declared.known.KnownMessage.{KnownMessage}
use Rattle.imap_mailbox.specs.Rows.{Row}
use Rattle.imap_mailbox.specs.Brought.{told_of}
use Rattle.imap_session.specs.declared.options.NoticeOptions.{NoticeOptions}
use Rattle.imap_session.specs.Compared.{Comparison, Expunged, Present, comparisons, new_rows, is_told}
use Rattle.imap_session.specs.Compared.{known_after}

-- the flags that all users share, and the user's own \Seen
abbrev pub flag_set : SharedFlags → (seen : Bool) → FlagSet
flag_set flags seen = record {
  answered = flags.answered;
  deleted = flags.deleted;
  draft = flags.draft;
  flagged = flags.flagged;
  seen = seen;
  keywords = flags.keywords;
}

-- UID and FLAGS, and MODSEQ if CONDSTORE is enabled (RFC 7162, section 3.2)
abbrev pub notice_items : (condstore : Bool) → KnownMessage → FetchedItems
notice_items condstore k = record {
  uid = Some k.uid;
  flags = Some (flag_set k.flags k.seen);
  internal_date = None;
  size = None;
  mod_seq = if condstore then Some k.number else None;
  sections = [];
}

abbrev pub fetch_line : NoticeOptions → ℕ → KnownMessage → Response
fetch_line o n k = response.Fetch n (notice_items o.condstore k)

-- ---- the first comparison is of the message with the number n

-- a line for each expunged message. The number of an expunged message is that of the next one afterwards
abbrev pub expunge_lines : ℕ → List Comparison → List Response
expunge_lines n [] = []
expunge_lines n (Expunged u ∷ cs) = response.Expunge n ∷ expunge_lines n cs
expunge_lines n (Present r ∷ cs) = expunge_lines (n + 1) cs

abbrev pub expunged_uids : List Comparison → List ℕ
expunged_uids [] = []
expunged_uids (Expunged u ∷ cs) = u ∷ expunged_uids cs
expunged_uids (Present r ∷ cs) = expunged_uids cs

-- one line for all UIDs
abbrev pub vanished_line : List ℕ → List Response
vanished_line [] = []
vanished_line (u ∷ uids) = response.Vanished false (u ∷ uids) ∷ []

abbrev pub expunge_notices : NoticeOptions → List Comparison → List Response
expunge_notices o cs =
    if o.expunges then (if o.qresync then vanished_line (expunged_uids cs) else expunge_lines 1 cs) else []

-- a line with the number of messages, if any is new
abbrev pub exists_line : ℕ → List Row → List Response
exists_line count [] = []
exists_line count (r ∷ rows) = response.Exists count ∷ []

-- a line for each message that is still there, but for those that are known as they are and those with the UIDs
-- `told`, of which the command's own lines told all: STORE, and FETCH with FLAGS (RFC 9051, sections 6.4.5 and 6.4.6)
abbrev pub fetch_lines : NoticeOptions → (up_to : ℕ) → (told : List ℕ) → ℕ → List Comparison → List Response
fetch_lines o up_to told n [] = []
fetch_lines o up_to told n (Expunged u ∷ cs) =
    if o.expunges then fetch_lines o up_to told n cs else fetch_lines o up_to told (n + 1) cs
fetch_lines o up_to told n (Present r ∷ cs) =
    if is_told up_to told r
    then fetch_lines o up_to told (n + 1) cs
    else fetch_line o n (told_of r) ∷ fetch_lines o up_to told (n + 1) cs

-- ---- all notices. The session then knows `known_after`

abbrev pub notices : NoticeOptions → (up_to : ℕ) → (told uids : List ℕ) → List Row → List Response
notices o up_to told uids rows =
    expunge_notices o (comparisons uids rows)
    ++ (exists_line (length (known_after o.expunges uids rows)) (new_rows uids rows)
    ++ fetch_lines o up_to told 1 (comparisons uids rows))
