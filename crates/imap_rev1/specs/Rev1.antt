-- The dialect of IMAP4rev1.
use Rattle.std.specs.Prelude.{ℕ, Bool, true, false, ◌||◌, List, [], ◌∷◌, ◌++◌, flat_map, drop, codes, decimal}
use Rattle.std.specs.Prelude.{Option, Some, None, if◌then◌else◌}
use Rattle.std.specs.List.{list_any}
use Rattle.imap_lex.specs.Framing.{crlf}
use Rattle.imap_lex.specs.declared.frame.Frame.{Frame}
use Rattle.imap_print.specs.declared.response.Response.{Response}
use Rattle.imap_print.specs.declared.response.Response.TheVariants as response
use Rattle.imap_print.specs.declared.search.SearchResults.{SearchResults}
use Rattle.imap_print.specs.declared.status.StatusValue.{StatusValue}
use Rattle.imap_print.specs.Mailboxes.{value_text}
use Rattle.imap_print.specs.Printed.{line}
use Rattle.imap_print.specs.Strings.{name_text}
use Rattle.imap_print.specs.Words.{in_parentheses}
use Rattle.imap_rev1_frames.specs.declared.asked.Asked.{Asked}
use Rattle.imap_rev1_frames.specs.declared.named.Named.{Named}
use Rattle.imap_rev1_frames.specs.declared.named.Named.TheVariants as named
use Rattle.imap_rev1.specs.declared.rev1.Rev1.{Rev1}
use Rattle.imap_rev1.specs.declared.rev1.Rules.{Rules}
use Rattle.imap_rev1_frames.specs.Asked.{is_labelled, is_recent}
use Rattle.imap_rev1.specs.Labels.{fetch_text}
use Rattle.imap_rev1_frames.specs.Named.{named_by}
use Rattle.imap_rev1_frames.specs.Rewritten.{asked_by, rewritten_frame}
use Rattle.imap_dialect.specs.Telling.{Telling}

-- ---- texts

abbrev pub capabilities : List ℕ
capabilities =
    codes "IMAP4rev1 IMAP4rev2 ACL RIGHTS=texk UIDPLUS MOVE UNSELECT NAMESPACE ESEARCH LITERAL- "
    ++ codes "CHILDREN LIST-EXTENDED LIST-STATUS CONDSTORE ENABLE IDLE QRESYNC"

abbrev pub greeting_text : List ℕ
greeting_text = codes "* PREAUTH [CAPABILITY " ++ capabilities ++ codes "] shared mailbox profile ready"

abbrev pub capability_text : List ℕ
capability_text = codes "* CAPABILITY " ++ capabilities

abbrev pub numbers_text : List ℕ → List ℕ
numbers_text numbers = flat_map (λ n. 32 ∷ decimal n) numbers

abbrev pub set_numbers : Option (List ℕ) → List ℕ
set_numbers (Some numbers) = numbers
set_numbers None = []

-- (RFC 7162, section 3.1.5)
abbrev pub mod_seq_text : Option ℕ → List ℕ
mod_seq_text (Some n) = codes " (MODSEQ " ++ decimal n ++ codes ")"
mod_seq_text None = []

-- the numbers, each greater than the one before (RFC 3501, section 7.2.5)
abbrev pub search_text : SearchResults → List ℕ
search_text results =
    codes "* SEARCH" ++ numbers_text (set_numbers results.all) ++ mod_seq_text results.mod_seq

-- (RFC 3501, section 7.2.3)
abbrev pub lsub_text : (mailbox : List ℕ) → List ℕ
lsub_text mailbox = codes "* LSUB () \"/\" " ++ name_text mailbox

-- No message is recent (RFC 3501, sections 2.3.2 and 7.3.2).
abbrev pub recent_text : List ℕ
recent_text = codes "* 0 RECENT"

-- a value of STATUS, or that of RECENT in its place
abbrev pub item_text : (is_recent : Bool) → StatusValue → List ℕ
item_text is_recent value = if is_recent then codes "RECENT 0" else value_text value

-- whether the first of the items is RECENT
abbrev pub first_recent : (asked : List Asked) → Bool
first_recent [] = false
first_recent (a ∷ asked) = is_recent a

-- the values in the order of the items
abbrev pub items_words : (asked : List Asked) → List StatusValue → List (List ℕ)
items_words asked [] = []
items_words asked (value ∷ values) =
    item_text (first_recent asked) value ∷ items_words (drop 1 asked) values

-- (RFC 3501, section 7.2.4)
abbrev pub status_text : (asked : List Asked) → (mailbox : List ℕ) → List StatusValue → List ℕ
status_text asked mailbox values =
    codes "* STATUS " ++ name_text mailbox ++ codes " " ++ in_parentheses (items_words asked values)

-- ---- rules

abbrev pub is_search : Named → Bool
is_search named.Search = true
is_search _ = false

abbrev pub is_lsub : Named → Bool
is_lsub named.Lsub = true
is_lsub _ = false

abbrev pub is_select : Named → Bool
is_select named.Select = true
is_select _ = false

abbrev pub rules_for : Rev1 → Option Frame → Rules
rules_for state by = record {
  named = named_by state.rev2 by;
  asked = asked_by (named_by state.rev2 by) by;
}

-- the lines in which a reply is told
abbrev pub lines_by : Rules → Response → List (List ℕ)
lines_by rules response.Greeting = (greeting_text ++ crlf) ∷ []
lines_by rules response.Capability = (capability_text ++ crlf) ∷ []
lines_by rules (response.Search tag uid results) =
    if is_search rules.named then (search_text results ++ crlf) ∷ []
    else line (response.Search tag uid results) ∷ []
lines_by rules (response.Exists n) =
    if is_select rules.named then line (response.Exists n) ∷ (recent_text ++ crlf) ∷ []
    else line (response.Exists n) ∷ []
lines_by rules (response.List attributes mailbox) =
    if is_lsub rules.named then (lsub_text mailbox ++ crlf) ∷ []
    else line (response.List attributes mailbox) ∷ []
lines_by rules (response.Status mailbox values) = (status_text rules.asked mailbox values ++ crlf) ∷ []
lines_by rules (response.Fetch number items) =
    if list_any is_labelled rules.asked then (fetch_text rules.asked number items ++ crlf) ∷ []
    else line (response.Fetch number items) ∷ []
lines_by rules other = line other ∷ []

-- their octets
abbrev pub told_by : Rules → Response → List ℕ
told_by rules response.Greeting = greeting_text ++ crlf
told_by rules response.Capability = capability_text ++ crlf
told_by rules (response.Search tag uid results) =
    if is_search rules.named then search_text results ++ crlf else line (response.Search tag uid results)
told_by rules (response.Exists n) =
    if is_select rules.named then line (response.Exists n) ++ (recent_text ++ crlf)
    else line (response.Exists n)
told_by rules (response.List attributes mailbox) =
    if is_lsub rules.named then lsub_text mailbox ++ crlf else line (response.List attributes mailbox)
told_by rules (response.Status mailbox values) = status_text rules.asked mailbox values ++ crlf
told_by rules (response.Fetch number items) =
    if list_any is_labelled rules.asked then fetch_text rules.asked number items ++ crlf
    else line (response.Fetch number items)
told_by rules other = line other

-- the reply says that IMAP4rev2 is enabled (RFC 9051, section 6.3.1)
abbrev pub enables_rev2 : Response → Bool
enables_rev2 (response.Enabled enabled) = enabled.imap4rev2
enables_rev2 _ = false

abbrev pub rev1 : Telling Rev1
rev1 = record {
  next = λ state frame replies. record { rev2 = state.rev2 || list_any enables_rev2 replies };
  rewritten = λ state frame. rewritten_frame state.rev2 frame;
  told = λ state by reply. told_by (rules_for state by) reply;
}
