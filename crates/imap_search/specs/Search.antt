-- SEARCH and UID SEARCH (RFC 9051, sections 6.4.4 and 6.4.9; RFC 7162, section 3.1.5).
use Rattle.std.specs.Prelude.{ℕ, ◌+◌, Bool, true, false, not, ◌||◌, List, [], ◌∷◌, ◌++◌, length, codes}
use Rattle.std.specs.Prelude.{Option, Some, None, if◌then◌else◌}
use Rattle.std.specs.List.{list_any}
use Rattle.std.specs.Str.{str_eq_ignore_ascii_case}
use Rattle.imap_answer.specs.Answer.{Answer, done_after, enabling, refusal}
use Rattle.imap_mailbox.specs.Rows.{Row}
use Rattle.imap_print.specs.declared.enabled.EnabledCapabilities.{EnabledCapabilities}
use Rattle.imap_print.specs.declared.response.Refusal.TheVariants.{BadCharset, Cannot, Malformed, NonExistent, WrongState}
use Rattle.imap_print.specs.declared.response.Response.TheVariants as response
use Rattle.imap_query.specs.declared.search.SearchReturn.{SearchReturn}
use Rattle.imap_query.specs.declared.search.SearchReturn.TheVariants as search_return
use Rattle.imap_query.specs.Keys.{Plain, Token, mod_seq, numbers, uids, unserved}
use Rattle.imap_targets.specs.State.{Selection, SessionState}
use Rattle.imap_syntax.specs.declared.set.Numbering.{Numbering}
use Rattle.imap_targets.specs.MessageNumbers.{are_numbers, is_by_uid, is_saved, last_uid, number_by, ranges_of, row_with}
use Rattle.imap_view.specs.declared.readable.Readable.{Readable}
use Rattle.imap_view.specs.Readable.{readable_in}
use Rattle.imap_view.specs.View.{View}
use Rattle.imap_search.specs.Finds.{Candidate}
use Rattle.imap_search.specs.declared.results.FoundMessage.{FoundMessage}
use Rattle.imap_search.specs.Results.{results_of}
use Rattle.imap_search.specs.Tokens.{finds_all, has_plain}

-- the arguments of SEARCH
pub record SearchArguments : Type 0 where
  pub numbering : Numbering
  pub returns : List SearchReturn
  pub charset : Option (List ℕ)
  pub keys : List Token

-- ---- refusals

-- the key names a number that no message has, where the session knows `count`
abbrev pub names_unknown : (count : ℕ) → Plain → Bool
names_unknown count (numbers messages) = not (are_numbers count (ranges_of messages))
names_unknown count _ = false

abbrev pub is_malformed : (count : ℕ) → List Token → Bool
is_malformed count keys = has_plain (names_unknown count) keys

abbrev pub is_charset : List ℕ → Bool
is_charset name =
    str_eq_ignore_ascii_case name (codes "US-ASCII") || str_eq_ignore_ascii_case name (codes "UTF-8")

abbrev pub is_known_charset : Option (List ℕ) → Bool
is_known_charset None = true
is_known_charset (Some name) = is_charset name

abbrev pub is_save : SearchReturn → Bool
is_save search_return.Save = true
is_save _ = false

-- SENTBEFORE, SENTON, SENTSINCE, and `$` as a set
abbrev pub is_unserved : Plain → Bool
is_unserved unserved = true
is_unserved (numbers messages) = is_saved messages
is_unserved (uids messages) = is_saved messages
is_unserved _ = false

-- the option SAVE, or a key that isn't served
abbrev pub is_impossible : SearchArguments → Bool
is_impossible arguments = list_any is_save arguments.returns || has_plain is_unserved arguments.keys

-- ---- the messages that are found

abbrev pub candidate_of : (last last_uid number : ℕ) → Row → Candidate
candidate_of last last_uid number row =
    record { row = row; number = number; last = last; last_uid = last_uid }

abbrev pub found_of : Numbering → (number : ℕ) → Row → FoundMessage
found_of by number row = record {
  number = number_by by (record { number = number; uid = row.uid });
  mod_seq = row.number;
}

-- a message that is gone is passed over
abbrev pub found_if_there : SearchArguments → (last last_uid number : ℕ) → Option Row → List FoundMessage
found_if_there arguments last last_uid number None = []
found_if_there arguments last last_uid number (Some row) =
    if finds_all (candidate_of last last_uid number row) arguments.keys
    then found_of arguments.numbering number row ∷ []
    else []

-- The messages that all keys find, of those that the session knows. The first one has the number n.
abbrev pub found_from : SearchArguments → (last last_uid : ℕ) → List Row → (n : ℕ) → (known : List ℕ) →
    List FoundMessage
found_from arguments last last_uid rows n [] = []
found_from arguments last last_uid rows n (uid ∷ known) =
    found_if_there arguments last last_uid n (row_with uid rows)
    ++ found_from arguments last last_uid rows (n + 1) known

abbrev pub found_in : SearchArguments → (next_uid : ℕ) → List Row → (known : List ℕ) → List FoundMessage
found_in arguments next_uid rows known =
    found_from arguments (length known) (last_uid next_uid known) rows 1 known

-- ---- the answer

abbrev pub is_mod_seq : Plain → Bool
is_mod_seq (mod_seq least) = true
is_mod_seq _ = false

abbrev pub uses_mod_seq : SearchArguments → Bool
uses_mod_seq arguments = has_plain is_mod_seq arguments.keys

-- the key MODSEQ enables CONDSTORE (RFC 7162, section 3.1), at any depth
abbrev pub enabled_by : SearchArguments → EnabledCapabilities
enabled_by arguments = record { condstore = uses_mod_seq arguments; imap4rev2 = false; qresync = false }

abbrev pub search_messages : (tag : List ℕ) → SearchArguments → List FoundMessage → Answer
search_messages tag arguments found =
    let results = results_of arguments.returns (uses_mod_seq arguments) found in
    let line = response.Search tag (is_by_uid arguments.numbering) results in
    enabling (enabled_by arguments) (done_after (line ∷ []) tag)

abbrev pub search_if_readable : (tag : List ℕ) → SearchArguments → Selection → Option Readable → Answer
search_if_readable tag arguments s None = refusal tag NonExistent
search_if_readable tag arguments s (Some mailbox) =
    search_messages tag arguments (found_in arguments mailbox.next_uid mailbox.rows s.known)

abbrev pub search_selected : View → (tag : List ℕ) → SearchArguments → Selection → Answer
search_selected view tag arguments s =
    if is_malformed (length s.known) arguments.keys then refusal tag Malformed
    else if not (is_known_charset arguments.charset) then refusal tag BadCharset
    else if is_impossible arguments then refusal tag Cannot
    else search_if_readable tag arguments s (readable_in view s.name)

abbrev pub search_if_selected : View → (tag : List ℕ) → SearchArguments → Option Selection → Answer
search_if_selected view tag arguments None = refusal tag WrongState
search_if_selected view tag arguments (Some s) = search_selected view tag arguments s

abbrev pub search_answer : View → SessionState → (tag : List ℕ) → SearchArguments → Answer
search_answer view own tag arguments = search_if_selected view tag arguments own.selected
