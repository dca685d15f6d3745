-- The messages that a key of SEARCH finds (RFC 9051, section 6.4.4; RFC 7162, section 3.1.5).
use Rattle.std.specs.Prelude.{ℕ, ℤ, nat_le, nat_lt, int_lt, Bool, true, false, not, ◌&&◌, ◌||◌, List, length, codes}
use Rattle.std.specs.List.{list_any}
use Rattle.std.specs.Ordering.{int_eq}
use Rattle.std.specs.Str.{str_eq_ignore_ascii_case}
use Rattle.imap_mailbox.specs.Rows.{Row}
use Rattle.imap_query.specs.declared.search.SearchIn.{SearchIn}
use Rattle.imap_query.specs.declared.search.SearchIn.TheVariants as search_in
use Rattle.imap_query.specs.declared.search.SearchDate.{SearchDate}
use Rattle.imap_query.specs.declared.search.SearchDate.TheVariants as search_date
use Rattle.imap_query.specs.Keys.{Plain, all, flagged, contains, header, dated, larger, smaller, mod_seq}
use Rattle.imap_query.specs.Keys.{numbers, uids, unserved, Key, plain, negated, either, group, Keys, end, more}
use Rattle.imap_syntax.specs.DayNumbers.{day_number}
use Rattle.imap_syntax.specs.declared.flag.Flag.{Flag}
use Rattle.imap_syntax.specs.declared.flag.Flag.TheVariants as flag
use Rattle.imap_text.specs.Fields.{field_texts}
use Rattle.imap_text.specs.Folds.{fold}
use Rattle.imap_text.specs.Sections.{text}
use Rattle.imap_targets.specs.MessageNumbers.{in_set, ranges_of}
use Rattle.imap_search.specs.Within.{is_within}

-- a message with its number in the session. `last` is what `*` stands for in a set of numbers, `last_uid` in one of
-- UIDs
pub record Candidate : Type 0 where
  pub row : Row
  pub number : ℕ
  pub last : ℕ
  pub last_uid : ℕ

-- ---- flags. \Seen is the user's own. No message has a flag with a backslash that isn't one of the five

abbrev pub has_keyword : List ℕ → List (List ℕ) → Bool
has_keyword word keywords = list_any (λ k. str_eq_ignore_ascii_case k word) keywords

abbrev pub has_flag : Flag → Row → Bool
has_flag flag.Answered row = row.flags.answered
has_flag flag.Deleted row = row.flags.deleted
has_flag flag.Draft row = row.flags.draft
has_flag flag.Flagged row = row.flags.flagged
has_flag flag.Seen row = row.seen
has_flag (flag.Other word) row = false
has_flag (flag.Keyword word) row = has_keyword word row.flags.keywords

abbrev pub is_as : (wanted is : Bool) → Bool
is_as true is = is
is_as false is = not is

-- ---- texts, compared by their folds

abbrev pub has_text : (wanted octets : List ℕ) → Bool
has_text wanted octets = is_within (fold wanted) (fold octets)

-- the text stands in a field of this name. An empty text stands in each field
abbrev pub has_field : (name wanted octets : List ℕ) → Bool
has_field name wanted octets = list_any (has_text wanted) (field_texts name octets)

abbrev pub has_text_in : SearchIn → (wanted octets : List ℕ) → Bool
has_text_in search_in.Bcc wanted octets = has_field (codes "Bcc") wanted octets
has_text_in search_in.Body wanted octets = has_text wanted (text octets)
has_text_in search_in.Cc wanted octets = has_field (codes "Cc") wanted octets
has_text_in search_in.From wanted octets = has_field (codes "From") wanted octets
has_text_in search_in.Subject wanted octets = has_field (codes "Subject") wanted octets
has_text_in search_in.Text wanted octets = has_text wanted octets
has_text_in search_in.To wanted octets = has_field (codes "To") wanted octets

-- ---- the day of the internal date, as it is written. The zone is passed over

abbrev pub is_dated : SearchDate → (day wanted : ℤ) → Bool
is_dated search_date.Before day wanted = int_lt day wanted
is_dated search_date.On day wanted = int_eq day wanted
is_dated search_date.Since day wanted = not (int_lt day wanted)

-- ---- keys

abbrev pub finds_plain : Candidate → Plain → Bool
finds_plain c all = true
finds_plain c (flagged flag set) = is_as set (has_flag flag c.row)
finds_plain c (contains place wanted) = has_text_in place wanted c.row.octets
finds_plain c (header field wanted) = has_field field wanted c.row.octets
finds_plain c (dated relation day) = is_dated relation (day_number c.row.date.date) (day_number day)
finds_plain c (larger size) = nat_lt size (length c.row.octets)
finds_plain c (smaller size) = nat_lt (length c.row.octets) size
finds_plain c (mod_seq least) = nat_le least c.row.number
finds_plain c (numbers messages) = in_set c.last (ranges_of messages) c.number
finds_plain c (uids messages) = in_set c.last_uid (ranges_of messages) c.row.uid
finds_plain c unserved = false

abbrev mutual
  pub finds : Candidate → Key → Bool
  finds c (plain key) = finds_plain c key
  finds c (negated key) = not (finds c key)
  finds c (either left right) = finds c left || finds c right
  finds c (group keys) = finds_each c keys

  -- each of the keys finds it
  pub finds_each : Candidate → Keys → Bool
  finds_each c end = true
  finds_each c (more key others) = finds c key && finds_each c others
