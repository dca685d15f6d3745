-- `\Seen`, which FETCH sets of the messages whose texts it sends (RFC 9051, section 6.4.5).
use Rattle.std.specs.Prelude.{◌≡◌, ℕ, ◌+◌, ◌==◌, Bool, true, false, not, ◌&&◌, ◌||◌, nat_lt, List, [], ◌∷◌, ◌++◌, filter, map}
use Rattle.std.specs.Prelude.{Option, Some, None, if◌then◌else◌}
use Rattle.std.specs.List.{AllByRecursion, list_any}
use Rattle.imap_batch.specs.declared.batch.FlagUpdate.{FlagUpdate}
use Rattle.imap_mailbox.specs.Rows.{Row}
use Rattle.imap_modseq.specs.Numbers.{max_events}
use Rattle.imap_names.specs.Name.{Name}
use Rattle.imap_print.specs.declared.response.Response.{Response}
use Rattle.imap_print.specs.Lines.{IsPrintable}
use Rattle.imap_world.specs.declared.effect.Effect.{Effect}
use Rattle.imap_messages.specs.declared.reading.Reading.{Reading}
use Rattle.imap_messages.specs.Fetched.{Wanted, fetch_line}
use Rattle.imap_targets.specs.declared.message_numbers.Numbered.{Numbered}
use Rattle.imap_targets.specs.Effects.{marking_effect}
use Rattle.imap_targets.specs.MessageNumbers.{row_with}

-- ---- lines. The user made `own` changes of `\Seen`, and `highest` is HIGHESTMODSEQ

-- it wasn't set, and the user has a change left
abbrev pub is_set : (sets : Bool) → (own : ℕ) → Row → Bool
is_set sets own row = sets && (not row.seen && nat_lt own max_events)

-- as the change leaves it
abbrev pub row_read : (set : Bool) → (highest : ℕ) → Row → Row
row_read true highest row = record row { seen = true; number = highest + 1 }
row_read false highest row = row

abbrev pub line_read : Wanted → (sets : Bool) → (highest own number : ℕ) → Row → Response
line_read wanted sets highest own number row =
    fetch_line wanted (is_set sets own row) number (row_read (is_set sets own row) highest row)

-- a message that is gone has no line
abbrev pub line_if_there : Wanted → (sets : Bool) → (highest own number : ℕ) → Option Row → List Response
line_if_there wanted sets highest own number None = []
line_if_there wanted sets highest own number (Some row) =
    line_read wanted sets highest own number row ∷ []

-- one more, if `\Seen` of the message is set
abbrev pub count_after : (sets : Bool) → (own : ℕ) → Option Row → ℕ → ℕ
count_after sets own None n = n
count_after sets own (Some row) n = if is_set sets own row then n + 1 else n

abbrev pub lines_from : Wanted → (sets : Bool) → List Row → (highest own : ℕ) → List Numbered → List Response
lines_from wanted sets rows highest own [] = []
lines_from wanted sets rows highest own (m ∷ messages) =
    let row = row_with m.uid rows in
    line_if_there wanted sets highest own m.number row
    ++ lines_from wanted sets rows (count_after sets own row highest) (count_after sets own row own) messages

-- the UID of a message of which the line tells FLAGS
abbrev pub uid_told : Wanted → (sets : Bool) → (own : ℕ) → Option Row → List ℕ
uid_told wanted sets own None = []
uid_told wanted sets own (Some row) = if wanted.flags || is_set sets own row then row.uid ∷ [] else []

abbrev pub uids_told : Wanted → (sets : Bool) → List Row → (own : ℕ) → List Numbered → List ℕ
uids_told wanted sets rows own [] = []
uids_told wanted sets rows own (m ∷ messages) =
    let row = row_with m.uid rows in
    uid_told wanted sets own row ++ uids_told wanted sets rows (count_after sets own row own) messages

-- ---- what is found on the way

abbrev pub seen_mark : Row → FlagUpdate
seen_mark row = record { uid = row.uid; flags = None; seen = Some true }

-- nothing, if it is set
abbrev pub marks_of : (sets : Bool) → Row → List FlagUpdate
marks_of sets row = if sets && not row.seen then seen_mark row ∷ [] else []

abbrev pub marks_if_there : (sets : Bool) → Option Row → List FlagUpdate
marks_if_there sets None = []
marks_if_there sets (Some row) = marks_of sets row

-- a message was added to what was found, if it is there
pub record IsAdded (wanted : Wanted) (number : ℕ) (row : Option Row) (old new : Reading) : Type 0 where
  pub sets : new.sets ≡ old.sets
  pub highest : new.highest ≡ count_after old.sets old.own row old.highest
  pub own : new.own ≡ count_after old.sets old.own row old.own
  pub lines : new.lines.items
      ≡ old.lines.items ++ line_if_there wanted old.sets old.highest old.own number row
  pub marks : new.marks.items ≡ old.marks.items ++ marks_if_there old.sets row
  pub told : new.told.items ≡ old.told.items ++ uid_told wanted old.sets old.own row
  pub printable : AllByRecursion IsPrintable old.lines.items → AllByRecursion IsPrintable new.lines.items

-- ---- what is asked of the mailbox

abbrev pub is_unread : List Numbered → Row → Bool
is_unread messages row = not row.seen && list_any (λ m. m.uid == row.uid) messages

-- in the order of UIDs
abbrev pub seen_marks : List Numbered → List Row → List FlagUpdate
seen_marks messages rows = map seen_mark (filter (is_unread messages) rows)

abbrev pub read_effect : (sets : Bool) → (user : List ℕ) → Name → List Numbered → List Row → Option Effect
read_effect sets user name messages rows =
    if sets then marking_effect user name (seen_marks messages rows) else None
