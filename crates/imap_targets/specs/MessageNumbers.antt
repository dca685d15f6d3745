-- The messages that a set of numbers or UIDs names (RFC 9051, sections 2.3.1 and 9, `sequence-set`).
use Rattle.std.specs.Prelude.{ℕ, ◌+◌, ◌==◌, nat_le, Bool, true, false, ◌&&◌, ◌||◌, List, [], ◌∷◌, length, map}
use Rattle.std.specs.Prelude.{Option, Some, None, is_some, nat_lt, not, if◌then◌else◌}
use Rattle.std.specs.List.{list_all, list_any}
use Rattle.imap_mailbox.specs.Rows.{Row}
use Rattle.imap_targets.specs.declared.message_numbers.Numbered.{Numbered}
use Rattle.imap_syntax.specs.declared.set.MessageSet.{MessageSet}
use Rattle.imap_syntax.specs.declared.set.MessageSet.TheVariants.{Numbers, Saved}
use Rattle.imap_syntax.specs.declared.set.Numbering.{Numbering}
use Rattle.imap_syntax.specs.declared.set.Numbering.TheVariants as numbering
use Rattle.imap_syntax.specs.declared.set.SeqNumber.{SeqNumber}
use Rattle.imap_syntax.specs.declared.set.SeqNumber.TheVariants as sequence
use Rattle.imap_syntax.specs.declared.set.SeqRange.{SeqRange}

-- ---- arguments of commands

abbrev pub is_by_uid : Numbering → Bool
is_by_uid numbering.Sequence = false
is_by_uid numbering.Uid = true

abbrev pub ranges_of : MessageSet → List SeqRange
ranges_of Saved = []
ranges_of (Numbers ranges) = ranges

-- `$`, the messages that SEARCH saved (RFC 9051, section 6.4.4.1)
abbrev pub is_saved : MessageSet → Bool
is_saved Saved = true
is_saved (Numbers ranges) = false

-- ---- sets

-- `*` is the last one
abbrev pub end_of : (last : ℕ) → SeqNumber → ℕ
end_of last sequence.Last = last
end_of last (sequence.Number n) = n

-- the ends of a range come in either order
abbrev pub is_between : (first second n : ℕ) → Bool
is_between first second n = (nat_le first n && nat_le n second) || (nat_le second n && nat_le n first)

abbrev pub in_range : (last n : ℕ) → SeqRange → Bool
in_range last n range = is_between (end_of last range.first) (end_of last range.last) n

abbrev pub in_set : (last : ℕ) → List SeqRange → (n : ℕ) → Bool
in_set last ranges n = list_any (in_range last n) ranges

-- ---- numbers of messages, of which there are `count`

abbrev pub is_number : (count n : ℕ) → Bool
is_number count n = nat_le 1 n && nat_le n count

abbrev pub has_numbers : (count : ℕ) → SeqRange → Bool
has_numbers count range =
    is_number count (end_of count range.first) && is_number count (end_of count range.last)

abbrev pub are_numbers : (count : ℕ) → List SeqRange → Bool
are_numbers count ranges = list_all (has_numbers count) ranges

-- each message that is named by its number is known (RFC 9051, section 9, `seq-number`)
abbrev pub has_known_numbers : Numbering → (count : ℕ) → MessageSet → Bool
has_known_numbers by count messages = is_by_uid by || are_numbers count (ranges_of messages)

-- ---- messages of a session

-- the last UID that the session knows, or UIDNEXT if it knows none
abbrev pub last_uid : (next_uid : ℕ) → (known : List ℕ) → ℕ
last_uid next_uid [] = next_uid
last_uid next_uid (uid ∷ known) = last_uid uid known

-- what `*` stands for
abbrev pub last_of : Numbering → (next_uid : ℕ) → (known : List ℕ) → ℕ
last_of numbering.Sequence next_uid known = length known
last_of numbering.Uid next_uid known = last_uid next_uid known

-- the number by which a command names a message
abbrev pub number_by : Numbering → Numbered → ℕ
number_by numbering.Sequence m = m.number
number_by numbering.Uid m = m.uid

-- those of the set, by the UIDs that the session knows. The first message has the number n
abbrev pub messages_from : Numbering → (last : ℕ) → List SeqRange → (n : ℕ) → (known : List ℕ) → List Numbered
messages_from by last ranges n [] = []
messages_from by last ranges n (uid ∷ known) =
    let m : Numbered = record { number = n; uid = uid } in
    if in_set last ranges (number_by by m)
    then m ∷ messages_from by last ranges (n + 1) known
    else messages_from by last ranges (n + 1) known

abbrev pub uids_of : List Numbered → List ℕ
uids_of messages = map (λ m. m.uid) messages

-- the known messages that a command names
abbrev pub messages_named : Numbering → (next_uid : ℕ) → List SeqRange → (known : List ℕ) → List Numbered
messages_named by next_uid ranges known = messages_from by (last_of by next_uid known) ranges 1 known

-- the message with the UID, if it is there
abbrev pub row_with : (uid : ℕ) → List Row → Option Row
row_with uid [] = None
row_with uid (r ∷ rows) = if r.uid == uid then Some r else row_with uid rows

-- the message is there, and its mod-sequence isn't greater
abbrev pub is_unchanged : (number : ℕ) → Option Row → Bool
is_unchanged number None = false
is_unchanged number (Some row) = not (nat_lt number row.number)

-- A message that is named by its number is gone (RFC 9051, section 7.5.1, and RFC 5530, EXPUNGEISSUED). UIDs of
-- messages that are gone are passed over.
abbrev pub is_gone : List Row → Numbered → Bool
is_gone rows m = not (is_some (row_with m.uid rows))

abbrev pub is_refused : (by_uid : Bool) → List Row → List Numbered → Bool
is_refused by_uid rows messages = not by_uid && list_any (is_gone rows) messages
