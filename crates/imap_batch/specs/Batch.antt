-- What is asked of the messages of one mailbox, and the numbers that are found for it.
use Rattle.std.specs.Prelude.{◌≡◌, ℕ, ◌+◌, ◌-◌, nat_le, nat_lt, ◌==◌, not, Bool, true, ◌&&◌, ◌||◌}
use Rattle.std.specs.Prelude.{if◌then◌else◌, List, [], ◌∷◌, ◌++◌, length, map, take, Option, Some, None}
use Rattle.std.specs.Prelude.{is_some, Result, Ok, Err}
use Rattle.std.specs.List.{list_all}
use Rattle.imap_modseq.specs.Numbers.{max_events}
use Rattle.imap_mailbox.specs.declared.flags.SharedFlags.{SharedFlags}
use Rattle.imap_mailbox.specs.declared.own.SeenChange.{SeenChange}
use Rattle.imap_mailbox.specs.Flags.{has_too_many}
use Rattle.imap_mailbox.specs.Rows.{is_among}
use Rattle.imap_mailbox.specs.History.{end_uid}
use Rattle.imap_mailbox.specs.KeptRows.{dropped_for}
use Rattle.imap_mailbox.specs.Own.{Own, own_at}
use Rattle.imap_mailbox.specs.Summary.{Summary, uids_in}
use Rattle.imap_batch.specs.declared.batch.NewMessage.{NewMessage}
use Rattle.imap_batch.specs.declared.batch.FlagUpdate.{FlagUpdate}
use Rattle.imap_batch.specs.declared.batch.Batch.{Batch}
use Rattle.imap_batch.specs.declared.write.BatchWrite.{BatchWrite}
use Rattle.imap_batch.specs.declared.error.BatchError.{BatchError}
use Rattle.imap_batch.specs.declared.error.BatchError.TheVariants.{Limit, NoSuchUid, Memory}

-- ---- batches of one kind

abbrev pub adding : (user : List ℕ) → List NewMessage → Batch
adding user added = record { user = user; added = added; marks = []; expunged = [] }

abbrev pub marking : (user : List ℕ) → List FlagUpdate → Batch
marking user marks = record { user = user; added = []; marks = marks; expunged = [] }

abbrev pub expunging : (user uids : List ℕ) → Batch
expunging user uids = record { user = user; added = []; marks = []; expunged = uids }

-- ---- what is counted

-- 1 for an event that is one
abbrev pub one_if : Bool → ℕ
one_if b = if b then 1 else 0

-- the shared events of marks
abbrev pub flag_count : List FlagUpdate → ℕ
flag_count [] = 0
flag_count (k ∷ marks) = one_if (is_some k.flags) + flag_count marks

-- the changes of the user's own \Seen of messages that are added
abbrev pub added_seen_count : List NewMessage → ℕ
added_seen_count [] = 0
added_seen_count (m ∷ added) = one_if m.seen + added_seen_count added

abbrev pub mark_seen_count : List FlagUpdate → ℕ
mark_seen_count [] = 0
mark_seen_count (k ∷ marks) = one_if (is_some k.seen) + mark_seen_count marks

abbrev pub seen_count : Batch → ℕ
seen_count b = added_seen_count b.added + mark_seen_count b.marks

-- the shared events
abbrev pub event_count : Batch → ℕ
event_count b = length b.added + (flag_count b.marks + length b.expunged)

abbrev pub mark_uids : List FlagUpdate → List ℕ
mark_uids marks = map (λ k. k.uid) marks

-- ---- what is refused

abbrev pub are_few : Option SharedFlags → Bool
are_few None = true
are_few (Some flags) = not (has_too_many flags)

-- no message gets more keywords than it may have
abbrev pub has_few_keywords : Batch → Bool
has_few_keywords b =
    list_all (λ m. not (has_too_many m.flags)) b.added && list_all (λ k. are_few k.flags) b.marks

-- UIDs are left for the messages, if `next` is UIDNEXT
abbrev pub has_uids : (count next : ℕ) → Bool
has_uids count next = count == 0 || nat_le (next + count) end_uid

-- UIDs and shared events are left
abbrev pub has_numbers : Batch → Summary → Bool
has_numbers b s = has_uids (length b.added) s.next && nat_le (s.shared + event_count b) max_events

-- the UIDs rise from `low` on, and each is one of those that are known
abbrev pub are_known : (low : ℕ) → List ℕ → (known : List ℕ) → Bool
are_known low [] known = true
are_known low (uid ∷ uids) known = nat_le low uid && (is_among uid known && are_known (uid + 1) uids known)

-- messages have the UIDs of marks, and those that are expunged, and both rise
abbrev pub has_messages : Batch → Summary → Bool
has_messages b s =
    are_known 0 (mark_uids b.marks) (uids_in s.messages) && are_known 0 b.expunged (uids_in s.messages)

-- ---- own changes, each after the shared events of its message

abbrev pub own_added : (uid place : ℕ) → List NewMessage → List SeenChange
own_added uid place [] = []
own_added uid place (m ∷ added) =
    (if m.seen then record { before = place + 1; uid = uid; seen = true } ∷ [] else [])
    ++ own_added (uid + 1) (place + 1) added

abbrev pub own_change : (place uid : ℕ) → Option Bool → List SeenChange
own_change place uid None = []
own_change place uid (Some seen) = record { before = place; uid = uid; seen = seen } ∷ []

abbrev pub own_marked : (place : ℕ) → List FlagUpdate → List SeenChange
own_marked place [] = []
own_marked place (k ∷ marks) =
    own_change (place + one_if (is_some k.flags)) k.uid k.seen
    ++ own_marked (place + one_if (is_some k.flags)) marks

-- all that are asked for, if the first message that is added has the UID, and the first event has the place
abbrev pub own_asked : (uid place : ℕ) → Batch → List SeenChange
own_asked uid place b = own_added uid place b.added ++ own_marked (place + length b.added) b.marks

-- those past the user's events are left away
abbrev pub own_made : (uid place own : ℕ) → Batch → List SeenChange
own_made uid place own b = take (max_events - own) (own_asked uid place b)

-- ---- own changes that go

-- a place past the user's events is that of no change
abbrev pub place_list : Option ℕ → List ℕ
place_list None = []
place_list (Some place) = if nat_lt place max_events then place ∷ [] else []

-- the number of shared events before the first of the changes
abbrev pub before_first : List SeenChange → ℕ
before_first [] = 0
before_first (s ∷ changes) = s.before

-- the places of those that go with these changes of different messages, if the next change of the user has
-- `before` shared events before it
abbrev pub dropped_from : (before : ℕ) → Own → List SeenChange → List ℕ
dropped_from before own [] = []
dropped_from before own (s ∷ changes) =
    place_list (dropped_for s.uid before own) ++ dropped_from before own changes

abbrev pub dropped_with : List SeenChange → Own → List ℕ
dropped_with changes own = dropped_from (before_first changes) own changes

-- ---- what is found

abbrev pub write_of : Batch → Summary → BatchWrite
write_of b s = record {
  batch = b;
  first_uid = s.next;
  first_place = s.shared;
  own_before = length (own_at s.own b.user).befores;
  dropped =
      dropped_with (own_made s.next s.shared (length (own_at s.own b.user).befores) b) (own_at s.own b.user);
}

abbrev pub write_for : Batch → Summary → Result BatchWrite BatchError
write_for b s =
    if has_few_keywords b && has_numbers b s
    then (if has_messages b s then Ok (write_of b s) else Err NoSuchUid)
    else Err Limit

-- The call returned the write that is meant, or failed with the error that is meant. Memory may run out only
-- if no error is meant.
abbrev pub Finds : Result BatchWrite BatchError → Result BatchWrite BatchError → Type 0
Finds (Ok write) (Ok wanted) = write ≡ wanted
Finds (Ok write) (Err refusal) = ⊥
Finds (Err error) (Ok wanted) = error ≡ Memory
Finds (Err error) (Err refusal) = error ≡ refusal
