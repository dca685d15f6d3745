-- What a user sees of a batch of that user's own.
use Rattle.std.specs.Prelude.{◌≡◌, ℕ, ◌+◌, ◌-◌, ◌≤◌, nat_lt, Bool, true, if◌then◌else◌}
use Rattle.std.specs.Prelude.{List, [], ◌∷◌, length, Option, Some, None, option_map}
use Rattle.imap_modseq.specs.Numbers.{max_events}
use Rattle.imap_mailbox.specs.declared.flags.SharedFlags.{SharedFlags}
use Rattle.imap_mailbox.specs.Rows.{Added, FlagsSet}
use Rattle.imap_mailbox.specs.Lent.{row_uids}
use Rattle.imap_mailbox.specs.Calls.{arrival}
use Rattle.imap_mailbox.specs.Shown.{Content, Shown, content_after, content_with_seen, if_shown}
use Rattle.imap_mailbox.specs.Shown.{content_expunged, room_in}
use Rattle.imap_batch.specs.declared.batch.NewMessage.{NewMessage}
use Rattle.imap_batch.specs.declared.batch.FlagUpdate.{FlagUpdate}
use Rattle.imap_batch.specs.declared.batch.Batch.{Batch}
use Rattle.imap_batch.specs.Batch.{event_count, mark_uids, has_few_keywords, are_known}

-- ---- to one who may read

-- an own change past the user's events is left away
abbrev pub own_seen : (uid : ℕ) → Bool → Content → Content
own_seen uid seen c = if nat_lt c.own max_events then if_shown uid (content_with_seen uid seen c) c else c

abbrev pub message_seen : NewMessage → Content → Content
message_seen m c = content_after (Added (arrival c.next m.date m.octets m.flags)) c

abbrev pub new_seen : NewMessage → Content → Content
new_seen m c = if m.seen then own_seen c.next true (message_seen m c) else message_seen m c

abbrev pub added_seen : List NewMessage → Content → Content
added_seen [] c = c
added_seen (m ∷ added) c = added_seen added (new_seen m c)

abbrev pub flags_seen : (uid : ℕ) → Option SharedFlags → Content → Content
flags_seen uid None c = c
flags_seen uid (Some flags) c = if_shown uid (content_after (FlagsSet uid flags) c) c

abbrev pub seen_seen : (uid : ℕ) → Option Bool → Content → Content
seen_seen uid None c = c
seen_seen uid (Some seen) c = own_seen uid seen c

abbrev pub mark_seen : FlagUpdate → Content → Content
mark_seen k c = seen_seen k.uid k.seen (flags_seen k.uid k.flags c)

abbrev pub marks_seen : List FlagUpdate → Content → Content
marks_seen [] c = c
marks_seen (k ∷ marks) c = marks_seen marks (mark_seen k c)

abbrev pub content_batched : Batch → Content → Content
content_batched b c = content_expunged b.expunged (marks_seen b.marks (added_seen b.added c))

-- ---- to anyone: who may not read sees what is added as that much less of room, and nothing else

abbrev pub batch_seen_by : (max_messages : ℕ) → Batch → (room : Option ℕ) → Option Content → Shown
batch_seen_by max_messages b room None =
    record { content = None; room = option_map (λ n. n - length b.added) room }
batch_seen_by max_messages b room (Some c) =
    let after = content_batched b c in
    record { content = Some after; room = Some (room_in max_messages after) }

abbrev pub batch_seen : (max_messages : ℕ) → Batch → Shown → Shown
batch_seen max_messages b before = batch_seen_by max_messages b before.room before.content

-- ---- what is possible by what is seen

abbrev pub HasRoomToAdd : (count : ℕ) → Option ℕ → Type 0
HasRoomToAdd count None = count ≡ 0
HasRoomToAdd count (Some room) = count ≤ room

-- rows have the UIDs, and shared events are left. Who sees no rows may only add
abbrev pub CanChange : Batch → Option Content → Type 0
CanChange b None = (b.marks ≡ []) × (b.expunged ≡ [])
CanChange b (Some c) =
    (c.shared + event_count b ≤ max_events)
    × (are_known 0 (mark_uids b.marks) (row_uids c.rows) ≡ true)
    × (are_known 0 b.expunged (row_uids c.rows) ≡ true)

pub record IsPossible (b : Batch) (shown : Shown) : Type 0 where
  pub keywords : has_few_keywords b ≡ true
  pub room : HasRoomToAdd (length b.added) shown.room
  pub content : CanChange b shown.content
