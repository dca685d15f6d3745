-- How many messages a user has seen.
use Rattle.std.specs.Prelude.{◌≡◌, ℕ, ◌+◌, ◌-◌, Bool, List, Option, Some, None, count_by, if◌then◌else◌}
use Rattle.std.specs.FinMap as fin
use Rattle.imap_user_map.specs.Rows as users
use Rattle.imap_mailbox.specs.declared.message.Message.{Message}
use Rattle.imap_mailbox.specs.Own.{Own}
use Rattle.imap_mailbox.specs.Owned.{Owned}
use Rattle.imap_mailbox.specs.Summary.{latest, latest_seen, uids_in}

-- how many of the UIDs a user with these own changes has seen
abbrev pub seen_among : Own → List ℕ → ℕ
seen_among own uids = count_by (λ uid. latest_seen (latest uid own)) uids

-- the count after one \Seen was set or taken away
abbrev pub seen_after : (before now : Bool) → ℕ → ℕ
seen_after before now seen = seen - (if before then 1 else 0) + (if now then 1 else 0)

-- messages with these UIDs are expunged
abbrev pub without_gone : List ℕ → Owned → Owned
without_gone uids o = record { own = o.own; room = o.room; seen = o.seen - seen_among o.own uids }

-- the messages that are there have these UIDs
abbrev pub with_count : List ℕ → Owned → Owned
with_count uids o = record { own = o.own; room = o.room; seen = seen_among o.own uids }

-- ---- what the types keep

-- a user's count is the number of these messages that the user has seen
abbrev pub IsCounted : List Message → Option Owned → Type 0
IsCounted messages None = Unit {0}
IsCounted messages (Some o) = o.seen ≡ seen_among o.own (uids_in messages)

abbrev pub AreCounted : List Message → users.Rows Owned → Type 0
AreCounted messages own = (user : List ℕ) → IsCounted messages (fin.get own.map user)

-- counts that were right are so still
abbrev pub StayCounted : List Message → (old new : users.Rows Owned) → Type 0
StayCounted messages old new = AreCounted messages old → AreCounted messages new
