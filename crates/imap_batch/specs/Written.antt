-- What a batch makes of the messages of a mailbox (RFC 9051, sections 6.3.12 and 6.4).
use Rattle.std.specs.Prelude.{◌≡◌, ℕ, ◌≤◌, nat_lt, Bool, true, if◌then◌else◌}
use Rattle.std.specs.Prelude.{List, [], ◌∷◌, length, Option, Some, None}
use Rattle.imap_modseq.specs.Numbers.{max_events}
use Rattle.imap_mailbox.specs.declared.flags.SharedFlags.{SharedFlags}
use Rattle.imap_mailbox.specs.Held.{Held, own_room}
use Rattle.imap_mailbox.specs.Own.{own_at}
use Rattle.imap_mailbox.specs.Calls.{arrival, if_there}
use Rattle.imap_mailbox.specs.Expunging.{with_expunges}
use Rattle.imap_mailbox.specs.Summary.{Summary, with_arrival, with_flags, with_seen}
use Rattle.imap_batch.specs.declared.batch.NewMessage.{NewMessage}
use Rattle.imap_batch.specs.declared.batch.FlagUpdate.{FlagUpdate}
use Rattle.imap_batch.specs.declared.batch.Batch.{Batch}
use Rattle.imap_batch.specs.declared.write.BatchWrite.{BatchWrite}
use Rattle.imap_batch.specs.Batch.{seen_count, write_of, has_few_keywords, has_numbers, has_messages}

-- ---- messages that are added

-- an own change past the user's events is left away
abbrev pub with_own : List ℕ → (uid : ℕ) → Bool → Summary → Summary
with_own user uid seen s =
    if nat_lt (length (own_at s.own user).befores) max_events then if_there uid (with_seen user uid seen s) s else s

abbrev pub with_message : NewMessage → Summary → Summary
with_message m s = with_arrival (arrival s.next m.date m.octets m.flags) s

abbrev pub with_new : List ℕ → NewMessage → Summary → Summary
with_new user m s = if m.seen then with_own user s.next true (with_message m s) else with_message m s

abbrev pub with_added : List ℕ → List NewMessage → Summary → Summary
with_added user [] s = s
with_added user (m ∷ added) s = with_added user added (with_new user m s)

-- ---- flags that change

abbrev pub with_new_flags : (uid : ℕ) → Option SharedFlags → Summary → Summary
with_new_flags uid None s = s
with_new_flags uid (Some flags) s = if_there uid (with_flags uid flags s) s

abbrev pub with_new_seen : List ℕ → (uid : ℕ) → Option Bool → Summary → Summary
with_new_seen user uid None s = s
with_new_seen user uid (Some seen) s = with_own user uid seen s

-- the shared event comes first
abbrev pub with_mark : List ℕ → FlagUpdate → Summary → Summary
with_mark user k s = with_new_seen user k.uid k.seen (with_new_flags k.uid k.flags s)

abbrev pub with_marks : List ℕ → List FlagUpdate → Summary → Summary
with_marks user [] s = s
with_marks user (k ∷ marks) s = with_marks user marks (with_mark user k s)

-- ---- all of it: messages are added, then flags change, then messages are expunged

abbrev pub with_batch : Batch → Summary → Summary
with_batch b s = with_expunges b.expunged (with_marks b.user b.marks (with_added b.user b.added s))

-- ---- what is asked of a write

-- it is what is found for the mailbox as it is
pub record MayWrite (w : BatchWrite) (s : Summary) : Type 0 where
  pub current : w ≡ write_of w.batch s
  pub keywords : has_few_keywords w.batch ≡ true
  pub numbers : has_numbers w.batch s ≡ true
  pub messages : has_messages w.batch s ≡ true

pub record HasRoomFor (b : Batch) (h : Held) : Type 0 where
  pub added : length b.added ≤ h.add_room
  pub expunged : length b.expunged ≤ h.expunge_room
  pub own : seen_count b ≤ own_room h.own b.user
