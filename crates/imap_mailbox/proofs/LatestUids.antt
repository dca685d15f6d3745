-- The UIDs of a user's latest own changes.
use Rattle.std.proofs.Common.{◌≡◌, ◌⊎◌, inl, inr, ℕ, ◌-◌, ◌<◌, ◌≤◌, true, List, drop, Option, Some, None, option_map, refl, arith}
use Rattle.std.proofs.lemmas.Bool.{cases_lt}
use Rattle.std.specs.FinMap.{get}
use Rattle.imap_modseq.specs.Numbers.{own_number_at}
use Rattle.imap_mailbox.specs.declared.kept_change.KeptChange.{KeptChange}
use Rattle.imap_mailbox.specs.Late.{AreEarly}
use Rattle.imap_mailbox.specs.Latest.{AreLast, IsOwnSeen}
use Rattle.imap_mailbox.specs.Own.{Own}
use Rattle.imap_mailbox.specs.Recent.{Recent}
use Rattle.imap_mailbox.specs.Rows.{is_among}
use Rattle.imap_mailbox.specs.Summary.{shown, latest, latest_number}
use Rattle.imap_mailbox.proofs.Last.{number_there}
use Rattle.imap_mailbox.proofs.OwnTables.{among_since}

-- none stands before the first
pub none_early : (n first : ℕ) (bs : List ℕ) → first ≡ 0 → AreEarly n first bs
none_early n first bs none place lt = absurd (omega (arith, lt, none))

-- if the last of them isn't above the number, none before it is
pub early_until : (n first number : ℕ) (bs : List ℕ) → 0 < first → ((earlier : ℕ) → earlier ≤ first - 1 → own_number_at bs earlier ≤ number) → number ≤ n → AreEarly n first bs
early_until n first number bs some rise le place lt = let below = rise place (omega (arith, lt)) in omega (arith, below, le)

-- a last change above the number isn't among the early ones
pub late_place : (n first uid : ℕ) (own : Own) → AreLast own → AreEarly n first own.befores → n < latest_number (latest uid own)
    → (k : KeptChange) × (get own.latest uid ≡ Some k) × (first ≤ k.place)
late_place n first uid own last early above = by (get own.latest uid) refl above
  where
    by : (o : Option KeptChange) → get own.latest uid ≡ o → n < latest_number (option_map shown o) → (k : KeptChange) × (get own.latest uid ≡ Some k) × (first ≤ k.place)
    by None e lt = absurd (omega (arith, lt))
    by (Some k) e lt = (k, e, at (cases_lt k.place first))
      where
        at : (k.place < first) ⊎ (first ≤ k.place) → first ≤ k.place
        at (inl low) = let most = early k.place low in absurd (omega (arith, most, lt, number_there uid own k (last uid k e)))
        at (inr le) = le

-- the UIDs of the changes from a place on have the UID, if its last change is above the number and no change before the
-- place is
abbrev pub IsAmongLate : (number uid place : ℕ) → (uids : List ℕ) → Own → Type 0
IsAmongLate number uid place uids own = AreEarly number place own.befores → number < latest_number (latest uid own) → is_among uid uids ≡ true

pub late_among : (own : Own) (table : List KeptChange) (seen : ℕ) (recent : Recent) → IsOwnSeen own table seen recent → (uids : List ℕ) (place : ℕ) → recent.first ≤ place
    → uids ≡ drop (place - recent.first) recent.uids → (number uid : ℕ) → IsAmongLate number uid place uids own
late_among own table seen recent h uids place first is number uid early above =
    let late = late_place number place uid own h.last early above in
    among_since own table seen recent h uids place first is uid late.0 late.1 late.2
