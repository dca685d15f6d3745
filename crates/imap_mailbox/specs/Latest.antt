-- The last change of each UID, in the order of UIDs.
use Rattle.std.specs.Prelude.{◌≡◌, ℕ, ◌<◌, ◌≤◌, ◌==◌, nat_lt, Bool, false, if◌then◌else◌}
use Rattle.std.specs.Prelude.{List, [], ◌∷◌, length, map, Option, Some, None}
use Rattle.std.specs.FinMap.{from_entries, get}
use Rattle.std.specs.List.{HoldsAt, prefix_len}
use Rattle.imap_modseq.specs.Merge.{AreInOrder}
use Rattle.imap_modseq.specs.Numbers.{max_events}
use Rattle.imap_mailbox.specs.declared.kept_change.KeptChange.{KeptChange}
use Rattle.imap_mailbox.specs.Own.{Latest, Own}
use Rattle.imap_mailbox.specs.Recent.{Recent, IsNotedAt, end_of}
use Rattle.imap_mailbox.specs.Summary.{AreRising, IsLast}

abbrev pub last_uids : List KeptChange → List ℕ
last_uids table = map (λ l. l.uid) table

-- as a map
abbrev pub latest_in : List KeptChange → Latest
latest_in table = from_entries (map (λ l. (l.uid, l)) table)

abbrev pub own_in : (befores : List ℕ) → List KeptChange → Own
own_in befores table = record { befores = befores; latest = latest_in table }

-- the last change of the UID
abbrev pub last_in : ℕ → List KeptChange → Option KeptChange
last_in uid [] = None
last_in uid (l ∷ table) = if uid == l.uid then Some l else last_in uid table

-- whether the change set the flag
abbrev pub is_set : Option KeptChange → Bool
is_set None = false
is_set (Some l) = l.seen

-- with another last change of its UID
abbrev pub put_in : KeptChange → List KeptChange → List KeptChange
put_in last [] = last ∷ []
put_in last (l ∷ table) =
    if nat_lt l.uid last.uid then l ∷ put_in last table
    else if l.uid == last.uid then last ∷ table
    else last ∷ l ∷ table

-- ---- where a search stops

-- how many entries have a lower UID
abbrev pub before_uid : ℕ → List KeptChange → ℕ
before_uid uid table = prefix_len (λ l. nat_lt l.uid uid) table

abbrev pub IsAt : ℕ → List KeptChange → ℕ → Type 0
IsAt uid table place = (place < length table) × HoldsAt (λ l. l.uid ≡ uid) table place

-- the place of the UID
abbrev pub IsPlace : ℕ → List KeptChange → ℕ → Type 0
IsPlace uid table place = (place ≡ before_uid uid table) × IsAt uid table place

-- the place that the UID would have, which has no entry
abbrev pub IsGap : ℕ → List KeptChange → ℕ → Type 0
IsGap uid table place = (place ≡ before_uid uid table) × (place ≤ length table) × (IsAt uid table place → ⊥)

-- ---- what the type keeps

-- each last change is one of the user's
abbrev pub AreLast : Own → Type 0
AreLast own = (uid : ℕ) (k : KeptChange) → get own.latest uid ≡ Some k → IsLast own.befores uid k

-- each last change is noted as one of its UID, if it isn't forgotten
pub record AreLastNoted (own : Own) (recent : Recent) : Type 0 where
  pub ends : end_of recent ≡ length own.befores
  pub noted : (uid : ℕ) (k : KeptChange) → get own.latest uid ≡ Some k → IsNotedAt recent k.place uid

-- the table of last changes is in the order of UIDs, and no more messages are counted as seen than there are changes
pub record IsOwnSeen (own : Own) (table : List KeptChange) (seen : ℕ) (recent : Recent) : Type 0 where
  pub few : length own.befores ≤ max_events
  pub order : AreInOrder 0 max_events own.befores
  pub last : AreLast own
  pub rising : AreRising (last_uids table)
  pub short : length table ≤ length own.befores
  pub counted : seen ≤ length own.befores
  pub noted : AreLastNoted own recent
