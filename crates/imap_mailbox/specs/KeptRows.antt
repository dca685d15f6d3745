-- Which of a user's own changes are kept, and which goes when a change comes.
use Rattle.std.specs.Prelude.{◌≡◌, ℕ, ◌+◌, ◌<◌, ◌≤◌, ◌==◌, ◌&&◌, ◌||◌, Bool, false, not, if◌then◌else◌}
use Rattle.std.specs.Prelude.{List, [], ◌∷◌, ◌++◌, filter, slice_index, Option, Some, None}
use Rattle.std.specs.FinMap as fin
use Rattle.imap_modseq.specs.Numbers.{max_events}
use Rattle.imap_mailbox.specs.declared.kept_change.KeptChange.{KeptChange}
use Rattle.imap_mailbox.specs.Own.{Own, with_kept}

-- the change may stand after `done` others, the last of which has `low` shared events before it, if there are
-- `high` shared events
pub record MayStand (done low high : ℕ) (k : KeptChange) : Type 0 where
  pub place : done ≤ k.place
  pub few : k.place < max_events
  pub after : low ≤ k.before
  pub within : k.before ≤ high

-- what the rows of a store meet, in the order of their places
abbrev pub AreKept : (done low high : ℕ) → List KeptChange → Type 0
AreKept done low high [] = Unit {0}
AreKept done low high (k ∷ kept) = MayStand done low high k × AreKept (k.place + 1) k.before high kept

-- ---- which are kept

-- whether no shared event is between the change and the next
abbrev pub runs_on : KeptChange → (later : List KeptChange) → Bool
runs_on k [] = false
runs_on k (next ∷ later) = next.before == k.before

-- whether one of the changes is of the message
abbrev pub is_overtaken : (uid : ℕ) → (later : List KeptChange) → Bool
is_overtaken uid [] = false
is_overtaken uid (k ∷ later) = (k.uid == uid) || is_overtaken uid later

-- the change is overtaken on its message, and isn't the last before a shared event
abbrev pub may_go : KeptChange → (later : List KeptChange) → Bool
may_go k later = runs_on k later && is_overtaken k.uid later

abbrev pub shortened : List KeptChange → List KeptChange
shortened [] = []
shortened (k ∷ kept) = if may_go k kept then shortened kept else k ∷ shortened kept

-- none of them may go
abbrev pub AreNeeded : List KeptChange → Type 0
AreNeeded [] = Unit {0}
AreNeeded (k ∷ kept) = (may_go k kept ≡ false) × AreNeeded kept

-- ---- which goes when a change comes

-- the place of the message's last change, if no shared event is between it and the next change
abbrev pub place_if_free : (befores : List ℕ) → Option KeptChange → Option ℕ
place_if_free befores None = None
place_if_free befores (Some k) = if slice_index befores (k.place + 1) == k.before then Some k.place else None

-- the place of the change that goes when the UID is changed. The next change, of whichever message, has `before`
-- shared events before it
abbrev pub dropped_for : (uid before : ℕ) → Own → Option ℕ
dropped_for uid before own = place_if_free (own.befores ++ before ∷ []) (fin.get own.latest uid)

-- the place of the change that goes when this one comes
abbrev pub dropped_by : KeptChange → Own → Option ℕ
dropped_by c own = dropped_for c.uid c.before own

abbrev pub without_row : Option ℕ → List KeptChange → List KeptChange
without_row None kept = kept
without_row (Some place) kept = filter (λ k. not (k.place == place)) kept

-- the rows after several changes, if they stand for these own changes
abbrev pub rows_after : Own → List KeptChange → (changes : List KeptChange) → List KeptChange
rows_after own rows [] = rows
rows_after own rows (c ∷ changes) =
    rows_after (with_kept c own) (without_row (dropped_by c own) rows ++ c ∷ []) changes
