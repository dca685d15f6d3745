-- The UIDs that a session knows, beside the messages of its mailbox.
use Rattle.std.specs.Prelude.{ℕ, Bool, false, ◌==◌, not, ◌||◌, nat_lt, List, [], ◌∷◌, ◌++◌}
use Rattle.std.specs.Prelude.{if◌then◌else◌}
use Rattle.imap_mailbox.specs.Rows.{Row, is_among}
use Rattle.imap_mailbox.specs.Lent.{row_uids}

-- a known UID is of an expunged message, or of one that is still there
pub data Comparison : Type 0 where
  Expunged : ℕ → Comparison
  Present : Row → Comparison

-- each known UID beside the row that has it. Both lists rise
abbrev pub comparisons : (uids : List ℕ) → List Row → List Comparison
comparisons [] rows = []
comparisons (u ∷ uids) [] = Expunged u ∷ comparisons uids []
comparisons (u ∷ uids) (r ∷ rows) =
    if u == r.uid then Present r ∷ comparisons uids rows else Expunged u ∷ comparisons uids (r ∷ rows)

-- the rows after those of known messages
abbrev pub new_rows : (uids : List ℕ) → List Row → List Row
new_rows [] rows = rows
new_rows (u ∷ uids) [] = new_rows uids []
new_rows (u ∷ uids) (r ∷ rows) = if u == r.uid then new_rows uids rows else new_rows uids (r ∷ rows)

-- the mod-sequence isn't above the one up to which the session was told all
abbrev pub is_known : (up_to : ℕ) → Row → Bool
is_known up_to r = not (nat_lt up_to r.number)

-- the command's own lines told of the message, or all of it is known
abbrev pub is_told : (up_to : ℕ) → (told : List ℕ) → Row → Bool
is_told up_to told r = is_among r.uid told || is_known up_to r

-- a message that is still there is not known as it is
abbrev pub any_changed : (up_to : ℕ) → List Comparison → Bool
any_changed up_to [] = false
any_changed up_to (Expunged u ∷ cs) = any_changed up_to cs
any_changed up_to (Present r ∷ cs) = not (is_known up_to r) || any_changed up_to cs

-- ---- what the session knows afterwards

-- of the messages that it knew. If expunges may not be told, expunged messages stay
abbrev pub uids_after : (expunges : Bool) → List Comparison → List ℕ
uids_after expunges [] = []
uids_after expunges (Expunged u ∷ cs) =
    if expunges then uids_after expunges cs else u ∷ uids_after expunges cs
uids_after expunges (Present r ∷ cs) = r.uid ∷ uids_after expunges cs

abbrev pub known_after : (expunges : Bool) → (uids : List ℕ) → List Row → List ℕ
known_after expunges uids rows =
    uids_after expunges (comparisons uids rows) ++ row_uids (new_rows uids rows)
