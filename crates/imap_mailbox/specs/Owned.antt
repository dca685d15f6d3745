-- One user's own changes of \Seen, with their room.
use Rattle.std.specs.Prelude.{ℕ, List, [], ◌∷◌, Option, Some, None, refl}
use Rattle.std.specs.FinMap as fin
use Rattle.imap_user_map.specs.Finite.{keep}
use Rattle.std.specs.Coded.{Coded, code_by, coded×, coded_ℕ}
use Rattle.imap_user_map.specs.Rows.{Users}
use Rattle.imap_mailbox.specs.declared.kept_change.KeptChange.{KeptChange}
use Rattle.imap_mailbox.specs.Own.{Own, own_code}

-- the room is the number of changes that need no memory, and `seen` the number of messages that are there and
-- that the user has seen
pub record Owned : Type 0 where
  pub own : Own
  pub room : ℕ
  pub seen : ℕ

abbrev pub owned_code : Coded Owned
owned_code =
    code_by (Own × (ℕ × ℕ)) (coded× own_code (coded× coded_ℕ coded_ℕ))
    (λ o. (o.own, (o.room, o.seen))) (λ t. record { own = t.0; room = t.1.0; seen = t.1.1 }) (λ _. refl)

-- the changes, if there are any
abbrev pub some_if : (befores : List ℕ) → (latest : List (ℕ × KeptChange)) → Own → Option Own
some_if [] [] own = None
some_if [] (e ∷ latest) own = Some own
some_if (b ∷ befores) latest own = Some own

abbrev pub if_any : Own → Option Own
if_any own = some_if own.befores (fin.entries own.latest) own

abbrev pub owned_changes : List ℕ → Owned → Option Own
owned_changes user o = if_any o.own

-- by users who have some: who has none keeps the room
abbrev pub changes_of : Users Owned → Users Own
changes_of m = keep owned_changes m
