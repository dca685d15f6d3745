-- Rows that rise by their keys, and the words of a key at their front.
use Rattle.std.specs.Prelude.{◌≡◌, false, List, [], ◌∷◌, if◌then◌else◌}
use Rattle.std.specs.Ordering.{is_lt}
use Rattle.sqlite_rules.specs.Lists.{Has}
use Rattle.imap_message_tables.specs.Joining.{Key, is_at, key_cmp}
use Rattle.imap_tables.specs.declared.message_rows.StoredKeyword.{StoredKeyword}

-- the first is not above the second
abbrev pub IsLow : Key → Key → Type 0
IsLow a b = is_lt (key_cmp b a) ≡ false

abbrev pub AreUp : {X : Type 0} → (X → Key) → List X → Type 0
AreUp key [] = Unit {0}
AreUp {X} key (x ∷ xs) = ((y : X) → Has xs y → IsLow (key x) (key y)) × AreUp key xs

-- the words of the key at the front
abbrev pub own_of : Key → List StoredKeyword → List StoredKeyword
own_of k [] = []
own_of k (w ∷ ws) = if is_at k w then w ∷ own_of k ws else []

-- and those behind
abbrev pub rest_of : Key → List StoredKeyword → List StoredKeyword
rest_of k [] = []
rest_of k (w ∷ ws) = if is_at k w then rest_of k ws else w ∷ ws
