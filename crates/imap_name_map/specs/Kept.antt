-- What is kept of the values of names.
use Rattle.std.specs.Prelude.{◌≡◌, ◌==◌, List, Option, Some, None, option_and_then, if◌then◌else◌}
use Rattle.std.specs.FinMap as fin
use Rattle.std.specs.FinMap.Entries.{find}
use Rattle.imap_names.specs.Name.{Name}
use Rattle.imap_names.specs.Order.{Names, name_cmp}

-- of each value of the first list the same is kept as of the value of its name in the second
abbrev pub AreWithin : {X Y : Type 0} → (X → Option Y) → List (Name × X) → List (Name × X) → Type 0
AreWithin {X} kept entries others =
    (name : Name) (v : X) → find name_cmp name entries ≡ Some v
    → kept v ≡ option_and_then kept (find name_cmp name others)

-- the map, if it has a name
abbrev pub if_filled : {X : Type 0} → Names X → Option (Names X)
if_filled map = if fin.len map == 0 then None else Some map
