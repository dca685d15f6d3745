-- What is kept of the values of a map.
use Rattle.std.specs.Prelude.{◌≡◌, Option, Some, option_and_then}
use Rattle.std.specs.declared.cmp.Ordering.{Ordering}
use Rattle.std.specs.FinMap.{FinMap, get}

-- of each value of the first map the same is kept as of the value of its key in the second
abbrev pub IsWithin :
    {K X Y : Type 0} {R : K → K → Ordering} → (X → Option Y) → FinMap R X → FinMap R X → Type 0
IsWithin {K} {X} kept m n =
    (key : K) (v : X) → get m key ≡ Some v → kept v ≡ option_and_then kept (get n key)
