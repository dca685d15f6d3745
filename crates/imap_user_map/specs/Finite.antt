-- A finite map of which some values are kept, and changed on the way.
use Rattle.std.specs.Prelude.{Option, Some, option_map}
use Rattle.std.specs.List.{filter_map}
use Rattle.std.specs.declared.cmp.Ordering.{Ordering}
use Rattle.std.specs.FinMap.{FinMap, entries, from_sorted}

module _ {K X Y : Type 0} where
  abbrev pub kept_entry : (K → X → Option Y) → K × X → Option (K × Y)
  kept_entry f e = option_map (λ y. (e.0, y)) (f e.0 e.1)

  -- the keys at which f gives a value, with that value
  unfoldable pub keep : {R : K → K → Ordering} → (K → X → Option Y) → FinMap R X → FinMap R Y
  keep f m = from_sorted (filter_map (kept_entry f) (entries m))

  -- all keys, each with what f makes of its value
  abbrev pub map_values : {R : K → K → Ordering} → (X → Y) → FinMap R X → FinMap R Y
  map_values f m = keep (λ key x. Some (f x)) m
