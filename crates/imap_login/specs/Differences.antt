-- How two texts are compared.
use Rattle.std.specs.Prelude.{ℕ, ◌+◌, ◌==◌, Bool, cond, List, [], ◌∷◌, length}

-- at how many places two texts differ: those that one of them lacks count
abbrev pub differences : (wanted given : List ℕ) → ℕ
differences wanted [] = length wanted
differences [] (b ∷ given) = 1 + differences [] given
differences (a ∷ wanted) (b ∷ given) = cond (a == b) 0 1 + differences wanted given

abbrev pub are_same : (wanted given : List ℕ) → Bool
are_same wanted given = differences wanted given == 0
