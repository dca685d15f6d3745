-- Lists of some items.
use Rattle.std.proofs.Common.{◌≡◌, ◌<◌, ◌≤◌, List, [], ◌∷◌, get_or, length, sym, arith}

pub one_is : {X : Type 0} (xs : List X) (a : X) → 1 ≤ length xs → length xs < 2 → a ≡ get_or xs 0 a → xs ≡ a ∷ []
one_is [] a low high h = absurd (omega (arith, low))
one_is (x ∷ []) a low high h = λ i. sym h i ∷ []
one_is (x ∷ y ∷ ys) a low high h = absurd (omega (arith, high))
