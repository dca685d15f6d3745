-- A list with an item in it is not empty.
use Rattle.std.proofs.Common.{◌≡◌, not, eqb, List, ◌∷◌, length, arith, true}
use Rattle.std.proofs.lemmas.Bool.Decides.{nat_tests}

pub is_filled : {A : Type 0} (x : A) (xs : List A) → not (eqb (length (x ∷ xs)) 0) ≡ true
is_filled x xs = grind (arith, nat_tests)
