-- Lists of names that are the same.
use Rattle.std.proofs.Common.{◌≡◌, ℕ, Bool, true, false, List, refl, sym}
use Rattle.std.specs.Prelude.{Decides, ◌↔◌, bytes_eq}
use Rattle.std.specs.Cmp.Lexicographic.{pointwise, pointwise_decides}
use Rattle.std.proofs.lemmas.Slice.Eq.{bytes_eq-Decides}

-- two tests of one statement
by_both : (P : Type 0) (r b : Bool) → (r ≡ true) ↔ P → Decides b P → r ≡ b
by_both P true true h d = refl
by_both P true false h d = sym (d.1 (h.0 refl))
by_both P false true h d = h.1 (d.0 refl)
by_both P false false h d = refl

pub names_compared : (names others : List (List ℕ)) (r : Bool) → (r ≡ true) ↔ (names ≡ others) → r ≡ pointwise bytes_eq names others
names_compared names others r h = by_both (names ≡ others) r (pointwise bytes_eq names others) h (pointwise_decides bytes_eq-Decides names others)
