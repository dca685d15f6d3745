-- Two texts that differ nowhere are the same.
use Rattle.std.proofs.Common.{◌≡◌, ℕ, ◌+◌, Bool, true, false, cond, ◌==◌, List, [], ◌∷◌, refl, sym, ap, ◌∙◌, arith}
use Rattle.std.proofs.lemmas.Bool.{eqb-true, eq-eqb}
use Rattle.imap_login.specs.Differences.{differences}
use Rattle.imap_login.specs.Laws.{SameIsEqual}

first_is_same : (a b : ℕ) (wanted given : List ℕ) (v : Bool) → (a == b) ≡ v → cond v 0 1 + differences wanted given ≡ 0 → (differences wanted given ≡ 0 → wanted ≡ given) → a ∷ wanted ≡ b ∷ given
first_is_same a b wanted given true e none others = rw (eqb-true a b e, others (omega (arith, none))) refl
first_is_same a b wanted given false e none others = absurd (omega (arith, none))

equal : (wanted given : List ℕ) → differences wanted given ≡ 0 → wanted ≡ given
equal [] [] e = refl
equal (a ∷ wanted) [] e = absurd (omega (arith, e))
equal [] (b ∷ given) e = absurd (omega (arith, e))
equal (a ∷ wanted) (b ∷ given) e = first_is_same a b wanted given (a == b) refl e (equal wanted given)

same : (text : List ℕ) → differences text text ≡ 0
same [] = refl
same (a ∷ text) = rw (eq-eqb a a refl) (omega (arith, same text))

pub same_is_equal : SameIsEqual
same_is_equal wanted given = (
  λ e. equal wanted given (eqb-true _ _ e),
  λ e. eq-eqb _ _ (ap (differences wanted) (sym e) ∙ same wanted),
)
