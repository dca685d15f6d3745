-- Of two days of which neither is before the other, one is the other.
use Rattle.std.proofs.Common.{◌≡◌, Bool, true, false, not, ◌&&◌, refl, sym, ap, ◌∙◌, ℤ, int_lt, int_eq, arith}
use Rattle.std.proofs.lemmas.Bool.Decides.{Decides-int_eq}
use Rattle.std.proofs.lemmas.Int.{ints}

neither_before : (a b : ℤ) → (not (int_lt a b) && not (int_lt b a)) ≡ int_eq a b
neither_before a b = by (int_lt a b) (int_lt b a) (int_eq a b) refl refl refl
  where
    by : (t u v : Bool) → int_lt a b ≡ t → int_lt b a ≡ u → int_eq a b ≡ v → (not t && not u) ≡ v
    by true u true e f g = let same = (Decides-int_eq a b).0 g in absurd (omega (arith, ints))
    by true u false e f g = refl
    by false true true e f g = let same = (Decides-int_eq a b).0 g in absurd (omega (arith, ints))
    by false true false e f g = refl
    by false false true e f g = refl
    by false false false e f g = sym ((Decides-int_eq a b).1 (omega (arith, ints))) ∙ g

pub later_decides : (a b : ℤ) (before after : Bool) → before ≡ int_lt a b → before ≡ false → after ≡ int_lt b a → not after ≡ int_eq a b
later_decides a b before after e f g =
    ap not g ∙ ap (λ t. not t && not (int_lt b a)) (sym f ∙ e) ∙ neither_before a b

pub earlier_decides : (a b : ℤ) (before : Bool) → before ≡ int_lt a b → before ≡ true → not before ≡ int_eq a b
earlier_decides a b before e f =
    ap not f ∙ ap (λ t. not t && not (int_lt b a)) (sym f ∙ e) ∙ neither_before a b
