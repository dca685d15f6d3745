-- The test of equality is right.
use Rattle.std.proofs.Common.{eqb, ◌≡◌, ℕ, Bool, true, false, ◌&&◌, refl, ap, arith}
use Rattle.std.proofs.lemmas.Bool.Decides.{nat_tests}
use base.Stored.{Gv, gnil, gnum, gcons}
use Rattle.std.specs.Coded.{Coded}
use Rattle.imap_core.specs.Same.{same_code, same}
use Rattle.imap_sessions.proofs.Numbered.{both_true}

equal_codes : (a b : Gv) → same_code a b ≡ true → a ≡ b
equal_codes gnil gnil e = refl
equal_codes (gnum m) (gnum n) e = let k : m ≡ n = grind (arith, nat_tests) in ap gnum k
equal_codes (gcons a b) (gcons c d) e =
    let h = both_true (same_code a c) (same_code b d) e in
    λ i. gcons (equal_codes a c h.0 i) (equal_codes b d h.1 i)
equal_codes gnil (gnum n) e = absurd (grind arith)
equal_codes gnil (gcons c d) e = absurd (grind arith)
equal_codes (gnum m) gnil e = absurd (grind arith)
equal_codes (gnum m) (gcons c d) e = absurd (grind arith)
equal_codes (gcons a b) gnil e = absurd (grind arith)
equal_codes (gcons a b) (gnum n) e = absurd (grind arith)

-- what passes is equal
pub equal_from_same : {A : Type 0} (c : Coded A) (x y : A) → same c x y ≡ true → x ≡ y
equal_from_same c x y e = c.inj x y (equal_codes (c.code x) (c.code y) e)

both_from : (a b : Bool) → a ≡ true → b ≡ true → (a && b) ≡ true
both_from true b e f = f
both_from false b e f = e

equal_numbers : (n : ℕ) → eqb n n ≡ true
equal_numbers n = grind (arith, nat_tests)

same_as_itself : (a : Gv) → same_code a a ≡ true
same_as_itself gnil = refl
same_as_itself (gnum n) = equal_numbers n
same_as_itself (gcons a b) = both_from _ _ (same_as_itself a) (same_as_itself b)

-- and what is equal passes
pub same_from_itself : {A : Type 0} (c : Coded A) (x : A) → same c x x ≡ true
same_from_itself c x = same_as_itself (c.code x)
