-- Parts that are counted from 1.
use Rattle.std.proofs.Common.{◌≡◌, ap, sym, refl, ℕ, zero, suc, ◌-◌, ◌<◌, Bool, true, false, cond, List, [], ◌∷◌, length, drop, map, arith, Option, Some}
use Rattle.std.specs.Prelude.{◌==◌, option_map}
use Rattle.imap_structure.specs.Numbered.{nth}

module _ {A B : Type 0} (f : A → B) where
  mapped_by : (b : Bool) (x : A) (found : Option A) (other : Option B) → other ≡ option_map f found → cond b (Some (f x)) other ≡ option_map f (cond b (Some x) found)
  mapped_by true x found other e = refl
  mapped_by false x found other e = e

  pub nth_map : (xs : List A) (number : ℕ) → nth (map f xs) number ≡ option_map f (nth xs number)
  nth_map [] number = refl
  nth_map (x ∷ xs) number = mapped_by (number == 1) x (nth xs (number - 1)) (nth (map f xs) (number - 1)) (nth_map xs (number - 1))

  -- the part at a place isn't the one that is left
  pub nth_later : (xs : List A) (i left : ℕ) → i < length xs → (left == 1) ≡ false → nth (map f (drop (suc i) xs)) (left - 1) ≡ nth (map f (drop i xs)) left
  nth_later [] i left within other = absurd (omega arith)
  nth_later (x ∷ xs) zero left within other = sym (ap (λ b. cond b (Some (f x)) (nth (map f xs) (left - 1))) other)
  nth_later (x ∷ xs) (suc i) left within other = nth_later xs i left (omega (arith, within)) other
