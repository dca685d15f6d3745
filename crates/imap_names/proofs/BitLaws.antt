-- The carries of a sum, by which places flood the ones after them.
use Rattle.std.proofs.Common.{◌≡◌, ℕ, zero, suc, ◌+◌, ◌-◌, ◌*◌, ◌/◌, ◌%◌, ◌^◌, ◌<◌, ◌≤◌, refl, sym, ap, ◌∙◌, subst, arith}
use Rattle.std.specs.Prelude.{min, max}
use Rattle.std.specs.Int.{bit_at}
use Rattle.std.specs.Int.RustNames.{bit_or, bit_xor}
use Rattle.std.proofs.lemmas.Nat.{shr-shr, shr_split}
use Rattle.std.proofs.lemmas.Nat.Bits.{bit_at-lt, bit_at-suc, bit_at_or, bit_at_xor, bit_at_cat_low}
use Rattle.imap_names.specs.Places.{flood}

-- what the sum of two numbers carries into a bit
abbrev pub carry : ℕ → ℕ → ℕ → ℕ
carry a b zero = 0
carry a b (suc i) = (bit_at a i + bit_at b i + carry a b i) / 2

carry-lt : (a b i : ℕ) → carry a b i < 2
carry-lt a b zero = omega arith
carry-lt a b (suc i) =
    let x : bit_at a i < 2 = bit_at-lt a i in
    let y : bit_at b i < 2 = bit_at-lt b i in
    let z : carry a b i < 2 = carry-lt a b i in
    by (bit_at a i) (bit_at b i) (carry a b i) x y z
  where
    by : (x y z : ℕ) → x < 2 → y < 2 → z < 2 → (x + y + z) / 2 < 2
    by x y z p q r = omega arith

half : (x y z : ℕ) → (x + y + z) / 2 ≡ x / 2 + y / 2 + (x % 2 + y % 2 + z) / 2
half x y z = omega arith

halved : (n i : ℕ) → n / 2 ^ suc i ≡ n / 2 ^ i / 2
halved n i = let e : suc i ≡ i + 1 = omega arith in ap (λ k. n / 2 ^ k) e ∙ sym (shr-shr n i 1)

whole : (n : ℕ) → n / 2 ^ 0 ≡ n
whole n = let e : n / 1 ≡ n = omega arith in e

above : (a b i : ℕ) → (a + b) / 2 ^ i ≡ a / 2 ^ i + b / 2 ^ i + carry a b i
above a b zero =
    let e : a + b ≡ a + b + 0 = omega arith in
    whole (a + b) ∙ e ∙ (λ i. sym (whole a) i + sym (whole b) i + 0)
above a b (suc i) =
    halved (a + b) i ∙ ap (λ n. n / 2) (above a b i) ∙ half (a / 2 ^ i) (b / 2 ^ i) (carry a b i)
    ∙ (λ j. sym (halved a i) j + sym (halved b i) j + carry a b (suc i))

sum_bit : (a b i : ℕ) → bit_at (a + b) i ≡ (bit_at a i + bit_at b i + carry a b i) % 2
sum_bit a b i = ap (λ n. n % 2) (above a b i) ∙ by (a / 2 ^ i) (b / 2 ^ i) (carry a b i)
  where
    by : (x y z : ℕ) → (x + y + z) % 2 ≡ (x % 2 + y % 2 + z) % 2
    by x y z = omega arith

-- the low bits of a number
pub low : (n i : ℕ) → i < 64 → bit_at (n % 2 ^ 64) i ≡ bit_at n i
low n i lt = sym (bit_at_cat_low (n / 2 ^ 64) 64 (n % 2 ^ 64) i lt) ∙ ap (λ m. bit_at m i) (shr_split n 64)

carried : (a b i : ℕ) → i < 64 → bit_at (bit_xor (bit_xor a b) ((a + b) % 2 ^ 64)) i ≡ carry a b i
carried a b i lt =
    bit_at_xor (bit_xor a b) ((a + b) % 2 ^ 64) i ∙ (λ j. (bit_at_xor a b i j + (low (a + b) i lt ∙ sum_bit a b i) j) % 2)
    ∙ by (bit_at a i) (bit_at b i) (carry a b i) (bit_at-lt a i) (bit_at-lt b i) (carry-lt a b i)
  where
    by : (x y z : ℕ) → x < 2 → y < 2 → z < 2 → ((x + y) % 2 + (x + y + z) % 2) % 2 ≡ z
    by x y z p q r = omega arith

-- ---- a flood

either : (a p c : ℕ) → a < 2 → p < 2 → c < 2 → (a + max a p + c) / 2 ≡ max a (min p c)
either zero zero zero la lp lc = refl
either zero zero (suc zero) la lp lc = refl
either zero (suc zero) zero la lp lc = refl
either zero (suc zero) (suc zero) la lp lc = refl
either (suc zero) zero zero la lp lc = refl
either (suc zero) zero (suc zero) la lp lc = refl
either (suc zero) (suc zero) zero la lp lc = refl
either (suc zero) (suc zero) (suc zero) la lp lc = refl
either (suc (suc a)) p c la lp lc = absurd (omega arith)
either zero (suc (suc p)) c la lp lc = absurd (omega arith)
either (suc zero) (suc (suc p)) c la lp lc = absurd (omega arith)
either zero zero (suc (suc c)) la lp lc = absurd (omega arith)
either zero (suc zero) (suc (suc c)) la lp lc = absurd (omega arith)
either (suc zero) zero (suc (suc c)) la lp lc = absurd (omega arith)
either (suc zero) (suc zero) (suc (suc c)) la lp lc = absurd (omega arith)

flood_bit : (a p i : ℕ) → i < 63 → bit_at (flood a p) i ≡ carry a (bit_or a p) (suc i)
flood_bit a p i lt =
    sym (bit_at-suc (bit_xor (bit_xor a (bit_or a p)) ((a + bit_or a p) % 2 ^ 64)) i) ∙ carried a (bit_or a p) (suc i) (omega arith)

flood_step : (a p i : ℕ) → carry a (bit_or a p) (suc i) ≡ max (bit_at a i) (min (bit_at p i) (carry a (bit_or a p) i))
flood_step a p i =
    ap (λ b. (bit_at a i + b + carry a (bit_or a p) i) / 2) (bit_at_or a p i)
    ∙ either (bit_at a i) (bit_at p i) (carry a (bit_or a p) i) (bit_at-lt a i) (bit_at-lt p i) (carry-lt a (bit_or a p) i)

-- the least place is reached only from itself
pub flood_least : (a p : ℕ) → bit_at (flood a p) 0 ≡ bit_at a 0
flood_least a p = flood_bit a p 0 (omega arith) ∙ flood_step a p 0 ∙ by (bit_at a 0) (bit_at p 0) (bit_at-lt a 0) (bit_at-lt p 0)
  where
    by : (x y : ℕ) → x < 2 → y < 2 → max x (min y 0) ≡ x
    by zero zero l m = refl
    by zero (suc zero) l m = refl
    by (suc zero) zero l m = refl
    by (suc zero) (suc zero) l m = refl
    by zero (suc (suc y)) l m = absurd (omega arith)
    by (suc zero) (suc (suc y)) l m = absurd (omega arith)
    by (suc (suc x)) y l m = absurd (omega arith)

-- any other is reached from itself, or from the one before it where that is let through
pub flood_next : (a p i : ℕ) → suc i < 63 → bit_at (flood a p) (suc i) ≡ max (bit_at a (suc i)) (min (bit_at p (suc i)) (bit_at (flood a p) i))
flood_next a p i lt =
    flood_bit a p (suc i) lt ∙ flood_step a p (suc i)
    ∙ ap (λ c. max (bit_at a (suc i)) (min (bit_at p (suc i)) c)) (sym (flood_bit a p i (omega arith)))
