-- What the ranges of a set stand for (RFC 9051, section 9, `seq-range`).
use Rattle.std.specs.Prelude.{◌≡◌, ℕ, ◌+◌, ◌-◌, ◌≤◌, ◌↔◌, ◌⊎◌, List, [], ◌∷◌, length, flat_map}
use Rattle.std.specs.List.{range_with_len}
use Rattle.imap_print.specs.Sets.{Range, runs}

-- the numbers of a range, in their order
abbrev pub range_numbers : Range → List ℕ
range_numbers range = range_with_len range.first (range.last + 1 - range.first)

-- the ranges that are printed have just the numbers, in their order
abbrev pub RunsHaveTheNumbers : List ℕ → Type 0
RunsHaveTheNumbers numbers = flat_map range_numbers (runs numbers) ≡ numbers

abbrev pub IsAmong : ℕ → List ℕ → Type 0
IsAmong n [] = ⊥
IsAmong n (m ∷ numbers) = (n ≡ m) ⊎ IsAmong n numbers

-- the number is in one of the ranges
abbrev pub IsCovered : ℕ → List Range → Type 0
IsCovered n [] = ⊥
IsCovered n (range ∷ ranges) = ((range.first ≤ n) × (n ≤ range.last)) ⊎ IsCovered n ranges

-- no fewer ranges have the same numbers
abbrev pub RunsAreFewest : List ℕ → Type 0
RunsAreFewest numbers =
    (ranges : List Range)
    → ((n : ℕ) → IsAmong n numbers ↔ IsCovered n ranges)
    → length (runs numbers) ≤ length ranges
