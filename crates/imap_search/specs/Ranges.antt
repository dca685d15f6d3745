-- Sets of numbers as ranges with a lower and a higher end.
use Rattle.std.specs.Prelude.{◌≡◌, ℕ, max, nat_le, Bool, true, false, ◌&&◌, List, [], ◌∷◌, if◌then◌else◌}
use Rattle.std.specs.List.{list_any}
use Rattle.std.specs.List.Sorted.{IsNonDecreasingBy, IsPartitionPoint}
use Rattle.imap_syntax.specs.declared.set.SeqRange.{SeqRange}
use Rattle.imap_syntax.specs.declared.set.MessageSet.{MessageSet}
use Rattle.imap_targets.specs.MessageNumbers.{end_of, in_set, ranges_of}
use Rattle.imap_search.specs.declared.ranges.NumberRange.{NumberRange}

abbrev pub has : (n : ℕ) → NumberRange → Bool
has n range = nat_le range.low n && nat_le n range.high

abbrev pub in_ranges : List NumberRange → (n : ℕ) → Bool
in_ranges ranges n = list_any (has n) ranges

-- both ends rise, or stay, from each range to the next
pub record AreRising (ranges : List NumberRange) : Type 0 where
  pub lows : IsNonDecreasingBy (λ r. r.low) ranges
  pub highs : IsNonDecreasingBy (λ r. r.high) ranges

abbrev pub between : (first second : ℕ) → NumberRange
between first second =
    if nat_le first second
    then record { low = first; high = second }
    else record { low = second; high = first }

-- the numbers between both ends of a range, where `*` is the last one
abbrev pub range_of : (last : ℕ) → SeqRange → NumberRange
range_of last range = between (end_of last range.first) (end_of last range.last)

abbrev pub up_to : (high : ℕ) → NumberRange → NumberRange
up_to high range = record { low = range.low; high = high }

-- each range up to the highest end of it and those before it, of which `highest` is the highest
abbrev pub reaching : (highest : ℕ) → List NumberRange → List NumberRange
reaching highest [] = []
reaching highest (r ∷ ranges) = up_to (max r.high highest) r ∷ reaching (max r.high highest) ranges

-- `count` ranges begin with the number or before it, and stand before the others
abbrev pub IsCount : (n : ℕ) → List NumberRange → (count : ℕ) → Type 0
IsCount n ranges count =
    IsPartitionPoint (λ (r : NumberRange). nat_le r.low n ≡ true)
    (λ (r : NumberRange). nat_le r.low n ≡ false) ranges count

-- the ranges have the numbers that the set has, where `*` is the last one
abbrev pub HasNumbersOf : (last : ℕ) → MessageSet → List NumberRange → Type 0
HasNumbersOf last messages ranges = (n : ℕ) → in_ranges ranges n ≡ in_set last (ranges_of messages) n
