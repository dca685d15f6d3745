-- Sets of UIDs in commands.
use Rattle.std.specs.Prelude.{ℕ, Bool, true, List, Option, Some, None, option_map, refl}
use Rattle.std.specs.Coded.{Coded, code_by, coded×, coded_ℕ, coded_list}
use Rattle.imap_syntax.specs.contracts.set.SeqRange.{the_row as range_row}
use Rattle.imap_syntax.specs.declared.set.SeqRange.{SeqRange}
use Rattle.imap_targets.specs.MessageNumbers.{in_set}

-- a set in which `*` stands for `last`
pub record UidSet : Type 0 where
  pub last : ℕ
  pub ranges : List SeqRange

abbrev pub set_code : Coded UidSet
set_code =
    code_by (ℕ × List SeqRange) (coded× coded_ℕ (coded_list range_row.coded))
    (λ set. (set.last, set.ranges)) (λ p. record { last = p.0; ranges = p.1 }) (λ _. refl)

-- without a set all UIDs are meant
abbrev pub includes : Option UidSet → (uid : ℕ) → Bool
includes None uid = true
includes (Some set) uid = in_set set.last set.ranges uid

-- the UIDs that a client knows, if it names them. `*` stands in none of them
abbrev pub known_set : Option (List SeqRange) → Option UidSet
known_set known = option_map (λ ranges. record { last = 0; ranges = ranges }) known
