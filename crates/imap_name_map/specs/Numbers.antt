-- Numbers under names.
use Rattle.std.specs.Prelude.{ℕ, unwrap_or}
use Rattle.std.specs.FinMap as fin
use Rattle.imap_names.specs.Name.{Name}
use Rattle.imap_names.specs.Order.{Names}

-- the number under the name, and 0 if there is none
abbrev pub number_of : Names ℕ → Name → ℕ
number_of numbers name = unwrap_or (fin.get numbers name) 0

-- the greatest of 32 bits
abbrev pub greatest_number : ℕ
greatest_number = 4294967295
