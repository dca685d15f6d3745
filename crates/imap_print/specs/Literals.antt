-- Literals that memory can hold.
use Rattle.std.specs.Prelude.{◌<◌, ◌^◌, ℕ, List, length}

-- as many octets as a machine's memory may hold
abbrev pub IsHeld : List ℕ → Type 0
IsHeld octets = length octets < 2 ^ 64
