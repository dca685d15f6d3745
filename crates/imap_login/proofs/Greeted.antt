-- Octets that begin with a line are as long as it.
use Rattle.std.proofs.Common.{◌≡◌, ◌≤◌, ◌∙◌, ap, refl, ℕ, ◌+◌, List, ◌++◌, length, length-append, drop, true, arith}
use Rattle.std.specs.Prelude.{eqb}
use Rattle.std.specs.List.{starts_with}
use Rattle.std.proofs.lemmas.Bool.Decides.{Decides-eqb}
use Rattle.std.proofs.lemmas.Slice.Eq.{starts_is}

pub starts_within : (octets line : List ℕ) → starts_with eqb octets line ≡ true → length line ≤ length octets
starts_within octets line e =
    let whole : octets ≡ line ++ drop (length line) octets = (starts_is Decides-eqb octets line _ refl).0 e in
    let lengths : length octets ≡ length line + length (drop (length line) octets) = ap length whole ∙ length-append line (drop (length line) octets) in
    omega (arith, lengths)
