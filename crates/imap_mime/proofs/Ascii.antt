-- Whether octets are ASCII.
use Rattle.std.proofs.Common.{◌≡◌, ℕ, zero, suc, ◌≤◌, ◌<◌, Bool, true, false, List, [], ◌∷◌, ◌&&◌, refl, sym, arith}
use Rattle.std.specs.Prelude.{MatchBool, nat_lt, slice_index}
use Rattle.std.specs.List.{list_all}
use Rattle.std.specs.Str.{IsAscii, IsNotAscii}
use Rattle.std.proofs.lemmas.Bool.Decides.{nat_tests}
use Rattle.imap_mime.specs.Strings.{is_ascii}

all_pass : (b : ℕ) (octets : List ℕ) → b < 128 → list_all is_ascii octets ≡ true → list_all is_ascii (b ∷ octets) ≡ true
all_pass b octets low others =
    let first : nat_lt b 128 ≡ true = grind (arith, nat_tests, low) in
    rw first others

first_fails : (b : ℕ) (octets : List ℕ) → 128 ≤ b → list_all is_ascii (b ∷ octets) ≡ false
first_fails b octets high =
    let first : nat_lt b 128 ≡ false = grind (arith, nat_tests, high) in
    rw first refl

other_fails : (first others : Bool) → others ≡ false → (first && others) ≡ false
other_fails true others e = e
other_fails false others e = refl

all_ascii : (octets : List ℕ) → IsAscii octets → list_all is_ascii octets ≡ true
all_ascii [] all = refl
all_ascii (b ∷ octets) all = all_pass b octets (all 0) (all_ascii octets (λ i. all (suc i)))

some_other : (octets : List ℕ) (i : ℕ) → 128 ≤ slice_index octets i → list_all is_ascii octets ≡ false
some_other [] i high = absurd (omega (arith, high))
some_other (b ∷ octets) zero high = first_fails b octets high
some_other (b ∷ octets) (suc i) high = other_fails (is_ascii b) (list_all is_ascii octets) (some_other octets i high)

pub tested : (octets : List ℕ) (result : Bool) → MatchBool result (IsAscii octets) (IsNotAscii octets) → result ≡ list_all is_ascii octets
tested octets true cases = sym (all_ascii octets cases)
tested octets false cases = sym (some_other octets cases.0 cases.1)
