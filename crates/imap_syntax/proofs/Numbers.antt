-- The laws of numbers.
use Rattle.std.proofs.Common.{◌≡◌, ℕ, ◌+◌, ◌*◌, ◌-◌, ◌<◌, ◌≤◌, true, Some, List, [], ◌∷◌, length, drop, get_or, drop-cons, add-one, refl, sym, ◌∙◌, arith}
use Rattle.std.specs.Char.{is_ascii_digit}
use Rattle.imap_syntax.specs.Lexical.{number, nz_number, decimal, decimal_from}
use Rattle.std.proofs.lemmas.Bool.Decides.{nat_tests}
use Rattle.imap_syntax.specs.Rule.{some_read, ConsistsOf}
use Rattle.imap_syntax.proofs.RuleLaws.{StopsAt, Lawful, then_lawful, some_of_lawful, some_read-some}
use Rattle.imap_syntax.proofs.Opens.{Opens, then_opens, some_of_opens}
use Rattle.imap_syntax.proofs.Lists.{when_lawful, when_follows}

pub number_lawful : (low high : ℕ) → Lawful (StopsAt is_ascii_digit) (number low high)
number_lawful low high = then_lawful (some_of_lawful is_ascii_digit) (λ digits. when_lawful _ _) (λ digits. when_follows _ _)

pub number_opens : (low high : ℕ) → Opens is_ascii_digit (number low high)
number_opens low high = then_opens _ (some_of_opens is_ascii_digit)

pub nz_number_lawful : (high : ℕ) → Lawful (StopsAt is_ascii_digit) (nz_number high)
nz_number_lawful high = then_lawful (some_of_lawful is_ascii_digit) (λ digits. when_lawful _ _) (λ digits. when_follows _ _)

pub nz_number_opens : (high : ℕ) → Opens is_ascii_digit (nz_number high)
nz_number_opens high = then_opens _ (some_of_opens is_ascii_digit)

-- ---- a number digit by digit

pub decimal_grows : (n : ℕ) (digits : List ℕ) → n ≤ decimal_from n digits
decimal_grows n [] = omega arith
decimal_grows n (d ∷ digits) = omega (arith, decimal_grows (10 * n + (d - 48)) digits)

decimal_next : (n i : ℕ) (digits : List ℕ) → i < length digits → decimal_from n (drop i digits) ≡ decimal_from (10 * n + (get_or digits i 0 - 48)) (drop (i + 1) digits)
decimal_next n i digits lt = rw (add-one, drop-cons digits i 0) refl

pub too_large : (n i : ℕ) (digits : List ℕ) → i < length digits → decimal_from n (drop i digits) ≡ decimal digits → 10 * n + (get_or digits i 0 - 48) ≤ decimal digits
too_large n i digits lt so_far = omega (arith, decimal_grows (10 * n + (get_or digits i 0 - 48)) (drop (i + 1) digits), sym (decimal_next n i digits lt) ∙ so_far)

-- ---- a few digits

digit_small : (d : ℕ) → is_ascii_digit d ≡ true → d - 48 < 10
digit_small d h = grind (arith, nat_tests)

few_digits : (digits : List ℕ) → ConsistsOf is_ascii_digit digits → length digits ≤ 4 → decimal digits < 10000
few_digits [] h le = omega arith
few_digits (a ∷ []) h le = omega (arith, digit_small a h.0)
few_digits (a ∷ b ∷ []) h le = omega (arith, digit_small a h.0, digit_small b h.1.0)
few_digits (a ∷ b ∷ c ∷ []) h le = omega (arith, digit_small a h.0, digit_small b h.1.0, digit_small c h.1.1.0)
few_digits (a ∷ b ∷ c ∷ d ∷ []) h le = omega (arith, digit_small a h.0, digit_small b h.1.0, digit_small c h.1.1.0, digit_small d h.1.1.1.0)
few_digits (a ∷ b ∷ c ∷ d ∷ e ∷ more) h le = absurd (omega arith)

pub few_read : (input digits rest : List ℕ) → some_read is_ascii_digit input ≡ Some (digits, rest) → length digits ≤ 4 → decimal digits < 10000
few_read input digits rest e le = let read = some_read-some is_ascii_digit input digits rest e in few_digits digits read.2 le
