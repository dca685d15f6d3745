-- The mark with which a line announces a literal (RFC 9051, section 4.3, `literal`; RFC 7888 for the `+`).
use Rattle.std.specs.Prelude.{◌≡◌, ◌≤◌, ◌<◌, ℕ, ◌+◌, ◌-◌, ◌*◌, Bool, true, false, not, ◌&&◌, List, [], ◌∷◌}
use Rattle.std.specs.Prelude.{◌++◌, nat_lt, eqb, if◌then◌else◌, Option, Some, None}
use Rattle.std.specs.List.{AllByRecursion}

-- the number of octets that are to follow, and whether the client waits for a continuation request
pub record Announced : Type 0 where
  pub size : ℕ
  pub waits : Bool

-- what decimal digits say
abbrev pub decimal_from : ℕ → List ℕ → ℕ
decimal_from n [] = n
decimal_from n (d ∷ ds) = decimal_from (10 * n + (d - 48)) ds

abbrev pub IsDigit : ℕ → Type 0
IsDigit b = (48 ≤ b) × (b < 58)

-- `}`, before it `+` where the client doesn't wait, and CRLF
abbrev pub closing : Bool → List ℕ
closing true = 125 ∷ 13 ∷ 10 ∷ []
closing false = 43 ∷ 125 ∷ 13 ∷ 10 ∷ []

-- The line ends with `{digits}` or `{digits+}`, and CRLF.
pub record IsMarked (line : List ℕ) (mark : Announced) : Type 0 where
  pub front : List ℕ
  pub digit : ℕ
  pub digits : List ℕ
  pub spelt : line ≡ front ++ 123 ∷ ((digit ∷ digits) ++ closing mark.waits)
  pub each : AllByRecursion IsDigit (digit ∷ digits)
  pub value : mark.size ≡ decimal_from 0 (digit ∷ digits)

-- The same, read from the front: what the octets so far end with.
pub data LineTail : Type 0 where
  text : LineTail
  brace : LineTail
  digits : (size : ℕ) → LineTail
  plus : (size : ℕ) → LineTail
  closed : (mark : Announced) → LineTail
  behind_cr : (mark : Announced) → LineTail
  behind_crlf : (mark : Announced) → LineTail

abbrev pub with_digit : LineTail → ℕ → LineTail
with_digit brace b = digits (b - 48)
with_digit (digits n) b = digits (10 * n + (b - 48))
with_digit _ b = text

abbrev pub with_plus : LineTail → LineTail
with_plus (digits n) = plus n
with_plus _ = text

abbrev pub with_brace : LineTail → LineTail
with_brace (digits n) = closed (record { size = n; waits = true })
with_brace (plus n) = closed (record { size = n; waits = false })
with_brace _ = text

abbrev pub with_cr : LineTail → LineTail
with_cr (closed mark) = behind_cr mark
with_cr _ = text

abbrev pub with_lf : LineTail → LineTail
with_lf (behind_cr mark) = behind_crlf mark
with_lf _ = text

abbrev pub is_digit : ℕ → Bool
is_digit b = not (nat_lt b 48) && nat_lt b 58

abbrev pub with_octet : LineTail → ℕ → LineTail
with_octet t b =
    if eqb b 123 then brace
    else (if is_digit b then with_digit t b
    else (if eqb b 43 then with_plus t
    else (if eqb b 125 then with_brace t
    else (if eqb b 13 then with_cr t
    else (if eqb b 10 then with_lf t
    else text)))))

abbrev pub with_octets : LineTail → List ℕ → LineTail
with_octets t [] = t
with_octets t (b ∷ bs) = with_octets (with_octet t b) bs

abbrev pub mark_at : LineTail → Option Announced
mark_at (behind_crlf mark) = Some mark
mark_at _ = None

-- the mark with which a line ends
abbrev pub line_mark : List ℕ → Option Announced
line_mark line = mark_at (with_octets text line)

-- What reading finds stands there, and what stands there is found.
abbrev pub MarksAreRead : Type 0
MarksAreRead = (line : List ℕ) (mark : Announced) → line_mark line ≡ Some mark → IsMarked line mark

abbrev pub MarksAreFound : Type 0
MarksAreFound = (line : List ℕ) (mark : Announced) → IsMarked line mark → line_mark line ≡ Some mark
