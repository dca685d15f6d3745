-- What stands in a mark.
use Rattle.std.proofs.Common.{◌≡◌, ◌∙◌, ap, refl, subst, ℕ, ◌+◌, ◌-◌, ◌*◌, List, [], ◌∷◌, ◌++◌, append_assoc, append-nil, arith, Bool, true, false, Option, Some, None}
use Rattle.std.specs.List.{AllByRecursion}
use Rattle.std.specs.Prelude.{eqb, nat_lt, not, ◌&&◌}
use Rattle.std.proofs.lemmas.Bool.{le-ltb, lt-ltb, ltb-true, ltb-false, eqb-true, false_from_ne_true}
use Rattle.imap_lex.specs.Mark.{Announced, decimal_from, IsDigit, closing, IsMarked, LineTail, text, brace, digits, plus, closed, behind_cr, behind_crlf, with_digit, with_plus, with_brace, with_cr, with_lf, is_digit, with_octet, with_octets, mark_at, line_mark, MarksAreRead, MarksAreFound}
use Rattle.imap_lex.specs.Stream.{IsLastLine}
use Rattle.imap_lex.proofs.Tails.{with_octets-append}

not_brace : (d : ℕ) → IsDigit d → eqb d 123 ≡ false
not_brace d is = false_from_ne_true _ (λ e. let same = eqb-true d 123 e in omega (arith, is.1))

tests_digit : (d : ℕ) → IsDigit d → is_digit d ≡ true
tests_digit d is = rw (le-ltb d 48 is.0, lt-ltb d 58 is.1) refl

with_digits : (v : ℕ) (ds : List ℕ) → AllByRecursion IsDigit ds → with_octets (digits v) ds ≡ digits (decimal_from v ds)
with_digits v [] all = refl
with_digits v (d ∷ ds) all = rw (not_brace d all.0, tests_digit d all.0) (with_digits (10 * v + (d - 48)) ds all.1)

with_closing : (n : ℕ) (waits : Bool) → with_octets (digits n) (closing waits) ≡ behind_crlf (record { size = n; waits = waits })
with_closing n true = refl
with_closing n false = refl

pub marks_are_found : MarksAreFound
marks_are_found line mark is =
    let d = is.digit in
    let first : d - 48 ≡ 10 * 0 + (d - 48) = omega arith in
    let body : with_octets brace ((d ∷ is.digits) ++ closing mark.waits) ≡ behind_crlf mark =
    with_octets-append brace (d ∷ is.digits) (closing mark.waits)
    ∙ rw (not_brace d is.each.0, tests_digit d is.each.0, first, with_digits (10 * 0 + (d - 48)) is.digits is.each.1, with_closing, is.value) refl in
    ap line_mark is.spelt
    ∙ ap mark_at (with_octets-append text is.front (123 ∷ ((d ∷ is.digits) ++ closing mark.waits)) ∙ body)

digit_tested : (b : ℕ) → is_digit b ≡ true → IsDigit b
digit_tested b e = go (nat_lt b 48) refl (nat_lt b 58) refl e
  where
    go : (low : Bool) → nat_lt b 48 ≡ low → (high : Bool) → nat_lt b 58 ≡ high → (not low && high) ≡ true → IsDigit b
    go true l high h t = cc
    go false l true h t = (ltb-false b 48 l, ltb-true b 58 h)
    go false l false h t = cc

all_digits-push : (ds : List ℕ) (d : ℕ) → AllByRecursion IsDigit ds → IsDigit d → AllByRecursion IsDigit (ds ++ d ∷ [])
all_digits-push [] d all is = (is, tt)
all_digits-push (x ∷ ds) d all is = (all.0, all_digits-push ds d all.1 is)

value-push : (v : ℕ) (ds : List ℕ) (d : ℕ) → decimal_from v (ds ++ d ∷ []) ≡ 10 * decimal_from v ds + (d - 48)
value-push v [] d = refl
value-push v (x ∷ ds) d = value-push (10 * v + (x - 48)) ds d

-- a brace and digits, and what follows them
record Numbered (octets rest : List ℕ) (size : ℕ) : Type 0 where
  before : List ℕ
  digit : ℕ
  more : List ℕ
  spelt : octets ≡ before ++ 123 ∷ ((digit ∷ more) ++ rest)
  each : AllByRecursion IsDigit (digit ∷ more)
  value : size ≡ decimal_from 0 (digit ∷ more)

-- what closes a mark, before CRLF
abbrev braced : Bool → List ℕ
braced true = 125 ∷ []
braced false = 43 ∷ 125 ∷ []

-- what octets that were read end with
abbrev Means : List ℕ → LineTail → Type 0
Means octets text = Unit {0}
Means octets brace = (before : List ℕ) × (octets ≡ before ++ 123 ∷ [])
Means octets (digits n) = Numbered octets [] n
Means octets (plus n) = Numbered octets (43 ∷ []) n
Means octets (closed mark) = Numbered octets (braced mark.waits) mark.size
Means octets (behind_cr mark) = Numbered octets (braced mark.waits ++ 13 ∷ []) mark.size
Means octets (behind_crlf mark) = Numbered octets (closing mark.waits) mark.size

more_octets : (octets rest : List ℕ) (n b : ℕ) → Numbered octets rest n → Numbered (octets ++ b ∷ []) (rest ++ b ∷ []) n
more_octets octets rest n b is = record {
  before = is.before;
  digit = is.digit;
  more = is.more;
  spelt = ap (λ (l : List ℕ). l ++ b ∷ []) is.spelt ∙ simp append_assoc refl;
  each = is.each;
  value = is.value;
}

means_digit : (octets : List ℕ) (t : LineTail) (b : ℕ) → Means octets t → IsDigit b → Means (octets ++ b ∷ []) (with_digit t b)
means_digit octets text b means is = tt
means_digit octets brace b means is = record {
  before = means.0;
  digit = b;
  more = [];
  spelt = ap (λ (l : List ℕ). l ++ b ∷ []) means.1 ∙ simp append_assoc refl;
  each = (is, tt);
  value = omega (arith, is.1);
}
means_digit octets (digits n) b means is = record {
  before = means.before;
  digit = means.digit;
  more = means.more ++ b ∷ [];
  spelt = ap (λ (l : List ℕ). l ++ b ∷ []) means.spelt ∙ simp (append_assoc, append-nil) refl;
  each = (means.each.0, all_digits-push means.more b means.each.1 is);
  value = rw (value-push (10 * 0 + (means.digit - 48)) means.more b, means.value) refl;
}
means_digit octets (plus n) b means is = tt
means_digit octets (closed mark) b means is = tt
means_digit octets (behind_cr mark) b means is = tt
means_digit octets (behind_crlf mark) b means is = tt

means_plus : (octets : List ℕ) (t : LineTail) → Means octets t → Means (octets ++ 43 ∷ []) (with_plus t)
means_plus octets text means = tt
means_plus octets brace means = tt
means_plus octets (digits n) means = more_octets octets [] n 43 means
means_plus octets (plus n) means = tt
means_plus octets (closed mark) means = tt
means_plus octets (behind_cr mark) means = tt
means_plus octets (behind_crlf mark) means = tt

means_brace : (octets : List ℕ) (t : LineTail) → Means octets t → Means (octets ++ 125 ∷ []) (with_brace t)
means_brace octets text means = tt
means_brace octets brace means = tt
means_brace octets (digits n) means = more_octets octets [] n 125 means
means_brace octets (plus n) means = more_octets octets (43 ∷ []) n 125 means
means_brace octets (closed mark) means = tt
means_brace octets (behind_cr mark) means = tt
means_brace octets (behind_crlf mark) means = tt

means_cr : (octets : List ℕ) (t : LineTail) → Means octets t → Means (octets ++ 13 ∷ []) (with_cr t)
means_cr octets text means = tt
means_cr octets brace means = tt
means_cr octets (digits n) means = tt
means_cr octets (plus n) means = tt
means_cr octets (closed mark) means = more_octets octets (braced mark.waits) mark.size 13 means
means_cr octets (behind_cr mark) means = tt
means_cr octets (behind_crlf mark) means = tt

braced-crlf : (waits : Bool) → (braced waits ++ 13 ∷ []) ++ 10 ∷ [] ≡ closing waits
braced-crlf true = refl
braced-crlf false = refl

means_lf : (octets : List ℕ) (t : LineTail) → Means octets t → Means (octets ++ 10 ∷ []) (with_lf t)
means_lf octets text means = tt
means_lf octets brace means = tt
means_lf octets (digits n) means = tt
means_lf octets (plus n) means = tt
means_lf octets (closed mark) means = tt
means_lf octets (behind_cr mark) means = subst (λ (rest : List ℕ). Numbered (octets ++ 10 ∷ []) rest mark.size) (braced-crlf mark.waits) (more_octets octets (braced mark.waits ++ 13 ∷ []) mark.size 10 means)
means_lf octets (behind_crlf mark) means = tt

means_octet : (octets : List ℕ) (t : LineTail) (b : ℕ) → Means octets t → Means (octets ++ b ∷ []) (with_octet t b)
means_octet octets t b means = go (eqb b 123) refl (is_digit b) refl (eqb b 43) refl (eqb b 125) refl (eqb b 13) refl (eqb b 10) refl
  where
    go : (opens : Bool) → eqb b 123 ≡ opens → (digit : Bool) → is_digit b ≡ digit → (plus' : Bool) → eqb b 43 ≡ plus' → (closes : Bool) → eqb b 125 ≡ closes →
        (cr : Bool) → eqb b 13 ≡ cr → (lf : Bool) → eqb b 10 ≡ lf → Means (octets ++ b ∷ []) (with_octet t b)
    go true e digit f plus' g closes h cr i lf j = rw e (octets, ap (λ (x : ℕ). octets ++ x ∷ []) (eqb-true b 123 e))
    go false e true f plus' g closes h cr i lf j = rw (e, f) (means_digit octets t b means (digit_tested b f))
    go false e false f true g closes h cr i lf j = rw (e, f, g) (rw (eqb-true b 43 g) (means_plus octets t means))
    go false e false f false g true h cr i lf j = rw (e, f, g, h) (rw (eqb-true b 125 h) (means_brace octets t means))
    go false e false f false g false h true i lf j = rw (e, f, g, h, i) (rw (eqb-true b 13 i) (means_cr octets t means))
    go false e false f false g false h false i true j = rw (e, f, g, h, i, j) (rw (eqb-true b 10 j) (means_lf octets t means))
    go false e false f false g false h false i false j = rw (e, f, g, h, i, j) tt

means_octets : (octets : List ℕ) (t : LineTail) (more : List ℕ) → Means octets t → Means (octets ++ more) (with_octets t more)
means_octets octets t [] means = rw append-nil means
means_octets octets t (b ∷ bs) means = subst (λ (l : List ℕ). Means l (with_octets (with_octet t b) bs)) (append_assoc octets (b ∷ []) bs) (means_octets (octets ++ b ∷ []) (with_octet t b) bs (means_octet octets t b means))

read_mark : (line : List ℕ) (mark : Announced) (t : LineTail) → Means line t → mark_at t ≡ Some mark → IsMarked line mark
read_mark line mark (behind_crlf m) means e =
    let same : m ≡ mark = cc in
    subst (IsMarked line) same (record { front = means.before; digit = means.digit; digits = means.more; spelt = means.spelt; each = means.each; value = means.value })
read_mark line mark text means e = cc
read_mark line mark brace means e = cc
read_mark line mark (digits n) means e = cc
read_mark line mark (plus n) means e = cc
read_mark line mark (closed m) means e = cc
read_mark line mark (behind_cr m) means e = cc

pub marks_are_read : MarksAreRead
marks_are_read line mark e = read_mark line mark (with_octets text line) (means_octets [] text line tt) e

-- a line that announces no literal
pub no_mark : (line : List ℕ) → IsLastLine line → line_mark line ≡ None
no_mark line is = go (line_mark line) refl
  where
    go : (found : Option Announced) → line_mark line ≡ found → found ≡ None
    go None e = refl
    go (Some mark) e = absurd (is.unmarked mark (marks_are_read line mark e))
