-- The first line of octets.
use Rattle.std.proofs.Common.{◌≡◌, ◌∙◌, ap, sym, refl, ℕ, ◌+◌, ◌<◌, ◌≤◌, List, [], ◌∷◌, length, length-append, append-nil, take, drop, add-one, arith, Bool, true, false, Option, Some, None}
use Rattle.std.specs.Prelude.{eqb}
use Rattle.std.specs.List.{starts_with, concat}
use Rattle.std.proofs.Math.Seq.{take-length, drop-length}
use Rattle.std.proofs.lemmas.List.{length-take-le, take-append-drop}
use Rattle.imap_lex.specs.Chars.{crlf}
use Rattle.imap_lex.specs.LineEnd.{line_length}
use Rattle.imap_lex.proofs.FirstLine.{lines_are_read}
use Rattle.imap_text.specs.Lines.{with_front, lines}
use Rattle.imap_text.specs.Found.{IsFirstLine}

-- a line that ends has at least two octets
pub bounds : (xs : List ℕ) (n : ℕ) → line_length xs ≡ Some n → (2 ≤ n) × (n ≤ length xs)
bounds xs n e =
    let read = lines_are_read xs n e in
    let ends = read.1.ends in
    (omega (arith, read.0, length-take-le n xs read.0, ap length ends.1, length-append ends.0 crlf), read.0)

lines-first : (xs : List ℕ) (n : ℕ) → line_length xs ≡ Some n → lines xs ≡ take n xs ∷ lines (drop n xs)
lines-first [] n e = cc
lines-first (b ∷ []) n e = let within = bounds (b ∷ []) n e in absurd (omega arith)
lines-first (b ∷ c ∷ rest) n e = by (starts_with eqb (b ∷ c ∷ rest) crlf) refl (line_length (c ∷ rest)) refl (lines-first (c ∷ rest))
  where
    by : (first : Bool) → starts_with eqb (b ∷ c ∷ rest) crlf ≡ first → (later : Option ℕ) → line_length (c ∷ rest) ≡ later →
        ((m : ℕ) → line_length (c ∷ rest) ≡ Some m → lines (c ∷ rest) ≡ take m (c ∷ rest) ∷ lines (drop m (c ∷ rest))) →
        lines (b ∷ c ∷ rest) ≡ take n (b ∷ c ∷ rest) ∷ lines (drop n (b ∷ c ∷ rest))
    by true f later l ih =
        let here : Some 2 ≡ Some n = rw f at e in
        let two : 2 ≡ n = cc in
        rw (f, ← two) refl
    by false f None l ih = let none : None ≡ Some n = rw (f, l) at e in cc
    by false f (Some m) l ih =
        let here : Some (m + 1) ≡ Some n = rw (f, l) at e in
        let next : m + 1 ≡ n = cc in
        rw (f, ← next, add-one, ih m l) refl

lines-last : (xs : List ℕ) → line_length xs ≡ None → 0 < length xs → lines xs ≡ xs ∷ []
lines-last [] e some = absurd (omega arith)
lines-last (b ∷ []) e some = refl
lines-last (b ∷ c ∷ rest) e some = by (starts_with eqb (b ∷ c ∷ rest) crlf) refl (line_length (c ∷ rest)) refl (lines-last (c ∷ rest))
  where
    by : (first : Bool) → starts_with eqb (b ∷ c ∷ rest) crlf ≡ first → (later : Option ℕ) → line_length (c ∷ rest) ≡ later →
        (line_length (c ∷ rest) ≡ None → 0 < length (c ∷ rest) → lines (c ∷ rest) ≡ (c ∷ rest) ∷ []) →
        lines (b ∷ c ∷ rest) ≡ (b ∷ c ∷ rest) ∷ []
    by true f later l ih = let none = rw f at e in cc
    by false f (Some m) l ih = let none : Some (m + 1) ≡ None = rw (f, l) at e in cc
    by false f None l ih = rw (f, ih l (omega arith)) refl

concat-with_front : (b : ℕ) (all : List (List ℕ)) → concat (with_front b all) ≡ b ∷ concat all
concat-with_front b [] = refl
concat-with_front b (line ∷ later) = refl

pub concat-lines : (xs : List ℕ) → concat (lines xs) ≡ xs
concat-lines [] = refl
concat-lines (b ∷ []) = refl
concat-lines (b ∷ c ∷ rest) = by (starts_with eqb (b ∷ c ∷ rest) crlf) refl (concat-lines rest) (concat-lines (c ∷ rest))
  where
    by : (first : Bool) → starts_with eqb (b ∷ c ∷ rest) crlf ≡ first → concat (lines rest) ≡ rest → concat (lines (c ∷ rest)) ≡ c ∷ rest →
        concat (lines (b ∷ c ∷ rest)) ≡ b ∷ c ∷ rest
    by true f after_two after_one = rw (f, after_two) refl
    by false f after_two after_one = rw f (concat-with_front b (lines (c ∷ rest)) ∙ ap (λ (l : List ℕ). b ∷ l) after_one)

pub first_line-ended : (xs line later : List ℕ) (n : ℕ) → line_length xs ≡ Some n → line ≡ take n xs → later ≡ drop n xs → IsFirstLine xs line later
first_line-ended xs line later n e is after =
    let within = bounds xs n e in
    record {
      whole = rw (is, after) (sym (take-append-drop n xs));
      some = rw is (omega (arith, length-take-le n xs within.1));
      lines = rw (is, after) (lines-first xs n e);
    }

pub first_line-open : (xs line later : List ℕ) → line_length xs ≡ None → 0 < length xs → line ≡ take (length xs) xs → later ≡ drop (length xs) xs → IsFirstLine xs line later
first_line-open xs line later e some is after =
    let all : line ≡ xs = is ∙ take-length xs in
    let none : later ≡ [] = after ∙ drop-length xs in
    record {
      whole = rw (all, none) (sym (append-nil xs));
      some = rw all some;
      lines = rw (all, none) (lines-last xs e some);
    }
