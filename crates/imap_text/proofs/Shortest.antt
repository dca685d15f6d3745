-- A header is the shortest beginning of a message that ends with an empty line.
use Rattle.std.proofs.Common.{◌≡◌, ◌∙◌, ap, subst, sym, refl, inl, inr, ◌⊎◌, zero, suc, ℕ, ◌+◌, ◌<◌, ◌≤◌, List, [], ◌∷◌, ◌++◌, length, length-append, append_assoc, take, drop, arith, Bool, true, false, Option, Some, None}
use Rattle.std.specs.Prelude.{eqb, nat_lt}
use Rattle.std.proofs.lemmas.Bool.Decides.{nat_tests}
use Rattle.std.specs.List.{starts_with}
use Rattle.std.proofs.lemmas.List.{take-append-drop, take-append-le, drop-append-le, same_from_push}
use Rattle.std.proofs.lemmas.List.Prefix.{front_rest}
use Rattle.std.proofs.Math.Seq.{take-append_seam, drop-length}
use Rattle.imap_lex.specs.Chars.{crlf}
use Rattle.imap_lex.specs.LineEnd.{line_length}
use Rattle.imap_lex.specs.Stream.{IsLine}
use Rattle.imap_lex.proofs.FirstLine.{lines_are_read}
use Rattle.imap_text.specs.Lines.{is_empty_line}
use Rattle.imap_text.specs.Sections.{header, EndsWithEmptyLine, HeadersAreShortest}
use Rattle.imap_text.specs.Found.{IsFirstLine}
use Rattle.imap_text.proofs.LinesFound.{first_line-ended, first_line-open}
use Rattle.imap_text.proofs.Cuts.{header-field, header-end, header_within}
use Rattle.imap_text.proofs.FieldsFound.{empty_is_crlf}

-- where CRLF stands, a line ends
has_line : (front back : List ℕ) → line_length (front ++ (crlf ++ back)) ≡ None → ⊥
has_line [] back e = cc
has_line (x ∷ front) back e = by (starts_with eqb (x ∷ (front ++ (crlf ++ back))) crlf) refl (line_length (front ++ (crlf ++ back))) refl (has_line front back)
  where
    by : (first : Bool) → starts_with eqb (x ∷ (front ++ (crlf ++ back))) crlf ≡ first → (later : Option ℕ) → line_length (front ++ (crlf ++ back)) ≡ later →
        (line_length (front ++ (crlf ++ back)) ≡ None → ⊥) → ⊥
    by true f later l ih = let none = rw f at e in cc
    by false f None l ih = ih l
    by false f (Some n) l ih = let none = rw (f, l) at e in cc

ends_with_line : (octets : List ℕ) → EndsWithEmptyLine octets → (front : List ℕ) × (octets ≡ front ++ crlf)
ends_with_line octets (inl e) = ([], e)
ends_with_line octets (inr h) = (h.0 ++ crlf, h.1 ∙ sym (append_assoc h.0 crlf crlf))

pub two_octets : (octets : List ℕ) → EndsWithEmptyLine octets → 2 ≤ length octets
two_octets octets is = let ends = ends_with_line octets is in omega (arith, ap length ends.1, length-append ends.0 crlf)

-- the longer of two fronts begins with the shorter
longer : (a b c d : List ℕ) → a ++ b ≡ c ++ d → length c ≤ length a → a ≡ c ++ drop (length c) a
longer a b c d e h =
    let front : take (length c) a ≡ c = sym (take-append-le (length c) a b h) ∙ ap (take (length c)) e ∙ take-append_seam c d in
    sym (take-append-drop (length c) a) ∙ ap (λ (l : List ℕ). l ++ drop (length c) a) front

-- and what follows the shorter is the rest of the longer, and what follows that
after_shorter : (a b c d : List ℕ) → a ++ b ≡ c ++ d → length c ≤ length a → d ≡ drop (length c) a ++ b
after_shorter a b c d e h = sym (front_rest (a ++ b) c d e) ∙ drop-append-le (length c) a b h

-- what is left of a text and CRLF after a line ends with CRLF, unless nothing is left
left_ends : (text line more : List ℕ) → IsLine line → text ++ crlf ≡ line ++ more → EndsWithEmptyLine (more ++ crlf)
left_ends text line [] is e = inl refl
left_ends text line (x ∷ []) is e =
    let t = is.ends.0 in
    let pushed : (text ++ 13 ∷ []) ++ 10 ∷ [] ≡ line ++ x ∷ [] = append_assoc text (13 ∷ []) (10 ∷ []) ∙ e in
    let parts = same_from_push (text ++ 13 ∷ []) line 10 x pushed in
    let ended : text ++ 13 ∷ [] ≡ (t ++ 13 ∷ []) ++ 10 ∷ [] = parts.0 ∙ is.ends.1 ∙ sym (append_assoc t (13 ∷ []) (10 ∷ [])) in
    let last = same_from_push text (t ++ 13 ∷ []) 13 10 ended in
    absurd cc
left_ends text line (x ∷ y ∷ more) is e =
    let all = x ∷ y ∷ more in
    let enough : length line ≤ length text = omega (arith, ap length e, length-append text crlf, length-append line all) in
    let front = drop (length line) text in
    let is_front : all ≡ front ++ crlf = after_shorter text crlf line all e enough in
    inr (front, ap (λ (l : List ℕ). l ++ crlf) is_front ∙ append_assoc front crlf crlf)

-- a line has no CRLF before its end
line_within : (line later text back : List ℕ) → IsLine line → line ++ later ≡ (text ++ crlf) ++ back → length line ≤ length (text ++ crlf)
line_within line later text back is e = by (nat_lt (length (text ++ crlf)) (length line)) refl
  where
    by : (longer_line : Bool) → nat_lt (length (text ++ crlf)) (length line) ≡ longer_line → length line ≤ length (text ++ crlf)
    by false h = grind (arith, nat_tests)
    by true h =
        let lt : length (text ++ crlf) < length line = grind (arith, nat_tests) in
        let rest = drop (length (text ++ crlf)) line in
        let begins : line ≡ (text ++ crlf) ++ rest = longer line later (text ++ crlf) back e (omega arith) in
        let none = is.no_earlier text rest (begins ∙ append_assoc text crlf rest) in
        omega (arith, lt, ap length begins, ap length none, length-append (text ++ crlf) rest)

-- After a line that isn't empty, the rest of the message has such a beginning too.
record IsStep (line later front : List ℕ) : Type 0 where
  next : List ℕ
  back : List ℕ
  ends : EndsWithEmptyLine next
  whole : later ≡ next ++ back
  lengths : length line + length next ≡ length front

step : (message line later front back : List ℕ) → IsFirstLine message line later → IsLine line → (line ≡ crlf → ⊥) → message ≡ front ++ back → EndsWithEmptyLine front → IsStep line later front
step message line later front back first is other e (inl c) =
    let whole : line ++ later ≡ crlf ++ back = sym first.whole ∙ e ∙ ap (λ (l : List ℕ). l ++ back) c in
    let t = is.ends.0 in
    let two : length crlf ≤ length line = omega (arith, ap length is.ends.1, length-append t crlf) in
    let begins = longer line later crlf back whole two in
    let none = is.no_earlier [] (drop 2 line) begins in
    absurd (other (begins ∙ ap (λ (l : List ℕ). crlf ++ l) none))
step message line later front back first is other e (inr h) =
    let text = h.0 in
    let grouped : front ++ back ≡ (text ++ crlf) ++ (crlf ++ back) = ap (λ (l : List ℕ). l ++ back) h.1 ∙ append_assoc text (crlf ++ crlf) back ∙ sym (append_assoc text crlf (crlf ++ back)) in
    let whole : (text ++ crlf) ++ (crlf ++ back) ≡ line ++ later = sym grouped ∙ sym e ∙ first.whole in
    let short = line_within line later text (crlf ++ back) is (sym whole) in
    let more = drop (length line) (text ++ crlf) in
    let split : text ++ crlf ≡ line ++ more = longer (text ++ crlf) (crlf ++ back) line later whole short in
    let after = after_shorter (text ++ crlf) (crlf ++ back) line later whole short in
    record {
      next = more ++ crlf;
      back = back;
      ends = left_ends text line more is split;
      whole = after ∙ sym (append_assoc more crlf back);
      lengths = omega (arith, ap length split, ap length h.1, length-append line more, length-append more crlf, length-append text crlf, length-append text (crlf ++ crlf));
    }

not_crlf : (line : List ℕ) → is_empty_line line ≡ false → line ≡ crlf → ⊥
not_crlf line e c = let same : is_empty_line line ≡ true = ap is_empty_line c in let apart : false ≡ true = sym e ∙ same in cc

shortest : (n : ℕ) (message : List ℕ) → length message ≤ n → (front back : List ℕ) → message ≡ front ++ back → EndsWithEmptyLine front → length (header message) ≤ length front
shortest zero message few front back e is = omega (arith, header_within message)
shortest (suc n) message few front back e is = by (line_length message) refl (shortest n)
  where
    by : (found : Option ℕ) → line_length message ≡ found →
        ((later : List ℕ) → length later ≤ n → (front back : List ℕ) → later ≡ front ++ back → EndsWithEmptyLine front → length (header later) ≤ length front) →
        length (header message) ≤ length front
    by None none ih =
        let text = ends_with_line front is in
        let whole : message ≡ text.0 ++ (crlf ++ back) = e ∙ ap (λ (l : List ℕ). l ++ back) text.1 ∙ append_assoc text.0 crlf back in
        absurd (has_line text.0 back (ap line_length (sym whole) ∙ none))
    by (Some k) some ih =
        let line = take k message in
        let later = drop k message in
        let first = first_line-ended message line later k some refl refl in
        let is_line = (lines_are_read message k some).1 in
        let cases : (empty : Bool) → is_empty_line line ≡ empty → length (header message) ≤ length front =
        λ empty. elim empty as (λ b. is_empty_line line ≡ b → length (header message) ≤ length front) [
          | true ↦ λ h. omega (arith, ap length (header-end message line later first h), ap length (empty_is_crlf line h), two_octets front is)
          | false ↦ λ h.
              let s = step message line later front back first is_line (not_crlf line h) e is in
              let few_left : length later ≤ n = omega (arith, few, first.some, ap length first.whole, length-append line later) in
              omega (arith, ih later few_left s.next s.back s.whole s.ends, s.lengths, ap length (header-field message line later first h), length-append line (header later))
        ] in
        cases (is_empty_line line) refl

-- a header that has a line before it, which ends with CRLF
line_before : (line rest : List ℕ) → IsLine line → EndsWithEmptyLine rest → EndsWithEmptyLine (line ++ rest)
line_before line rest is (inl c) = inr (is.ends.0, ap (λ (l : List ℕ). line ++ l) c ∙ ap (λ (l : List ℕ). l ++ crlf) is.ends.1 ∙ append_assoc is.ends.0 crlf crlf)
line_before line rest is (inr h) = inr (line ++ h.0, ap (λ (l : List ℕ). line ++ l) h.1 ∙ sym (append_assoc line h.0 (crlf ++ crlf)))

abbrev HasEnd : List ℕ → Type 0
HasEnd message = EndsWithEmptyLine (header message) ⊎ (header message ≡ message)

whole_header : (message line later : List ℕ) → IsFirstLine message line later → is_empty_line line ≡ false → header later ≡ later → header message ≡ message
whole_header message line later first h same = header-field message line later first h ∙ ap (λ (l : List ℕ). line ++ l) same ∙ sym first.whole

ends_so : (message line later : List ℕ) → IsFirstLine message line later → IsLine line → is_empty_line line ≡ false → HasEnd later → HasEnd message
ends_so message line later first is h (inl ended) = inl (subst EndsWithEmptyLine (sym (header-field message line later first h)) (line_before line (header later) is ended))
ends_so message line later first is h (inr same) = inr (whole_header message line later first h same)

empty_end : (message line later : List ℕ) → IsFirstLine message line later → is_empty_line line ≡ true → HasEnd message
empty_end message line later first h = inl (inl (header-end message line later first h ∙ empty_is_crlf line h))

ends : (n : ℕ) (message : List ℕ) → length message ≤ n → HasEnd message
ends n [] few = inr refl
ends zero (x ∷ message) few = absurd (omega arith)
ends (suc n) (x ∷ message) few = by (line_length (x ∷ message)) refl (ends n)
  where
    by : (found : Option ℕ) → line_length (x ∷ message) ≡ found → ((later : List ℕ) → length later ≤ n → HasEnd later) → HasEnd (x ∷ message)
    by None none ih =
        let all = x ∷ message in
        let line = take (length all) all in
        let later = drop (length all) all in
        let first = first_line-open all line later none (omega arith) refl refl in
        let nothing : later ≡ [] = drop-length all in
        let cases : (empty : Bool) → is_empty_line line ≡ empty → HasEnd all = λ empty. elim empty as (λ b. is_empty_line line ≡ b → HasEnd all) [
          | true ↦ λ h. empty_end all line later first h
          | false ↦ λ h. inr (whole_header all line later first h (ap header nothing ∙ sym nothing))
        ] in
        cases (is_empty_line line) refl
    by (Some k) some ih =
        let all = x ∷ message in
        let line = take k all in
        let later = drop k all in
        let first = first_line-ended all line later k some refl refl in
        let cases : (empty : Bool) → is_empty_line line ≡ empty → HasEnd all = λ empty. elim empty as (λ b. is_empty_line line ≡ b → HasEnd all) [
          | true ↦ λ h. empty_end all line later first h
          | false ↦ λ h. ends_so all line later first (lines_are_read all k some).1 h (ih later (omega (arith, few, first.some, ap length first.whole, length-append line later)))
        ] in
        cases (is_empty_line line) refl

pub headers_are_shortest : HeadersAreShortest
headers_are_shortest message = record { ends = ends (length message) message (omega arith); shortest = shortest (length message) message (omega arith) }
