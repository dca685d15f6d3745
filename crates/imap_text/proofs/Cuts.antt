-- Header and text of what begins with a line.
use Rattle.std.proofs.Common.{◌≡◌, ◌∙◌, ap, sym, refl, ℕ, ◌-◌, ◌≤◌, List, [], ◌∷◌, ◌++◌, length, length-append, append_assoc, append-nil, take, drop, arith, Bool, true, false}
use Rattle.std.specs.Prelude.{slice_range}
use Rattle.std.specs.List.{concat}
use Rattle.std.proofs.lemmas.List.Prefix.{front_rest}
use Rattle.std.proofs.Math.Seq.{take-append_seam, take-length}
use Rattle.imap_text.specs.Lines.{lines, is_empty_line}
use Rattle.imap_text.specs.Sections.{Sections, with_field_line, sections_of, sections, header, text}
use Rattle.imap_text.specs.Found.{IsFirstLine}
use Rattle.imap_text.proofs.LinesFound.{concat-lines}

sections_of-joined : (all : List (List ℕ)) → concat ((sections_of all).field_lines ++ (sections_of all).end) ++ concat (sections_of all).text_lines ≡ concat all
sections_of-joined [] = refl
sections_of-joined (line ∷ later) = by (is_empty_line line) refl (sections_of-joined later)
  where
    by : (empty : Bool) → is_empty_line line ≡ empty →
        concat ((sections_of later).field_lines ++ (sections_of later).end) ++ concat (sections_of later).text_lines ≡ concat later →
        concat ((sections_of (line ∷ later)).field_lines ++ (sections_of (line ∷ later)).end) ++ concat (sections_of (line ∷ later)).text_lines ≡ line ++ concat later
    by true e ih = rw e (ap (λ (l : List ℕ). l ++ concat later) (append-nil line))
    by false e ih = rw e (append_assoc line _ _ ∙ ap (λ (l : List ℕ). line ++ l) ih)

pub header-text : (message : List ℕ) → header message ++ text message ≡ message
header-text message = sections_of-joined (lines message) ∙ concat-lines message

pub header-take : (message : List ℕ) → take (length (header message)) message ≡ header message
header-take message = ap (take (length (header message))) (sym (header-text message)) ∙ take-append_seam (header message) (text message)

pub header-drop : (message : List ℕ) → drop (length (header message)) message ≡ text message
header-drop message = front_rest message (header message) (text message) (sym (header-text message))

pub header_within : (message : List ℕ) → length (header message) ≤ length message
header_within message = omega (arith, ap length (header-text message), length-append (header message) (text message))

pub header-range : (message : List ℕ) (n : ℕ) → n ≡ length (header message) → slice_range message 0 n ≡ header message
header-range message n is = let all : n - 0 ≡ length (header message) = omega (arith, is) in rw all (header-take message)

pub text-range : (message : List ℕ) (n len : ℕ) → n ≡ length (header message) → len ≡ length message → slice_range message n len ≡ text message
text-range message n len is all =
    let rest : len - n ≡ length (text message) = omega (arith, is, all, ap length (header-text message), length-append (header message) (text message)) in
    rw (rest, is, header-drop message) (take-length (text message))

-- ---- by the first line

pub sections-field : (octets line later : List ℕ) → IsFirstLine octets line later → is_empty_line line ≡ false → sections octets ≡ with_field_line line (sections later)
sections-field octets line later first e = ap sections_of first.lines ∙ rw e refl

pub sections-end : (octets line later : List ℕ) → IsFirstLine octets line later → is_empty_line line ≡ true → sections octets ≡ record { field_lines = []; end = line ∷ []; text_lines = lines later }
sections-end octets line later first e = ap sections_of first.lines ∙ rw e refl

pub header-field : (octets line later : List ℕ) → IsFirstLine octets line later → is_empty_line line ≡ false → header octets ≡ line ++ header later
header-field octets line later first e = ap (λ (s : Sections). concat (s.field_lines ++ s.end)) (sections-field octets line later first e)

pub header-end : (octets line later : List ℕ) → IsFirstLine octets line later → is_empty_line line ≡ true → header octets ≡ line
header-end octets line later first e = ap (λ (s : Sections). concat (s.field_lines ++ s.end)) (sections-end octets line later first e) ∙ append-nil line
