-- A command stays a command.
use Rattle.std.proofs.Common.{◌≡◌, ◌∙◌, ap, sym, refl, subst, ℕ, ◌+◌, ◌-◌, Bool, true, false, cond, List, [], ◌∷◌, ◌++◌, append_assoc, append-nil, length, length-append, take, drop, arith, Option, Some, None}
use Rattle.std.proofs.lemmas.Grind.{common_steps}
use Rattle.std.specs.Prelude.{min}
use Rattle.std.specs.List.{list_all, AllByRecursion}
use Rattle.imap_lex.specs.Framing.{crlf}
use Rattle.imap_lex.specs.LineEnd.{line_length}
use Rattle.imap_lex.specs.Mark.{Announced, line_mark, mark_at, text, with_octets}
use Rattle.imap_lex.specs.Stream.{IsLine, IsLastLine, IsSection, Section, sections_octets, continue_frames}
use Rattle.imap_lex.proofs.FirstLine.{lines_are_found}
use Rattle.imap_lex.proofs.Marks.{marks_are_found, marks_are_read}
use Rattle.imap_lex.proofs.Tails.{with_octets-append}
use Rattle.imap_print.specs.Lines.{is_plain}
use Rattle.imap_syntax.proofs.Writing.{both_true}
use Rattle.imap_rev1_frames.specs.declared.scan.Scan.{Scan}
use Rattle.imap_rev1_frames.specs.Scan.{written}
use Rattle.imap_rev1_frames.specs.Rewritten.{line_text, are_plain, written_line, after_line, announced, literal_length, section_length, written_section, written_after}
use Rattle.imap_rev1.specs.Laws.{Becomes}
use Rattle.imap_rev1_frames.proofs.Sections.{written_next}
use Rattle.imap_rev1.proofs.Tails.{Alike, text_alike}

-- ---- lists

module _ (xs ys : List ℕ) (n : ℕ) (len : length xs ≡ n) where
  pub take_front : take n (xs ++ ys) ≡ xs
  take_front = grind (arith, common_steps)

  pub drop_front : drop n (xs ++ ys) ≡ ys
  drop_front = grind (arith, common_steps)

-- ---- plain texts

-- no CRLF stands before the one after a plain text
only_end : (octets front back : List ℕ) → list_all is_plain octets ≡ true → octets ++ crlf ≡ front ++ (crlf ++ back) → back ≡ []
only_end [] [] back h e = cc
only_end [] (x ∷ []) back h e = absurd cc
only_end [] (x ∷ y ∷ front) back h e = let len : 0 ≡ length (front ++ (crlf ++ back)) = ap length (let rest : [] ≡ front ++ (crlf ++ back) = cc in rest) in absurd (omega (arith, length-append front (crlf ++ back)))
only_end (octet ∷ octets) [] back h e =
    let first : octet ≡ 13 = cc in
    let plain : is_plain 13 ≡ true = subst (λ (b : ℕ). is_plain b ≡ true) first (both_true (is_plain octet) (list_all is_plain octets) h).0 in
    absurd cc
only_end (octet ∷ octets) (x ∷ front) back h e =
    only_end octets front back (both_true (is_plain octet) (list_all is_plain octets) h).1 cc

pub plain_line : (octets : List ℕ) → list_all is_plain octets ≡ true → IsLine (octets ++ crlf)
plain_line octets h = record { ends = (octets, refl); no_earlier = λ front back e. only_end octets front back h e }

-- ---- a line

pub text_of : (line : List ℕ) → IsLine line → line ≡ line_text line ++ crlf
text_of line is =
    let text = is.ends.0 in
    let count : length line - 2 ≡ length text = omega (arith, ap length is.ends.1, length-append text crlf) in
    let same : line_text line ≡ text = ap (take (length line - 2)) is.ends.1 ∙ take_front text crlf (length line - 2) (sym count) in
    is.ends.1 ∙ ap (λ (l : List ℕ). l ++ crlf) (sym same)

-- a line that has the same end as this one
record Ends (line new : List ℕ) : Type 0 where
  is_line : IsLine new
  mark : line_mark new ≡ line_mark line

mark_of : (a b : List ℕ) → with_octets text a ≡ with_octets text b → line_mark (a ++ crlf) ≡ line_mark (b ++ crlf)
mark_of a b e = ap mark_at (with_octets-append text a crlf ∙ ap (λ t. with_octets t crlf) e ∙ sym (with_octets-append text b crlf))

line_by : (scan : Scan) (line : List ℕ) (b : Bool) → are_plain (line_text line) ≡ b → IsLine line → Ends line (cond b (written scan [] (line_text line) ++ crlf) line)
line_by scan line false e is = record { is_line = is; mark = refl }
line_by scan line true e is =
    let text = line_text line in
    let alike : Alike text (written scan [] text) = text_alike scan [] text in
    record {
      is_line = plain_line (written scan [] text) (alike.plain e);
      mark = mark_of (written scan [] text) text (alike.tail _) ∙ ap line_mark (sym (text_of line is));
    }

line_ends : (scan : Scan) (line : List ℕ) → IsLine line → Ends line (written_line scan line)
line_ends scan line is = line_by scan line (are_plain (line_text line)) refl is

-- ---- a line and its literal

literal_whole : (mark : Option Announced) (literal more : List ℕ) → length literal ≡ announced mark → min (length (literal ++ more)) (announced mark) ≡ length literal
literal_whole mark literal more e = omega (arith, length-append literal more)

section_by : (scan : Scan) (line literal more : List ℕ) → IsLine line → length literal ≡ announced (line_mark line)
    → written_after 0 scan (line ++ (literal ++ more)) ≡ (written_line scan line ++ literal) ++ written_after 0 (after_line scan line) more
section_by scan line literal more is e =
    let octets = line ++ (literal ++ more) in
    let len = length line in
    let found : line_length octets ≡ Some len = lines_are_found line (literal ++ more) is in
    let front : take len octets ≡ line = take_front line (literal ++ more) len refl in
    let back : drop len octets ≡ literal ++ more = drop_front line (literal ++ more) len refl in
    let count : literal_length (take len octets) (drop len octets) ≡ length literal =
    ap (λ (l : List ℕ). literal_length l (drop len octets)) front ∙ ap (literal_length line) back ∙ literal_whole (line_mark line) literal more e in
    let section : written_section scan len octets ≡ written_line scan line ++ literal =
    ap (λ (l : List ℕ). written_line scan l ++ take (literal_length (take len octets) (drop len octets)) (drop len octets)) front
    ∙ ap (λ (n : ℕ). written_line scan line ++ take n (drop len octets)) count
    ∙ ap (λ (l : List ℕ). written_line scan line ++ take (length literal) l) back
    ∙ ap (λ (l : List ℕ). written_line scan line ++ l) (take_front literal more (length literal) refl) in
    let whole : octets ≡ (line ++ literal) ++ more = sym (append_assoc line literal more) in
    let both : len + literal_length (take len octets) (drop len octets) ≡ length (line ++ literal) = ap (λ (n : ℕ). len + n) count ∙ sym (length-append line literal) in
    let rest : drop (section_length len octets) octets ≡ more = ap (λ (n : ℕ). drop n octets) both ∙ ap (drop (length (line ++ literal))) whole ∙ drop_front (line ++ literal) more (length (line ++ literal)) refl in
    written_next scan octets len found
    ∙ ap (λ (l : List ℕ). l ++ written_after 0 (after_line scan (take len octets)) (drop (section_length len octets) octets)) section
    ∙ ap (λ (l : List ℕ). (written_line scan line ++ literal) ++ written_after 0 (after_line scan l) (drop (section_length len octets) octets)) front
    ∙ ap (λ (l : List ℕ). (written_line scan line ++ literal) ++ written_after 0 (after_line scan line) l) rest

-- ---- a command

no_mark : (line : List ℕ) (o : Option Announced) → line_mark line ≡ o → IsLastLine line → o ≡ None
no_mark line None e is = refl
no_mark line (Some mark) e is = absurd (is.unmarked mark (marks_are_read line mark e))

pub last_written : (scan : Scan) (last : List ℕ) → IsLastLine last → written_after 0 scan last ≡ written_line scan last
last_written scan last is =
    let none : line_mark last ≡ None = no_mark last (line_mark last) refl is in
    let new = written_line scan last in
    ap (written_after 0 scan) (sym (append-nil last)) ∙ section_by scan last [] [] is.is_line (sym (ap announced none)) ∙ append-nil (new ++ []) ∙ append-nil new

last_stays : (scan : Scan) (last : List ℕ) → IsLastLine last → Becomes (written_after 0 scan last) []
last_stays scan last is =
    let ends = line_ends scan last is.is_line in
    let none : line_mark last ≡ None = no_mark last (line_mark last) refl is in
    let new = written_line scan last in
    record {
      others = [];
      end = new;
      command = record {
        spelt = last_written scan last is;
        each = tt;
        ends = record {
          is_line = ends.is_line;
          unmarked = λ mark m. let found : Some mark ≡ None = sym (marks_are_found new mark m) ∙ ends.mark ∙ none in cc;
        };
      };
      literals = refl;
      inside = refl;
      frames = refl;
    }

section_stays : (scan : Scan) (s : Section) (rest : List ℕ) (sections : List Section) → IsSection s → Becomes (written_after 0 (after_line scan s.line) rest) sections → Becomes (written_after 0 scan ((s.line ++ s.literal) ++ rest)) (s ∷ sections)
section_stays scan s rest sections is more =
    let ends = line_ends scan s.line is.marked.is_line in
    let found : line_mark s.line ≡ Some s.mark = marks_are_found s.line s.mark is.marked.marked in
    let new = written_line scan s.line in
    let other : Section = record { line = new; mark = s.mark; literal = s.literal } in
    record {
      others = other ∷ more.others;
      end = more.end;
      command = record {
        spelt =
            ap (written_after 0 scan) (append_assoc s.line s.literal rest)
            ∙ section_by scan s.line s.literal rest is.marked.is_line (is.size ∙ sym (ap announced found))
            ∙ ap (λ (l : List ℕ). (new ++ s.literal) ++ l) more.command.spelt
            ∙ sym (append_assoc (new ++ s.literal) (sections_octets more.others) more.end);
        each = (record { marked = record { is_line = ends.is_line; marked = marks_are_read new s.mark (ends.mark ∙ found) }; short = is.short; size = is.size }, more.command.each);
        ends = more.command.ends;
      };
      literals = ap (λ (l : List (List ℕ)). s.literal ∷ l) more.literals;
      inside = ap (λ (n : ℕ). s.mark.size + n) more.inside;
      frames = ap (λ l. continue_frames s.mark ++ l) more.frames;
    }

pub command_stays : (scan : Scan) (sections : List Section) (last : List ℕ) → AllByRecursion IsSection sections → IsLastLine last → Becomes (written_after 0 scan (sections_octets sections ++ last)) sections
command_stays scan [] last h is = last_stays scan last is
command_stays scan (s ∷ sections) last h is =
    subst (λ (l : List ℕ). Becomes (written_after 0 scan l) (s ∷ sections)) (sym (append_assoc (s.line ++ s.literal) (sections_octets sections) last))
    (section_stays scan s (sections_octets sections ++ last) sections h.0 (command_stays (after_line scan s.line) sections last h.1 is))
