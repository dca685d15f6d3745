-- The laws of the rest of a LOGIN, AUTHENTICATE or STARTTLS line.
use Rattle.std.proofs.Common.{◌≡◌, ℕ, zero, suc, ◌<◌, Bool, true, false, not, eqb, List, [], ◌∷◌, ◌++◌, length, take, drop, Option, Some, None, refl, sym, ap, subst, ◌∙◌, append_assoc, length-append, arith}
use Rattle.std.specs.Prelude.{option_map}
use Rattle.std.specs.Option.{option_and_then}
use Rattle.std.specs.List.{prefix_len, AllByRecursion}
use Rattle.std.proofs.lemmas.List.{append-nil, append_cancel_right, take_at, drop_at, take-append-drop}
use Rattle.std.proofs.lemmas.Option.{some_pair_parts, none-some}
use Rattle.imap_lex.specs.Mark.{Announced, line_mark}
use Rattle.imap_lex.specs.Framing as framing
use Rattle.imap_lex.specs.Stream.{IsMarkedLine, IsLastLine, Section, sections_octets}
use Rattle.imap_lex.specs.Held.{held_size, held_mark}
use Rattle.imap_lex.specs.declared.mark.LiteralMark.{LiteralMark}
use Rattle.imap_lex.proofs.Tails.{held_mark-of}
use Rattle.imap_lex.proofs.Marks.{marks_are_found, marks_are_read, no_mark}
use Rattle.imap_syntax.specs.declared.error.ReadError.{ReadError}
use Rattle.imap_syntax.specs.declared.error.ReadError.TheVariants.{Memory, Syntax}
use Rattle.imap_syntax.specs.Reading.{Refuses}
use Rattle.imap_syntax.specs.Rule.{Rule, ConsistsOf}
use Rattle.imap_syntax.specs.Lexical.{is_astring_char, crlf, has_nul}
use Rattle.imap_commands.specs.commands.Login.{is_line_char, IsPlainLine, IsPlainSection, IsLines, line_rest, announced_literal, after_line, lines_up_to, lines_read, lines, any_arguments_after, any_arguments}
use Rattle.imap_syntax.proofs.RuleLaws.{StopsAt, Lawful, MayFollow, ended_lawful, then_lawful, then_follows, give_lawful, give_follows, octet_then_follows, after_anything, prefix_len-whole, prefix_passes}
use Rattle.imap_syntax.proofs.Lists.{fail_lawful, when_lawful, counted_lawful, flag_then_lawful, flag_then_follows}
use Rattle.imap_syntax.proofs.Strings.{crlf_lawful}
use Rattle.imap_syntax.proofs.Ends.{AtCr, cr_stops, give_before}
use Rattle.imap_syntax.proofs.Writing.{consists_all}
use Rattle.imap_commands.proofs.Lines.{is_line}

-- ---- lines, up to a number of them

rest_lawful : Lawful (StopsAt is_line_char) line_rest
rest_lawful = record {
  sound = λ input a rest e.
      let g = some_pair_parts (take (prefix_len is_line_char input) input) a (drop (prefix_len is_line_char input) input) rest e in
      (a, (refl, subst (ConsistsOf is_line_char) g.0 (prefix_passes is_line_char input)), sym (take-append-drop (prefix_len is_line_char input) input) ∙ rw (g.0, g.1) refl);
  complete = λ a text rest h n.
      let whole : prefix_len is_line_char (text ++ rest) ≡ length text = prefix_len-whole is_line_char text rest h.1 n in
      rw (whole, take_at text rest (length text) refl, drop_at text rest (length text) refl) (ap (λ (t : List ℕ). Some (t, rest)) h.0);
}

literal_lawful : {After : List ℕ → Type 0} (n : ℕ) → Lawful After (announced_literal n)
literal_lawful n = ended_lawful crlf_lawful (λ u. ended_lawful (counted_lawful n) (λ octets. when_lawful _ _))

after_lawful : (others : Rule (Unit {0})) → Lawful AtCr others → (found : Option Announced) → Lawful AtCr (after_line others found)
after_lawful others law None = give_lawful _
after_lawful others law (Some mark) = ended_lawful (literal_lawful mark.size) (λ u. law)

after_follows : (others : Rule (Unit {0})) (found : Option Announced) → MayFollow (StopsAt is_line_char) AtCr (after_line others found)
after_follows others None = give_before _ (cr_stops is_line_char refl)
after_follows others (Some mark) = then_follows (then_follows (octet_then_follows _ 13 (λ rest. refl)) (λ u. after_anything _)) (λ u. after_anything _)

up_to_lawful : (n : ℕ) → Lawful AtCr (lines_up_to n)
unfolding lines_up_to
up_to_lawful zero = fail_lawful
up_to_lawful (suc n) = then_lawful rest_lawful (λ text. after_lawful (lines_up_to n) (up_to_lawful n) (line_mark (text ++ framing.crlf))) (λ text. after_follows (lines_up_to n) (line_mark (text ++ framing.crlf)))

-- ---- what is read is sections and a last line

plain_line : (text : List ℕ) → ConsistsOf is_line_char text → IsPlainLine (text ++ framing.crlf)
plain_line text h = record { text = text; chars = h; whole = refl }

last_line : (text : List ℕ) → ConsistsOf is_line_char text → line_mark (text ++ framing.crlf) ≡ None → IsLastLine (text ++ framing.crlf)
last_line text h none = record {
  is_line = is_line text (consists_all is_line_char text h);
  unmarked = λ mark marked. none-some mark (sym none ∙ marks_are_found (text ++ framing.crlf) mark marked);
}

not_false : (b : Bool) → not b ≡ true → b ≡ false
not_false true h = absurd cc
not_false false h = refl

-- CRLF is spelt by its two octets alone.
crlf_is : (u : Unit {0}) (text : List ℕ) → crlf.spells u text → text ≡ framing.crlf
crlf_is u text h = h.5 ∙ rw (h.3, h.4) refl

regroup : (line head octets more last : List ℕ) (text back : List ℕ) → text ≡ line ++ back → back ≡ (head ++ octets) ++ more → head ≡ framing.crlf → (whole : List ℕ) → more ++ framing.crlf ≡ whole ++ last
    → text ++ framing.crlf ≡ (((line ++ framing.crlf) ++ octets) ++ whole) ++ last
regroup line head octets more last text back e f g whole w = rw (e, f, g) (simp append_assoc (ap (λ (t : List ℕ). line ++ (framing.crlf ++ (octets ++ t))) w))

with_section : (line head octets more text back : List ℕ) (mark : Announced) → ConsistsOf is_line_char line → line_mark (line ++ framing.crlf) ≡ Some mark
    → head ≡ framing.crlf → length octets ≡ mark.size → has_nul octets ≡ false → text ≡ line ++ back → back ≡ (head ++ octets) ++ more → IsLines more → IsLines text
with_section line head octets more text back mark chars marked g size no_nul e f rest =
    let s : Section = record { line = line ++ framing.crlf; mark = mark; literal = octets } in
    let is_marked : IsMarkedLine (line ++ framing.crlf) mark = record { is_line = is_line line (consists_all is_line_char line chars); marked = marks_are_read (line ++ framing.crlf) mark marked } in
    let first : IsPlainSection s = record { marked = is_marked; plain = plain_line line chars; size = size; no_nul = no_nul } in
    record {
      sections = s ∷ rest.sections;
      last = rest.last;
      each = (first, rest.each);
      ends = rest.ends;
      plain = rest.plain;
      whole = regroup line head octets more rest.last text back e f g (sections_octets rest.sections) rest.whole;
    }

after_are : (n : ℕ) → ((u : Unit {0}) (more : List ℕ) → (lines_up_to n).spells u more → IsLines more) → (a front back text : List ℕ) (u : Unit {0}) (found : Option Announced) → line_mark (a ++ framing.crlf) ≡ found → front ≡ a → ConsistsOf is_line_char front
    → (after_line (lines_up_to n) found).spells u back → text ≡ front ++ back → IsLines text
after_are n rest_are a front back text u None e f chars h w =
    let own : ConsistsOf is_line_char a = subst (ConsistsOf is_line_char) f chars in
    let same : text ≡ a = w ∙ rw (f, h.1) (append-nil a) in
    record { sections = []; last = a ++ framing.crlf; each = tt; ends = last_line a own e; plain = plain_line a own; whole = ap (λ (t : List ℕ). t ++ framing.crlf) same }
after_are n rest_are a front back text u (Some mark) e f chars h w =
    let own : ConsistsOf is_line_char a = subst (ConsistsOf is_line_char) f chars in
    let head = h.3 in
    let octets = head.4 in
    let literal = octets.3 in
    let tested = octets.4 in
    let size : length octets.0 ≡ mark.size = literal.1 in
    let taken : head.2 ≡ octets.0 = octets.5 ∙ rw (literal.0, tested.2) (append-nil octets.0) in
    with_section a head.1 octets.0 h.2 text back mark own e (crlf_is head.0 head.1 head.3) size (not_false _ tested.0) (w ∙ ap (λ (t : List ℕ). t ++ back) f) (h.5 ∙ ap (λ (t : List ℕ). t ++ h.2) (head.5 ∙ ap (λ (t : List ℕ). head.1 ++ t) taken)) (rest_are u h.2 h.4)

lines_are : (n : ℕ) (u : Unit {0}) (text : List ℕ) → (lines_up_to n).spells u text → IsLines text
unfolding lines_up_to
lines_are zero u text h = absurd h
lines_are (suc n) u text h = after_are n (λ v more k. lines_are n v more k) h.0 h.1 h.2 text u (line_mark (h.0 ++ framing.crlf)) refl h.3.0 h.3.1 h.4 h.5

-- ---- sections and a last line are read

crlf_made : crlf.spells tt framing.crlf
crlf_made = (tt, 13 ∷ [], 10 ∷ [], refl, refl, refl)

literal_made : (octets : List ℕ) (n : ℕ) → length octets ≡ n → has_nul octets ≡ false → (announced_literal n).spells tt (framing.crlf ++ octets)
literal_made octets n size no_nul = (tt, framing.crlf, octets, crlf_made, (octets, octets, [], (refl, size), (rw no_nul refl, refl, refl), sym (append-nil octets)), refl)

last_made : (n : ℕ) (text : List ℕ) → ConsistsOf is_line_char text → line_mark (text ++ framing.crlf) ≡ None → (lines_up_to (suc n)).spells tt text
unfolding lines_up_to
last_made n text chars none =
    let end : (after_line (lines_up_to n) (line_mark (text ++ framing.crlf))).spells tt [] = rw none (refl, refl) in
    (text, text, [], (refl, chars), end, sym (append-nil text))

section_made : (n : ℕ) (line octets more : List ℕ) (mark : Announced) → ConsistsOf is_line_char line → line_mark (line ++ framing.crlf) ≡ Some mark → length octets ≡ mark.size → has_nul octets ≡ false
    → (lines_up_to n).spells tt more → (lines_up_to (suc n)).spells tt (line ++ ((framing.crlf ++ octets) ++ more))
unfolding lines_up_to
section_made n line octets more mark chars marked size no_nul h =
    let behind : (after_line (lines_up_to n) (line_mark (line ++ framing.crlf))).spells tt ((framing.crlf ++ octets) ++ more) =
    rw marked (tt, framing.crlf ++ octets, more, literal_made octets mark.size size no_nul, h, refl) in
    (line, line, (framing.crlf ++ octets) ++ more, (refl, chars), behind, refl)

regrouped : (line octets more own : List ℕ) → own ≡ line ++ framing.crlf → line ++ ((framing.crlf ++ octets) ++ more) ≡ (own ++ octets) ++ more
regrouped line octets more own e = rw e (simp append_assoc)

lines_made : (n : ℕ) (ss : List Section) (text : List ℕ) → AllByRecursion IsPlainSection ss → ConsistsOf is_line_char text → line_mark (text ++ framing.crlf) ≡ None
    → length (sections_octets ss ++ text) < n → (lines_up_to n).spells tt (sections_octets ss ++ text)
lines_made zero ss text each chars none lt = absurd (omega (arith, lt))
lines_made (suc n) [] text each chars none lt = last_made n text chars none
lines_made (suc n) (s ∷ ss) text each chars none lt =
    let first = each.0 in
    let plain = first.plain in
    let more = sections_octets ss ++ text in
    let marked : line_mark (plain.text ++ framing.crlf) ≡ Some s.mark = ap line_mark (sym plain.whole) ∙ marks_are_found s.line s.mark first.marked.marked in
    let whole : ((s.line ++ s.literal) ++ sections_octets ss) ++ text ≡ plain.text ++ ((framing.crlf ++ s.literal) ++ more) = append_assoc (s.line ++ s.literal) (sections_octets ss) text ∙ sym (regrouped plain.text s.literal more s.line plain.whole) in
    let size : length (plain.text ++ ((framing.crlf ++ s.literal) ++ more)) < suc n = subst (λ (t : List ℕ). length t < suc n) whole lt in
    let fewer : length more < n = omega (arith, size, length-append plain.text ((framing.crlf ++ s.literal) ++ more), length-append (framing.crlf ++ s.literal) more, length-append framing.crlf s.literal) in
    subst (λ (t : List ℕ). (lines_up_to (suc n)).spells tt t) (sym whole) (section_made n plain.text s.literal more s.mark plain.chars marked first.size first.no_nul (lines_made n ss text each.1 chars none fewer))

is_made : (text : List ℕ) (n : ℕ) → IsLines text → length text < n → (lines_up_to n).spells tt text
is_made text n h lt =
    let plain = h.plain in
    let ended : text ++ framing.crlf ≡ (sections_octets h.sections ++ plain.text) ++ framing.crlf = h.whole ∙ ap (λ (t : List ℕ). sections_octets h.sections ++ t) plain.whole ∙ sym (append_assoc (sections_octets h.sections) plain.text framing.crlf) in
    let same : text ≡ sections_octets h.sections ++ plain.text = append_cancel_right text (sections_octets h.sections ++ plain.text) framing.crlf ended in
    let none : line_mark (plain.text ++ framing.crlf) ≡ None = ap line_mark (sym plain.whole) ∙ no_mark h.last h.ends in
    subst (λ (t : List ℕ). (lines_up_to n).spells tt t) (sym same) (lines_made n h.sections plain.text h.each plain.chars none (subst (λ (t : List ℕ). length t < n) same lt))

lines_lawful : Lawful AtCr lines
unfolding lines_read
lines_lawful = record {
  sound = λ input u rest e. let t = (up_to_lawful (suc (length input))).sound input u rest e in (t.0, lines_are (suc (length input)) u t.0 t.1, t.2);
  complete = λ u text rest h n.
      let enough : length text < suc (length (text ++ rest)) = omega (arith, length-append text rest) in
      (up_to_lawful (suc (length (text ++ rest)))).complete u text rest (is_made text (suc (length (text ++ rest))) h enough) n;
}

-- ---- the arguments

pub any_arguments_lawful : Lawful AtCr any_arguments
any_arguments_lawful =
    flag_then_lawful 32 any_arguments_after
    (then_lawful lines_lawful (λ u. give_lawful _) (λ u. give_follows _))
    (give_lawful _)
    (give_before _ (cr_stops (λ b. eqb b 32) refl))

pub any_arguments_follow : MayFollow (StopsAt is_astring_char) AtCr any_arguments
any_arguments_follow = flag_then_follows 32 any_arguments_after (λ rest. refl) (give_before _ (cr_stops is_astring_char refl))

-- ---- a loop over lines

pub begins : (input : List ℕ) → (lines_up_to (suc (length input))).read input ≡ lines_read input
unfolding lines_read
begins input = refl

unmarked : (found : Option Announced) → None ≡ option_map held_mark found → found ≡ None
unmarked None e = refl
unmarked (Some mark) e = absurd (none-some (held_mark mark) e)

-- one line is read, and what follows it
step : (n : ℕ) (input text rest : List ℕ) → line_rest.read input ≡ Some (text, rest) → (lines_up_to (suc n)).read input ≡ (after_line (lines_up_to n) (line_mark (text ++ framing.crlf))).read rest
unfolding lines_up_to
step n input text rest line = ap (λ (o : Option (List ℕ × List ℕ)). option_and_then (λ found. (after_line (lines_up_to n) (line_mark (found.0 ++ framing.crlf))).read found.1) o) line

unannounced : (n : ℕ) (text rest : List ℕ) → line_mark (text ++ framing.crlf) ≡ None → (after_line (lines_up_to n) (line_mark (text ++ framing.crlf))).read rest ≡ Some (tt, rest)
unannounced n text rest none = ap (λ (o : Option Announced). (after_line (lines_up_to n) o).read rest) none

announced : (n : ℕ) (text rest : List ℕ) (mark : Announced) (read : Option (Unit {0} × List ℕ)) → line_mark (text ++ framing.crlf) ≡ Some mark → (announced_literal mark.size).read rest ≡ read
    → (after_line (lines_up_to n) (line_mark (text ++ framing.crlf))).read rest ≡ option_and_then (λ found. (lines_up_to n).read found.1) read
announced n text rest mark read found literal =
    ap (λ (o : Option Announced). (after_line (lines_up_to n) o).read rest) found ∙ ap (λ (o : Option (Unit {0} × List ℕ)). option_and_then (λ next. (lines_up_to n).read next.1) o) literal

pub ends_here : (n : ℕ) (input text rest : List ℕ) (whole : Option (Unit {0} × List ℕ)) → (lines_up_to (suc n)).read input ≡ whole → line_rest.read input ≡ Some (text, rest)
    → None ≡ option_map held_mark (line_mark (text ++ framing.crlf)) → whole ≡ Some (tt, rest)
ends_here n input text rest whole e line found = sym e ∙ step n input text rest line ∙ unannounced n text rest (unmarked (line_mark (text ++ framing.crlf)) found)

-- a line that announces a literal
marked_step : (n : ℕ) (input text rest : List ℕ) (mark : LiteralMark) (read : Option (Unit {0} × List ℕ)) → line_rest.read input ≡ Some (text, rest)
    → Some mark ≡ option_map held_mark (line_mark (text ++ framing.crlf)) → ((size : ℕ) → mark.size ≡ held_size size → (announced_literal size).read rest ≡ read)
    → (lines_up_to (suc n)).read input ≡ option_and_then (λ found. (lines_up_to n).read found.1) read
marked_step n input text rest mark read line found literal =
    let a = held_mark-of mark (line_mark (text ++ framing.crlf)) found in
    step n input text rest line ∙ announced n text rest a.0 read a.1 (literal a.0.size (ap (λ (x : LiteralMark). x.size) a.2))

pub goes_on : (n m : ℕ) (input text rest after : List ℕ) (mark : LiteralMark) (whole : Option (Unit {0} × List ℕ)) → n ≡ suc m → (lines_up_to (suc n)).read input ≡ whole → line_rest.read input ≡ Some (text, rest)
    → Some mark ≡ option_map held_mark (line_mark (text ++ framing.crlf)) → ((size : ℕ) → mark.size ≡ held_size size → (announced_literal size).read rest ≡ Some (tt, after)) → (lines_up_to (suc m)).read after ≡ whole
goes_on n m input text rest after mark whole left e line found literal =
    ap (λ (k : ℕ). (lines_up_to k).read after) (sym left) ∙ sym (marked_step n input text rest mark (Some (tt, after)) line found literal) ∙ e

refuses : (error : ReadError) (whole read : Option (Unit {0} × List ℕ)) → (read ≡ None → whole ≡ None) → Refuses error read → Refuses error whole
refuses Memory whole read f h = h
refuses Syntax whole read f h = f h

pub refused : (n : ℕ) (input text rest : List ℕ) (mark : LiteralMark) (error : ReadError) (whole : Option (Unit {0} × List ℕ)) → (lines_up_to (suc n)).read input ≡ whole → line_rest.read input ≡ Some (text, rest)
    → Some mark ≡ option_map held_mark (line_mark (text ++ framing.crlf)) → ((size : ℕ) → mark.size ≡ held_size size → Refuses error ((announced_literal size).read rest)) → Refuses error whole
refused n input text rest mark error whole e line found literal =
    let a = held_mark-of mark (line_mark (text ++ framing.crlf)) found in
    let size : mark.size ≡ held_size a.0.size = ap (λ (x : LiteralMark). x.size) a.2 in
    let read = (announced_literal a.0.size).read rest in
    let goes : (lines_up_to (suc n)).read input ≡ option_and_then (λ next. (lines_up_to n).read next.1) read = step n input text rest line ∙ announced n text rest a.0 read a.1 refl in
    refuses error whole read (λ none. sym e ∙ goes ∙ ap (λ (o : Option (Unit {0} × List ℕ)). option_and_then (λ next. (lines_up_to n).read next.1) o) none) (literal a.0.size size)

none_more : (input : List ℕ) → (lines_up_to 0).read input ≡ None
unfolding lines_up_to
none_more input = refl

pub too_many : (n : ℕ) (input text rest after : List ℕ) (mark : LiteralMark) (whole : Option (Unit {0} × List ℕ)) → n ≡ 0 → (lines_up_to (suc n)).read input ≡ whole → line_rest.read input ≡ Some (text, rest)
    → Some mark ≡ option_map held_mark (line_mark (text ++ framing.crlf)) → ((size : ℕ) → mark.size ≡ held_size size → (announced_literal size).read rest ≡ Some (tt, after)) → whole ≡ None
too_many n input text rest after mark whole zero_left e line found literal =
    sym e ∙ marked_step n input text rest mark (Some (tt, after)) line found literal ∙ ap (λ (k : ℕ). (lines_up_to k).read after) zero_left ∙ none_more after
