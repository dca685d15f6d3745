-- What is written comes through a framer as one frame.
use Rattle.std.proofs.Common.{◌≡◌, ℕ, ◌+◌, ◌-◌, ◌<◌, ◌≤◌, ◌^◌, true, not, eqb, List, [], ◌∷◌, ◌++◌, length, map, Some, None, refl, sym, ap, subst, ◌∙◌, append_assoc, arith}
use Rattle.std.specs.Fmt.{decimal as decimal_text}
use Rattle.std.specs.Char.{is_ascii_digit}
use Rattle.std.specs.List.{list_all, AllByRecursion}
use Rattle.std.proofs.lemmas.Bool.Decides.{nat_tests}
use Rattle.std.proofs.lemmas.List.{append-nil}
use Rattle.std.proofs.lemmas.List.Folds.{list_all-append}
use Rattle.std.proofs.lemmas.Option.{none-some}
use Rattle.imap_lex.specs.declared.frame.Frame.{Frame}
use Rattle.imap_lex.specs.declared.frame.Frame.TheVariants.{Whole, Continue}
use Rattle.imap_lex.specs.Mark as mark
use Rattle.imap_lex.specs.Mark.{Announced, IsMarked, IsDigit, with_octets, line_mark}
use Rattle.imap_lex.specs.CommandTag.{is_tag}
use Rattle.imap_lex.specs.Limits.{max_command_octets}
use Rattle.imap_lex.specs.Framing as framing
use Rattle.imap_lex.specs.Framing.{crlf, Framing, awaiting, Outcome, start, run}
use Rattle.imap_lex.specs.Stream as stream
use Rattle.imap_lex.specs.Stream.{HasNoCrlf, IsLine, IsLastLine, Section, IsSection, sections_octets, sections_frames, outside, inside, IsReading, Reading, octets_of}
use Rattle.imap_lex.proofs.Tails.{with_octets-append}
use Rattle.imap_lex.proofs.Marks.{marks_are_found}
use Rattle.imap_lex.proofs.FramesRead.{frames_as_read}
use Rattle.imap_commands.specs.declared.command.Command.{Command}
use Rattle.imap_commands.specs.declared.request.Request.{Request}
use Rattle.imap_commands.specs.declared.request.Request.TheVariants as request
use Rattle.imap_commands.specs.declared.request.Request.TheVariants.{Malformed, TooBig}
use Rattle.imap_syntax.specs.Lexical.{is_astring_char, is_tag_char, decimal_from}
use Rattle.imap_commands.specs.Verb.{verb_name}
use Rattle.imap_commands.specs.Writing.{arguments_fit, arguments_text, request_fits, request_text}
use Rattle.imap_commands.specs.Verb.{verb_of}
use Rattle.imap_commands.specs.WrittenFrames.{Framed, IsToldWhole, EachIsTold}
use Rattle.imap_commands.proofs.Tables.{verb_table}
use Rattle.imap_syntax.proofs.Writing.{both_true, both, consists_all, digits_made, number_value}
use Rattle.imap_commands.proofs.Lines.{is_line}
use Rattle.imap_commands.proofs.WrittenRequests.{written_is}
use Rattle.imap_syntax.proofs.Lined.{Piece, part, literal, is_line_octet, IsPart, IsPiece, pieces_text, IsLined, none_lined, append_lined, octet_lined, consists_lined, is_safe, astring_safe, word_lined, each_weaker}
use Rattle.imap_commands.proofs.LinedCommands.{arguments_lined}

-- ---- lines

no_mark : (octets : List ℕ) → IsPart octets → line_mark (octets ++ crlf) ≡ None
no_mark octets h = ap mark.mark_at (with_octets-append mark.text octets crlf ∙ ap (λ (t : mark.LineTail). with_octets t crlf) h.unmarked)

last_line : (octets : List ℕ) → IsPart octets → IsLastLine (octets ++ crlf)
last_line octets h = record { is_line = is_line octets h.unbroken; unmarked = λ m marked. none-some m (sym (no_mark octets h) ∙ marks_are_found (octets ++ crlf) m marked) }

part_append : (a b : List ℕ) → IsPart a → IsPart b → IsPart (a ++ b)
part_append a b h k = record {
  unbroken = list_all-append is_line_octet a b ∙ both _ _ h.unbroken k.unbroken;
  unmarked = with_octets-append mark.text a b ∙ ap (λ (t : mark.LineTail). with_octets t b) h.unmarked ∙ k.unmarked;
}

none_part : IsPart []
none_part = record { unbroken = refl; unmarked = refl }

-- ---- lines that announce a literal

digit_is : (b : ℕ) → is_ascii_digit b ≡ true → IsDigit b
digit_is b h = (grind (arith, nat_tests), grind (arith, nat_tests))

digits_are : (digits : List ℕ) → list_all is_ascii_digit digits ≡ true → AllByRecursion IsDigit digits
digits_are [] h = tt
digits_are (d ∷ digits) h = let q = both_true (is_ascii_digit d) (list_all is_ascii_digit digits) h in (digit_is d q.0, digits_are digits q.1)

abbrev head_text : List ℕ → List ℕ
head_text digits = 123 ∷ (digits ++ 125 ∷ 13 ∷ 10 ∷ [])

abbrev waiting : ℕ → Announced
waiting n = record { size = n; waits = true }

marked_by : (front digits : List ℕ) (n : ℕ) → list_all is_ascii_digit digits ≡ true → (digits ≡ [] → ⊥) → decimal_from 0 digits ≡ n → IsMarked (front ++ head_text digits) (waiting n)
marked_by front [] n h some e = absurd (some refl)
marked_by front (d ∷ digits) n h some e = record { front = front; digit = d; digits = digits; spelt = refl; each = digits_are (d ∷ digits) h; value = sym e }

digit_in_line : (b : ℕ) → is_ascii_digit b ≡ true → is_line_octet b ≡ true
digit_in_line b h = grind (arith, nat_tests)

head_line : (front digits : List ℕ) → list_all is_line_octet front ≡ true → list_all is_ascii_digit digits ≡ true → IsLine (front ++ head_text digits)
head_line front digits h k =
    let inner = 123 ∷ (digits ++ 125 ∷ []) in
    let numeral : list_all is_line_octet (digits ++ 125 ∷ []) ≡ true = list_all-append is_line_octet digits (125 ∷ []) ∙ both _ _ (each_weaker is_ascii_digit is_line_octet digit_in_line digits k) refl in
    let unbroken : list_all is_line_octet (front ++ inner) ≡ true = list_all-append is_line_octet front inner ∙ both _ _ h numeral in
    let regrouped : (front ++ inner) ++ crlf ≡ front ++ head_text digits = append_assoc front inner crlf ∙ ap (λ (t : List ℕ). front ++ 123 ∷ t) (append_assoc digits (125 ∷ []) crlf) in
    subst IsLine regrouped (is_line (front ++ inner) unbroken)

section_of : (front octets : List ℕ) → Section
section_of front octets = record { line = front ++ head_text (decimal_text (length octets)); mark = waiting (length octets); literal = octets }

is_section : (front octets : List ℕ) → IsPart front → length octets < 2 ^ 64 → IsSection (section_of front octets)
unfolding section_of
is_section front octets h lt =
    let n = length octets in
    let digits = decimal_text n in
    let spelt = digits_made n lt in
    let all : list_all is_ascii_digit digits ≡ true = consists_all is_ascii_digit digits spelt.1 in
    let value : decimal_from 0 digits ≡ n = number_value n lt in
    record { marked = record { is_line = head_line front digits h.unbroken all; marked = marked_by front digits n all spelt.2 value }; short = λ e. absurd cc; size = refl }

-- ---- a text of lines and literals

regroup : (front head octets p c s l : List ℕ) → p ++ c ≡ s ++ l → front ++ (((head ++ octets) ++ p) ++ c) ≡ (((front ++ head) ++ octets) ++ s) ++ l
regroup front head octets p c s l e = simp append_assoc (ap (λ (t : List ℕ). front ++ (head ++ (octets ++ t))) e)

framed : (front : List ℕ) → IsPart front → (ps : List Piece) → AllByRecursion IsPiece ps → Framed (front ++ (pieces_text ps ++ crlf))
unfolding section_of
framed front h [] each = record { sections = []; last = front ++ crlf; each = tt; waits = tt; ends = last_line front h; whole = refl }
framed front h (part octets ∷ ps) each =
    let behind = pieces_text ps in
    let regrouped : (front ++ octets) ++ (behind ++ crlf) ≡ front ++ ((octets ++ behind) ++ crlf) = append_assoc front octets (behind ++ crlf) ∙ ap (λ (t : List ℕ). front ++ t) (sym (append_assoc octets behind crlf)) in
    subst Framed regrouped (framed (front ++ octets) (part_append front octets h each.0) ps each.1)
framed front h (literal octets ∷ ps) each =
    let rest = framed [] none_part ps each.1 in
    record {
      sections = section_of front octets ∷ rest.sections;
      last = rest.last;
      each = (is_section front octets h each.0, rest.each);
      waits = (refl, rest.waits);
      ends = rest.ends;
      whole = regroup front (head_text (decimal_text (length octets))) octets (pieces_text ps) crlf (sections_octets rest.sections) rest.last rest.whole;
    }

framed_lined : (octets : List ℕ) → IsLined octets → Framed (octets ++ crlf)
framed_lined octets h = subst (λ (t : List ℕ). Framed (t ++ crlf)) (sym h.whole) (framed [] none_part h.pieces h.each)

-- ---- what a framer tells of it

all_go_on : (ss : List Section) → AllByRecursion (λ s. s.mark.waits ≡ true) ss → sections_frames ss ≡ map (λ s. Continue) ss
all_go_on [] h = refl
all_go_on (s ∷ ss) h = rw (h.0) (ap (λ (frames : List Frame). Continue ∷ frames) (all_go_on ss h.1))

nothing : HasNoCrlf []
nothing [] back e = cc
nothing (x ∷ front) back e = cc

abbrev outcome : List Frame → Framing → Outcome
outcome frames next = record { frames = frames; next = next }

at_start : (limit : ℕ) → stream.ending_left limit (stream.in_line [] []) ≡ awaiting limit (start limit)
at_start limit =
    let with_room : ℕ → Framing = λ n. awaiting limit (record { octets = []; part = framing.line []; outside = 0; room = n }) in
    let room : limit - 0 ≡ limit = omega arith in
    ap with_room room

told_by : (limit : ℕ) (ss : List Section) (last : List ℕ) → AllByRecursion IsSection ss → AllByRecursion (λ s. s.mark.waits ≡ true) ss → IsLastLine last → outside ss + length last ≤ max_command_octets → inside ss ≤ limit
    → run (awaiting limit (start limit)) (sections_octets ss ++ last) ≡ outcome (map (λ s. Continue) ss ++ Whole (sections_octets ss ++ last) ∷ []) (awaiting limit (start limit))
told_by limit ss last each waits ends few small =
    let octets = sections_octets ss ++ last in
    let reading : Reading = record { items = stream.command ss last ∷ []; ending = stream.in_line [] [] } in
    let begun : stream.IsBegun limit ss (length last) 0 = record { each = each; outside = few; inside = omega arith } in
    let none : stream.IsBegun limit [] 0 0 = record { each = tt; outside = omega arith; inside = omega arith } in
    let is : IsReading limit reading = (((begun, ends), tt), (none, nothing)) in
    let bare : (octets ++ []) ++ [] ≡ octets = append-nil (octets ++ []) ∙ append-nil octets in
    let frames = sections_frames ss ++ Whole octets ∷ [] in
    let told : (frames ++ []) ++ [] ≡ map (λ s. Continue) ss ++ Whole octets ∷ [] = append-nil (frames ++ []) ∙ append-nil frames ∙ ap (λ (f : List Frame). f ++ Whole octets ∷ []) (all_go_on ss waits) in
    ap (run (awaiting limit (start limit))) (sym bare) ∙ frames_as_read limit reading is ∙ ap (λ (f : List Frame). outcome f (stream.ending_left limit (stream.in_line [] []))) told ∙ ap (outcome (map (λ s. Continue) ss ++ Whole octets ∷ [])) (at_start limit)

told_whole : (octets : List ℕ) (f : Framed octets) → IsToldWhole octets f
told_whole octets f limit few small =
    subst (λ (t : List ℕ). run (awaiting limit (start limit)) t ≡ outcome (map (λ s. Continue) f.sections ++ Whole t ∷ []) (awaiting limit (start limit))) (sym f.whole) (told_by limit f.sections f.last f.each f.waits f.ends few small)

-- ---- requests

tag_safe : (b : ℕ) → is_tag_char b ≡ true → is_safe b ≡ true
tag_safe b h = astring_safe b (both_true (is_astring_char b) (not (eqb b 43)) h).0

tag_lined : (tag : List ℕ) → is_tag tag ≡ true → IsLined tag
tag_lined tag h = consists_lined is_tag_char tag_safe tag (both_true _ _ h).1

command_lined : (tag : List ℕ) (b : Command) → is_tag tag ≡ true → arguments_fit b ≡ true → IsLined (tag ++ (32 ∷ (verb_name (verb_of b) ++ arguments_text b)))
command_lined tag b h k =
    let name = verb_name (verb_of b) in
    append_lined tag (32 ∷ (name ++ arguments_text b)) (tag_lined tag h) (octet_lined 32 (name ++ arguments_text b) refl (append_lined name (arguments_text b) (word_lined verb_table astring_safe (verb_of b)) (arguments_lined b k)))

command_framed : (tag : List ℕ) (b : Command) → is_tag tag ≡ true → arguments_fit b ≡ true → Framed (request_text (request.Command tag b))
command_framed tag b h k =
    let name = verb_name (verb_of b) in
    let args = arguments_text b in
    let regrouped : (tag ++ (32 ∷ (name ++ args))) ++ crlf ≡ tag ++ (32 ∷ (name ++ (args ++ crlf))) = append_assoc tag (32 ∷ (name ++ args)) crlf ∙ ap (λ (t : List ℕ). tag ++ 32 ∷ t) (append_assoc name args crlf) in
    subst Framed regrouped (framed_lined (tag ++ (32 ∷ (name ++ args))) (command_lined tag b h k))

request_framed : (r : Request) → request_fits r ≡ true → Framed (request_text r)
request_framed (request.Command tag b) h = let q = both_true (is_tag tag) (arguments_fit b) h in command_framed tag b q.0 q.1
request_framed (Malformed (Some tag)) h = framed_lined tag (tag_lined tag h)
request_framed (Malformed None) h = framed_lined [] none_lined
request_framed (TooBig tag) h = absurd cc

pub each_is_told : EachIsTold
each_is_told r octets e =
    let q = written_is r octets e in
    let f : Framed octets = subst Framed q.1 (request_framed r q.0) in
    (f, told_whole octets)
