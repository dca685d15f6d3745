-- Whatever spells a command is lines and literals up to its last CRLF.
use Rattle.std.proofs.Common.{◌≡◌, ◌≢◌, ℕ, Bool, true, false, List, [], ◌∷◌, ◌++◌, length, None, refl, sym, ap, subst, ◌∙◌, append_assoc, arith}
use Rattle.std.specs.Char.{is_ascii_digit}
use Rattle.std.specs.List.{list_all, AllByRecursion}
use Rattle.std.proofs.lemmas.Bool.Decides.{nat_tests}
use Rattle.std.proofs.lemmas.List.{append-nil, append_cancel_right}
use Rattle.std.proofs.lemmas.List.Folds.{list_all-append}
use Rattle.imap_lex.specs.Mark as mark
use Rattle.imap_lex.specs.Mark.{Announced, IsMarked, IsDigit, closing, with_octets, line_mark, decimal_from}
use Rattle.imap_lex.specs.Framing.{crlf}
use Rattle.imap_lex.specs.Stream.{IsLine, IsMarkedLine, Section, sections_octets}
use Rattle.imap_lex.proofs.Tails.{with_octets-append}
use Rattle.imap_lex.proofs.Marks.{no_mark}
use Rattle.imap_syntax.specs.Lexical as lexical
use Rattle.imap_syntax.specs.Rule.{Rule, give, ◌>>=◌, flag, ConsistsOf}
use Rattle.imap_syntax.specs.Lexical.{is_tag_char}
use Rattle.imap_syntax.specs.declared.set.Numbering.{Numbering}
use Rattle.imap_syntax.proofs.Writing.{both_true, both, consists_all}
use Rattle.imap_syntax.proofs.Lined.{IsPart, is_line_octet, is_safe, astring_safe, each_weaker}
use Rattle.imap_syntax.proofs.Texts.{Piece, part, literal, IsPiece, head_text, pieces_text, consists_part, Texts, give_texts, when_texts, judged_texts, octet_texts, flag_texts, then_texts, or_texts, some_of_texts, keyword_texts, separated_texts, listed_texts, listed_end_texts, listed_or_none_texts}
use Rattle.imap_syntax.proofs.SyntaxTexts.{space_texts, atom_texts, number_texts, nz_number_texts, head_then_texts, string_texts, astring_texts, seq_set_texts, message_set_texts, message_flag_texts, date_time_end_texts}
use Rattle.imap_query.proofs.QueryTexts.{fetch_items_texts, modifiers_texts, status_item_texts, search_texts}
use Rattle.imap_commands.specs.declared.command.Command.{Command}
use Rattle.imap_commands.specs.declared.command.Command.TheVariants as commands
use Rattle.imap_commands.specs.declared.verb.Verb.{Verb}
use Rattle.imap_commands.specs.declared.verb.Verb.TheVariants as verb
use Rattle.imap_commands.specs.declared.verb.UidVerb.{UidVerb}
use Rattle.imap_commands.specs.declared.verb.UidVerb.TheVariants as uid
use Rattle.imap_commands.specs.declared.commands.select.Parameter.{Parameter}
use Rattle.imap_commands.specs.declared.commands.select.ParameterWord.{ParameterWord}
use Rattle.imap_commands.specs.declared.commands.select.ParameterWord.TheVariants as parameter_word
use Rattle.imap_commands.specs.declared.commands.list.ListReturnWord.{ListReturnWord}
use Rattle.imap_commands.specs.declared.commands.list.ListReturnWord.TheVariants as return_word
use Rattle.imap_commands.specs.commands.Argument.{argument}
use Rattle.imap_commands.specs.commands.Append.{flags_after, date_after, message, append}
use Rattle.imap_commands.specs.commands.Enable.{enable}
use Rattle.imap_commands.specs.commands.List.{selections_after, is_list_char, pattern, patterns_after, list_return_after, list_returns_after, list}
use Rattle.imap_commands.specs.commands.Login.{is_line_char, IsPlainSection, IsLines, any_arguments_after, any_arguments}
use Rattle.imap_commands.specs.commands.Mailboxes.{status}
use Rattle.imap_commands.specs.commands.Messages.{copy, move, store, fetch, uid_arguments}
use Rattle.imap_commands.specs.commands.Select.{known_set, match_end, match_after, known_or_match, known_after, qresync, parameter_after, parameter, another_after, parameters_after, parameters}
use Rattle.imap_commands.specs.commands.Store.{condition_after, store_flags_after, store_spec}
use Rattle.imap_commands.specs.Reading.{arguments, command}
use Rattle.imap_commands.proofs.Tables.{verb_table, uid_verb_table, store_table, condition_table, parameter_table, selection_table, list_return_table, return_table}
use Rattle.imap_commands.specs.OneCommand.{IsAnnounced}
use Rattle.imap_syntax.proofs.Words.{spelt_passes}
use Rattle.imap_commands.proofs.Lines.{is_line}

-- ---- the arguments of commands

argument_texts : Texts argument
argument_texts = then_texts space_texts (λ u. astring_texts)

flags_after_texts : (parenthesis : Bool) → Texts (flags_after parenthesis)
flags_after_texts false = give_texts _
flags_after_texts true = then_texts (listed_end_texts message_flag_texts) (λ flags. then_texts space_texts (λ u. give_texts _))

date_after_texts : (quote : Bool) → Texts (date_after quote)
date_after_texts false = give_texts _
date_after_texts true = then_texts date_time_end_texts (λ d. then_texts space_texts (λ u. give_texts _))

message_texts : Texts message
message_texts = then_texts (flag_texts 126 refl) (λ tilde. head_then_texts _ (λ n a octets h. ap length h.0 ∙ h.1))

append_texts : Texts append
append_texts =
    then_texts argument_texts (λ mailbox. then_texts space_texts (λ u.
    then_texts (then_texts (flag_texts 40 refl) (λ p. flags_after_texts p)) (λ flags.
    then_texts (then_texts (flag_texts 34 refl) (λ q. date_after_texts q)) (λ d.
    then_texts message_texts (λ octets. give_texts _)))))

enable_texts : Texts enable
enable_texts = then_texts space_texts (λ u. then_texts (separated_texts 32 refl atom_texts) (λ words. give_texts _))

list_char_safe : (b : ℕ) → is_list_char b ≡ true → is_safe b ≡ true
list_char_safe b h = grind (arith, nat_tests)

selections_after_texts : (parenthesis : Bool) → Texts (selections_after parenthesis)
selections_after_texts false = give_texts _
selections_after_texts true = then_texts (listed_end_texts (keyword_texts selection_table astring_safe)) (λ all. then_texts space_texts (λ u. when_texts _ _))

pattern_texts : Texts pattern
pattern_texts = or_texts (some_of_texts is_list_char list_char_safe) string_texts

patterns_after_texts : (parenthesis : Bool) → Texts (patterns_after parenthesis)
patterns_after_texts false = then_texts pattern_texts (λ one. give_texts _)
patterns_after_texts true = then_texts (separated_texts 32 refl pattern_texts) (λ all. then_texts (octet_texts 41 refl) (λ u. give_texts _))

return_after_texts : (w : ListReturnWord) → Texts (list_return_after w)
return_after_texts return_word.Children = give_texts _
return_after_texts return_word.Subscribed = give_texts _
return_after_texts return_word.Status = then_texts space_texts (λ u. then_texts (listed_texts status_item_texts) (λ items. give_texts _))

list_returns_after_texts : (more : Bool) → Texts (list_returns_after more)
list_returns_after_texts false = give_texts _
list_returns_after_texts true =
    then_texts (keyword_texts return_table astring_safe) (λ name. then_texts space_texts (λ u.
    then_texts (listed_or_none_texts (then_texts (keyword_texts list_return_table astring_safe) return_after_texts)) (λ all. give_texts _)))

list_texts : Texts list
list_texts =
    then_texts space_texts (λ u.
    then_texts (then_texts (flag_texts 40 refl) (λ p. selections_after_texts p)) (λ selection.
    then_texts astring_texts (λ reference. then_texts space_texts (λ v.
    then_texts (then_texts (flag_texts 40 refl) (λ p. patterns_after_texts p)) (λ wanted.
    then_texts (then_texts (flag_texts 32 refl) (λ m. list_returns_after_texts m)) (λ returns. give_texts _))))))

known_set_texts : Texts known_set
known_set_texts = then_texts seq_set_texts (λ set. when_texts _ _)

match_end_texts : Texts match_end
match_end_texts = then_texts known_set_texts (λ n. then_texts space_texts (λ u. then_texts known_set_texts (λ uids. octet_texts 41 refl)))

match_after_texts : (more : Bool) → Texts (match_after more)
match_after_texts false = give_texts _
match_after_texts true = then_texts (octet_texts 40 refl) (λ u. match_end_texts)

known_or_match_texts : (parenthesis : Bool) → Texts (known_or_match parenthesis)
known_or_match_texts true = then_texts match_end_texts (λ u. give_texts _)
known_or_match_texts false = then_texts known_set_texts (λ uids. then_texts (then_texts (flag_texts 32 refl) (λ m. match_after_texts m)) (λ u. give_texts _))

known_after_texts : (more : Bool) → Texts (known_after more)
known_after_texts false = give_texts _
known_after_texts true = then_texts (flag_texts 40 refl) (λ p. known_or_match_texts p)

qresync_texts : Texts qresync
qresync_texts =
    then_texts space_texts (λ u. then_texts (octet_texts 40 refl) (λ v.
    then_texts (nz_number_texts _) (λ validity. then_texts space_texts (λ w.
    then_texts (number_texts _ _) (λ mod_seq.
    then_texts (then_texts (flag_texts 32 refl) (λ m. known_after_texts m)) (λ known.
    then_texts (octet_texts 41 refl) (λ x. give_texts _)))))))

parameter_after_texts : (w : ParameterWord) → Texts (parameter_after w)
parameter_after_texts parameter_word.Condstore = give_texts _
parameter_after_texts parameter_word.Qresync = then_texts qresync_texts (λ known. give_texts _)

parameter_texts : Texts parameter
parameter_texts = then_texts (keyword_texts parameter_table astring_safe) parameter_after_texts

another_after_texts : (first : Parameter) (more : Bool) → Texts (another_after first more)
another_after_texts first false = give_texts _
another_after_texts first true = then_texts parameter_texts (λ second. judged_texts _)

parameters_after_texts : (more : Bool) → Texts (parameters_after more)
parameters_after_texts false = give_texts _
parameters_after_texts true =
    then_texts (octet_texts 40 refl) (λ u. then_texts parameter_texts (λ first.
    then_texts (then_texts (flag_texts 32 refl) (λ m. another_after_texts first m)) (λ all. then_texts (octet_texts 41 refl) (λ v. give_texts _))))

parameters_texts : Texts parameters
parameters_texts = then_texts (flag_texts 32 refl) (λ m. parameters_after_texts m)

condition_after_texts : (conditional : Bool) → Texts (condition_after conditional)
condition_after_texts false = give_texts _
condition_after_texts true =
    then_texts (keyword_texts condition_table astring_safe) (λ name. then_texts space_texts (λ u. then_texts (number_texts _ _) (λ since.
    then_texts (octet_texts 41 refl) (λ v. then_texts space_texts (λ w. give_texts _)))))

store_flags_after_texts : (parenthesis : Bool) → Texts (store_flags_after parenthesis)
store_flags_after_texts true = listed_end_texts message_flag_texts
store_flags_after_texts false = separated_texts 32 refl message_flag_texts

store_spec_texts : Texts store_spec
store_spec_texts =
    then_texts (then_texts (flag_texts 40 refl) (λ c. condition_after_texts c)) (λ since.
    then_texts (keyword_texts store_table astring_safe) (λ name. then_texts space_texts (λ u.
    then_texts (then_texts (flag_texts 40 refl) (λ p. store_flags_after_texts p)) (λ flags. give_texts _))))

status_texts : Texts status
status_texts = then_texts argument_texts (λ mailbox. then_texts space_texts (λ u. then_texts (listed_texts status_item_texts) (λ items. give_texts _)))

copy_texts : (numbering : Numbering) → Texts (copy numbering)
copy_texts numbering = then_texts space_texts (λ u. then_texts message_set_texts (λ messages. then_texts argument_texts (λ mailbox. give_texts _)))

move_texts : (numbering : Numbering) → Texts (move numbering)
move_texts numbering = then_texts space_texts (λ u. then_texts message_set_texts (λ messages. then_texts argument_texts (λ mailbox. give_texts _)))

store_texts : (numbering : Numbering) → Texts (store numbering)
store_texts numbering = then_texts space_texts (λ u. then_texts message_set_texts (λ messages. then_texts space_texts (λ v. then_texts store_spec_texts (λ spec. give_texts _))))

fetch_texts : (numbering : Numbering) → Texts (fetch numbering)
fetch_texts numbering =
    then_texts space_texts (λ u. then_texts message_set_texts (λ messages. then_texts space_texts (λ v.
    then_texts fetch_items_texts (λ items. then_texts modifiers_texts (λ all. give_texts _)))))

uid_texts : (w : UidVerb) → Texts (uid_arguments w)
uid_texts uid.Copy = copy_texts _
uid_texts uid.Expunge = then_texts space_texts (λ u. then_texts message_set_texts (λ messages. give_texts _))
uid_texts uid.Fetch = fetch_texts _
uid_texts uid.Move = move_texts _
uid_texts uid.Search = search_texts (commands.Search _)
uid_texts uid.Store = store_texts _

one_texts : {A : Type 0} (f : List ℕ → A) → Texts (argument >>= λ a. give (f a))
one_texts f = then_texts argument_texts (λ a. give_texts _)

two_texts : {A : Type 0} (f : List ℕ → List ℕ → A) → Texts (argument >>= λ a. argument >>= λ b. give (f a b))
two_texts f = then_texts argument_texts (λ a. one_texts (f a))

-- ---- what may stand before the last CRLF of a command

-- sections and octets, which CRLF makes a last line
pub record IsFront (text : List ℕ) : Type 0 where
  pub sections : List Section
  pub last : List ℕ
  pub each : AllByRecursion IsAnnounced sections
  pub unbroken : list_all is_line_octet last ≡ true
  pub unmarked : line_mark (last ++ crlf) ≡ None
  pub whole : text ≡ sections_octets sections ++ last

none_front : IsFront []
none_front = record { sections = []; last = []; each = tt; unbroken = refl; unmarked = refl; whole = refl }

-- ---- a part of a line before it

longer : (front line : List ℕ) → list_all is_line_octet front ≡ true → IsLine line → (before back : List ℕ) → front ++ line ≡ before ++ (crlf ++ back) → back ≡ []
longer [] line h k before back e = k.no_earlier before back e
longer (b ∷ front) line h k [] back e =
    let return : b ≡ 13 = cc in
    let passes : is_line_octet 13 ≡ true = subst (λ (x : ℕ). is_line_octet x ≡ true) return (both_true (is_line_octet b) (list_all is_line_octet front) h).0 in
    absurd cc
longer (b ∷ front) line h k (x ∷ before) back e =
    let after : front ++ line ≡ before ++ (crlf ++ back) = cc in
    longer front line (both_true (is_line_octet b) (list_all is_line_octet front) h).1 k before back after

longer_line : (front line : List ℕ) → list_all is_line_octet front ≡ true → IsLine line → IsLine (front ++ line)
longer_line front line h k =
    let ends : front ++ line ≡ (front ++ k.ends.0) ++ crlf = ap (λ (t : List ℕ). front ++ t) k.ends.1 ∙ sym (append_assoc front k.ends.0 crlf) in
    record { ends = (front ++ k.ends.0, ends); no_earlier = longer front line h k }

longer_mark : (front line : List ℕ) (m : Announced) → IsMarked line m → IsMarked (front ++ line) m
longer_mark front line m h =
    let tail = 123 ∷ ((h.digit ∷ h.digits) ++ closing m.waits) in
    record { front = front ++ h.front; digit = h.digit; digits = h.digits; spelt = ap (λ (t : List ℕ). front ++ t) h.spelt ∙ sym (append_assoc front h.front tail); each = h.each; value = h.value }

mark_after : (front line : List ℕ) → with_octets mark.text front ≡ mark.text → line_mark (front ++ line) ≡ line_mark line
mark_after front line h = ap mark.mark_at (with_octets-append mark.text front line ∙ ap (λ (t : mark.LineTail). with_octets t line) h)

part_before : (front text : List ℕ) → IsPart front → (ss : List Section) (last : List ℕ) → AllByRecursion IsAnnounced ss → list_all is_line_octet last ≡ true → line_mark (last ++ crlf) ≡ None → text ≡ sections_octets ss ++ last → IsFront (front ++ text)
part_before front text h [] last each unbroken unmarked whole = record {
  sections = [];
  last = front ++ last;
  each = tt;
  unbroken = list_all-append is_line_octet front last ∙ both _ _ h.unbroken unbroken;
  unmarked = ap line_mark (append_assoc front last crlf) ∙ mark_after front (last ++ crlf) h.unmarked ∙ unmarked;
  whole = ap (λ (t : List ℕ). front ++ t) whole;
}
part_before front text h (s ∷ ss) last each unbroken unmarked whole =
    let first = each.0 in
    let t : Section = record { line = front ++ s.line; mark = s.mark; literal = s.literal } in
    let marked : IsMarkedLine (front ++ s.line) s.mark = record { is_line = longer_line front s.line h.unbroken first.marked.is_line; marked = longer_mark front s.line s.mark first.marked.marked } in
    let announced : IsAnnounced t = record { marked = marked; size = first.size } in
    record {
      sections = t ∷ ss;
      last = last;
      each = (announced, each.1);
      unbroken = unbroken;
      unmarked = unmarked;
      whole = ap (λ (x : List ℕ). front ++ x) whole ∙ simp append_assoc;
    }

front_after : (front text : List ℕ) → IsPart front → IsFront text → IsFront (front ++ text)
front_after front text h f = part_before front text h f.sections f.last f.each f.unbroken f.unmarked f.whole

-- ---- a literal before it

digit_is : (b : ℕ) → is_ascii_digit b ≡ true → IsDigit b
digit_is b h = (grind (arith, nat_tests), grind (arith, nat_tests))

digits_are : (digits : List ℕ) → ConsistsOf is_ascii_digit digits → AllByRecursion IsDigit digits
digits_are [] h = tt
digits_are (d ∷ digits) h = (digit_is d h.0, digits_are digits h.1)

digit_in_line : (b : ℕ) → is_ascii_digit b ≡ true → is_line_octet b ≡ true
digit_in_line b h = grind (arith, nat_tests)

numeral_in_line : (digits : List ℕ) → ConsistsOf is_ascii_digit digits → list_all is_line_octet digits ≡ true
numeral_in_line digits h = each_weaker is_ascii_digit is_line_octet digit_in_line digits (consists_all is_ascii_digit digits h)

ended_line : (digits end : List ℕ) → list_all is_line_octet digits ≡ true → list_all is_line_octet end ≡ true → IsLine (123 ∷ (digits ++ (end ++ crlf)))
ended_line digits end h k =
    let inner : list_all is_line_octet (digits ++ end) ≡ true = list_all-append is_line_octet digits end ∙ both _ _ h k in
    subst IsLine (ap (λ (t : List ℕ). 123 ∷ t) (append_assoc digits end crlf)) (is_line (123 ∷ (digits ++ end)) inner)

head_line : (digits : List ℕ) (waits : Bool) → ConsistsOf is_ascii_digit digits → IsLine (head_text digits waits)
head_line digits true h = ended_line digits (125 ∷ []) (numeral_in_line digits h) refl
head_line digits false h = ended_line digits (43 ∷ 125 ∷ []) (numeral_in_line digits h) refl

head_marked : (digits : List ℕ) (waits : Bool) (n : ℕ) → ConsistsOf is_ascii_digit digits → digits ≢ [] → decimal_from 0 digits ≡ n → IsMarked (head_text digits waits) (record { size = n; waits = waits })
head_marked [] waits n h some e = absurd (some refl)
head_marked (d ∷ digits) waits n h some e = record { front = []; digit = d; digits = digits; spelt = refl; each = digits_are (d ∷ digits) h; value = sym e }

literal_before : (digits : List ℕ) (waits : Bool) (octets text : List ℕ) → ConsistsOf is_ascii_digit digits → digits ≢ [] → decimal_from 0 digits ≡ length octets → IsFront text → IsFront ((head_text digits waits ++ octets) ++ text)
literal_before digits waits octets text h some e f =
    let m : Announced = record { size = length octets; waits = waits } in
    let s : Section = record { line = head_text digits waits; mark = m; literal = octets } in
    let marked : IsMarkedLine (head_text digits waits) m = record { is_line = head_line digits waits h; marked = head_marked digits waits (length octets) h some e } in
    let announced : IsAnnounced s = record { marked = marked; size = refl } in
    record {
      sections = s ∷ f.sections;
      last = f.last;
      each = (announced, f.each);
      unbroken = f.unbroken;
      unmarked = f.unmarked;
      whole = ap (λ (t : List ℕ). (head_text digits waits ++ octets) ++ t) f.whole ∙ sym (append_assoc (head_text digits waits ++ octets) (sections_octets f.sections) f.last);
    }

pieces_front : (ps : List Piece) → AllByRecursion IsPiece ps → IsFront (pieces_text ps)
pieces_front [] each = none_front
pieces_front (part octets ∷ ps) each = front_after octets (pieces_text ps) each.0 (pieces_front ps each.1)
pieces_front (literal digits waits octets ∷ ps) each = literal_before digits waits octets (pieces_text ps) each.0.0 each.0.1 each.0.2 (pieces_front ps each.1)

-- ---- rules

record Fronts {A : Type 0} (p : Rule A) : Type 0 where
  front : (a : A) (text : List ℕ) → p.spells a text → IsFront text

fronts : {A : Type 0} {p : Rule A} → Texts p → Fronts p
fronts law = record { front = λ a text h. let t = law.text a text h in subst IsFront (sym t.whole) (pieces_front t.pieces t.each) }

plain_are : (ss : List Section) → AllByRecursion IsPlainSection ss → AllByRecursion IsAnnounced ss
plain_are [] h = tt
plain_are (s ∷ ss) h = (record { marked = h.0.marked; size = h.0.size }, plain_are ss h.1)

lines_front : (text : List ℕ) → IsLines text → IsFront text
lines_front text h =
    let plain = h.plain in
    let ended : text ++ crlf ≡ (sections_octets h.sections ++ plain.text) ++ crlf = h.whole ∙ ap (λ (t : List ℕ). sections_octets h.sections ++ t) plain.whole ∙ sym (append_assoc (sections_octets h.sections) plain.text crlf) in
    record {
      sections = h.sections;
      last = plain.text;
      each = plain_are h.sections h.each;
      unbroken = consists_all is_line_char plain.text plain.chars;
      unmarked = ap line_mark (sym plain.whole) ∙ no_mark h.last h.ends;
      whole = append_cancel_right text (sections_octets h.sections ++ plain.text) crlf ended;
    }

space_part : IsPart (32 ∷ [])
space_part = record { unbroken = refl; unmarked = refl }

any_after_front : (more : Bool) (c : Command) (text : List ℕ) → (any_arguments_after more).spells c text → IsFront text
any_after_front false c text h = subst IsFront (sym h.1) none_front
any_after_front true c text h = subst IsFront (sym (h.5 ∙ rw (h.4.1) (append-nil h.1))) (lines_front h.1 h.3)

any_front : (more : Bool) (front : List ℕ) (c : Command) (back : List ℕ) → (flag 32).spells more front → (any_arguments_after more).spells c back → IsFront (front ++ back)
any_front true front c back h k = rw h (front_after (32 ∷ []) back space_part (any_after_front true c back k))
any_front false front c back h k = rw h (any_after_front false c back k)

any_fronts : Fronts any_arguments
any_fronts = record { front = λ c text h. subst IsFront (sym h.5) (any_front h.0 h.1 c h.2 h.3 h.4) }

arguments_fronts : (v : Verb) → Fronts (arguments v)
arguments_fronts verb.Append = fronts append_texts
arguments_fronts verb.Authenticate = any_fronts
arguments_fronts verb.Capability = fronts (give_texts _)
arguments_fronts verb.Close = fronts (give_texts _)
arguments_fronts verb.Copy = fronts (copy_texts _)
arguments_fronts verb.Create = fronts (one_texts _)
arguments_fronts verb.Delete = fronts (one_texts _)
arguments_fronts verb.DeleteAcl = fronts (two_texts _)
arguments_fronts verb.Enable = fronts enable_texts
arguments_fronts verb.Examine = fronts (then_texts argument_texts (λ mailbox. then_texts parameters_texts (λ given. give_texts _)))
arguments_fronts verb.Expunge = fronts (give_texts _)
arguments_fronts verb.Fetch = fronts (fetch_texts _)
arguments_fronts verb.GetAcl = fronts (one_texts _)
arguments_fronts verb.Idle = fronts (give_texts _)
arguments_fronts verb.List = fronts list_texts
arguments_fronts verb.ListRights = fronts (two_texts _)
arguments_fronts verb.Login = any_fronts
arguments_fronts verb.Logout = fronts (give_texts _)
arguments_fronts verb.Move = fronts (move_texts _)
arguments_fronts verb.MyRights = fronts (one_texts _)
arguments_fronts verb.Namespace = fronts (give_texts _)
arguments_fronts verb.Noop = fronts (give_texts _)
arguments_fronts verb.Rename = fronts (two_texts _)
arguments_fronts verb.Search = fronts (search_texts (commands.Search _))
arguments_fronts verb.Select = fronts (then_texts argument_texts (λ mailbox. then_texts parameters_texts (λ given. give_texts _)))
arguments_fronts verb.SetAcl = fronts (then_texts argument_texts (λ mailbox. two_texts _))
arguments_fronts verb.StartTls = any_fronts
arguments_fronts verb.Status = fronts status_texts
arguments_fronts verb.Store = fronts (store_texts _)
arguments_fronts verb.Subscribe = fronts (one_texts _)
arguments_fronts verb.Uid = fronts (then_texts space_texts (λ u. then_texts (keyword_texts uid_verb_table astring_safe) uid_texts))
arguments_fronts verb.Unselect = fronts (give_texts _)
arguments_fronts verb.Unsubscribe = fronts (one_texts _)

-- ---- commands

tag_safe : (b : ℕ) → is_tag_char b ≡ true → is_safe b ≡ true
tag_safe b h = grind (arith, nat_tests)

crlf_is : (u : Unit {0}) (octets : List ℕ) → lexical.crlf.spells u octets → octets ≡ crlf
crlf_is u octets h = h.5 ∙ rw (h.3, h.4) refl

-- what stands before the last CRLF
pub command_front : (frame : List ℕ) (c : List ℕ × Command) → command.spells c frame → (front : List ℕ) × IsFront front × (frame ≡ front ++ crlf)
command_front frame c h =
    let given = h.4 in
    let spaced = given.3 in
    let named = spaced.4 in
    let args = named.4 in
    let ended = args.4 in
    let inner = (arguments_fronts named.0).front args.0 args.1 args.3 in
    let name_part : IsPart named.1 = consists_part _ astring_safe named.1 (spelt_passes verb_table named.0 named.1 named.3).0 in
    let tag_part : IsPart h.1 = consists_part is_tag_char tag_safe h.1 h.3.1 in
    let front = h.1 ++ ((32 ∷ []) ++ (named.1 ++ args.1)) in
    let is_front : IsFront front = front_after h.1 _ tag_part (front_after (32 ∷ []) _ space_part (front_after named.1 args.1 name_part inner)) in
    let last : args.2 ≡ crlf = ended.5 ∙ rw (crlf_is ended.0 ended.1 ended.3, ended.4.1) refl in
    let after : given.1 ≡ (32 ∷ []) ++ (named.1 ++ (args.1 ++ crlf)) = spaced.5 ∙ rw (spaced.3, named.5, args.5, last) refl in
    let whole : frame ≡ front ++ crlf = h.5 ∙ rw (given.5, given.4.1, after) (simp append_assoc) in
    (front, is_front, whole)
