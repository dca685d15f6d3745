-- Words that are written in place of others leave lines and their marks.
use Rattle.std.proofs.Common.{◌≡◌, ◌∙◌, ap, sym, refl, ℕ, zero, suc, Bool, true, false, cond, ◌||◌, List, [], ◌∷◌, ◌++◌, append_assoc, append-nil, length, take, arith, Option, Some, None, ◌-◌}
use Rattle.std.specs.Prelude.{codes, ◌==◌, eqb}
use Rattle.std.specs.Char.{is_ascii_alphabetic, is_ascii_digit, to_ascii_lowercase}
use Rattle.std.specs.List.{ends_with, list_all}
use Rattle.std.specs.Option.{option_and_then}
use Rattle.std.specs.Str.{str_to_ascii_lowercase}
use Rattle.std.proofs.lemmas.Bool.Decides.{Decides-eqb, nat_tests}
use Rattle.std.proofs.lemmas.List.Folds.{list_all-append}
use Rattle.std.proofs.lemmas.Slice.Eq.{ends_is}
use Rattle.imap_lex.specs.Mark.{LineTail, text, with_octet, with_octets}
use Rattle.imap_lex.proofs.Tails.{with_octets-append}
use Rattle.imap_print.specs.Lines.{is_plain}
use Rattle.imap_syntax.specs.Rule.{ConsistsOf}
use Rattle.imap_syntax.proofs.Tables.{all_pass, consists_from, either_case_letter}
use Rattle.imap_syntax.proofs.Words.{passes_alike, same_bytes}
use Rattle.imap_syntax.proofs.Writing.{both_true}
use Rattle.imap_rev1_frames.specs.declared.named.Named.{Named}
use Rattle.imap_rev1_frames.specs.declared.named.Named.TheVariants as named
use Rattle.imap_rev1_frames.specs.declared.scan.Scan.{Scan}
use Rattle.imap_rev1_frames.specs.declared.asked.Label.TheVariants as label
use Rattle.imap_rev1_frames.specs.declared.asked.Label.{Label}
use Rattle.imap_rev1_frames.specs.Asked.{section_by, contents_label, envelope_section}
use Rattle.imap_rev1_frames.specs.Named.{begins, is_word}
use Rattle.imap_rev1_frames.specs.Part.{PartWords, after_bracket, is_ended, part_for, part_words, words_in}
use Rattle.imap_rev1_frames.specs.Scan.{by_held, count_held, exchanged, item_for, fetch_item_for, word_for, is_item, written_word, after_word, after_octet, written_from, written}

-- ---- words that begin with a letter

letter_tail : (t : LineTail) (b : ℕ) → is_ascii_alphabetic b ≡ true → with_octet t b ≡ text
letter_tail t b h = grind (arith, nat_tests)

-- a letter, a digit or a dot
abbrev pub is_name_octet : ℕ → Bool
is_name_octet b = is_ascii_alphabetic b || (is_ascii_digit b || b == 46)

either_case_name : (a b : ℕ) → to_ascii_lowercase a ≡ to_ascii_lowercase b → is_name_octet b ≡ true → is_name_octet a ≡ true
either_case_name a b e h = grind (arith, nat_tests)

-- a letter, and then these
abbrev pub is_name : List ℕ → Bool
is_name [] = false
is_name (b ∷ word) = cond (is_ascii_alphabetic b) (all_pass is_name_octet word) false

name_parts : (a b : Bool) → cond a b false ≡ true → (a ≡ true) × (b ≡ true)
name_parts true b h = (refl, h)
name_parts false b h = absurd cc

name_octet_tail : (b : ℕ) → is_name_octet b ≡ true → with_octet text b ≡ text
name_octet_tail b h = grind (arith, nat_tests)

name_octets_tail : (word : List ℕ) → ConsistsOf is_name_octet word → with_octets text word ≡ text
name_octets_tail [] h = refl
name_octets_tail (b ∷ word) h = ap (λ (t : LineTail). with_octets t word) (name_octet_tail b h.0) ∙ name_octets_tail word h.1

name_tail : (t : LineTail) (word octets : List ℕ) → is_name word ≡ true → str_to_ascii_lowercase octets ≡ str_to_ascii_lowercase word → with_octets t octets ≡ text
name_tail t [] octets h e = absurd cc
name_tail t (b ∷ word) [] h e = absurd cc
name_tail t (b ∷ word) (a ∷ octets) h e =
    let parts = name_parts (is_ascii_alphabetic b) (all_pass is_name_octet word) h in
    let first : to_ascii_lowercase a ≡ to_ascii_lowercase b = cc in
    let more : str_to_ascii_lowercase octets ≡ str_to_ascii_lowercase word = cc in
    ap (λ (s : LineTail). with_octets s octets) (letter_tail t a (either_case_letter a b first parts.0))
    ∙ name_octets_tail octets (passes_alike is_name_octet either_case_name octets word more (consists_from is_name_octet word parts.1))

-- what is the word in some case leaves no mark that is begun
pub word_tail : (t : LineTail) (word octets : List ℕ) → is_name word ≡ true → is_word word octets ≡ true → with_octets t octets ≡ text
word_tail t word octets name h = name_tail t word octets name (same_bytes _ _ h)

-- ---- what is written in place of a word

-- the octets leave a line as these do
pub record Alike (octets new : List ℕ) : Type 0 where
  pub tail : (t : LineTail) → with_octets t new ≡ with_octets t octets
  pub plain : list_all is_plain octets ≡ true → list_all is_plain new ≡ true

same_alike : (octets : List ℕ) → Alike octets octets
same_alike octets = record { tail = λ t. refl; plain = λ h. h }

other_alike : (word other octets : List ℕ) → is_name word ≡ true → is_word word octets ≡ true → ((t : LineTail) → with_octets t other ≡ text) → list_all is_plain other ≡ true → Alike octets other
other_alike word other octets name h tail plain = record { tail = λ t. tail t ∙ sym (word_tail t word octets name h); plain = λ _. plain }

exchanged_by : (word other octets : List ℕ) (b : Bool) → is_word word octets ≡ b → is_name word ≡ true → ((t : LineTail) → with_octets t other ≡ text) → list_all is_plain other ≡ true → Alike octets (cond b other octets)
exchanged_by word other octets true h name tail plain = other_alike word other octets name h tail plain
exchanged_by word other octets false h name tail plain = same_alike octets

exchanged_alike : (word other octets : List ℕ) → is_name word ≡ true → ((t : LineTail) → with_octets t other ≡ text) → list_all is_plain other ≡ true → Alike octets (exchanged word other octets)
exchanged_alike word other octets name tail plain = exchanged_by word other octets (is_word word octets) refl name tail plain

key_alike_by : (octets : List ℕ) (new recent old : Bool) → is_word (codes "NEW") octets ≡ new → is_word (codes "RECENT") octets ≡ recent → is_word (codes "OLD") octets ≡ old
    → Alike octets (cond (new || recent) (codes "NOT ALL") (cond old (codes "ALL") octets))
key_alike_by octets true recent old e f g = other_alike (codes "NEW") (codes "NOT ALL") octets refl e (λ t. refl) refl
key_alike_by octets false true old e f g = other_alike (codes "RECENT") (codes "NOT ALL") octets refl f (λ t. refl) refl
key_alike_by octets false false true e f g = other_alike (codes "OLD") (codes "ALL") octets refl g (λ t. refl) refl
key_alike_by octets false false false e f g = same_alike octets

item_alike : (is_item : Bool) (octets : List ℕ) → Alike octets (item_for is_item octets)
item_alike true octets = exchanged_alike (codes "RECENT") (codes "MESSAGES") octets refl (λ t. refl) refl
item_alike false octets = same_alike octets

envelope_tail : (all : Bool) (t : LineTail) → with_octets t (cond all (codes "(FLAGS INTERNALDATE RFC822.SIZE BODY.PEEK[HEADER])") (codes "BODY.PEEK[HEADER]")) ≡ text
envelope_tail true t = refl
envelope_tail false t = refl

envelope_plain : (all : Bool) → list_all is_plain (cond all (codes "(FLAGS INTERNALDATE RFC822.SIZE BODY.PEEK[HEADER])") (codes "BODY.PEEK[HEADER]")) ≡ true
envelope_plain true = refl
envelope_plain false = refl

envelope_alike : (word octets : List ℕ) → is_name word ≡ true → is_word word octets ≡ true → Alike octets (envelope_section octets)
envelope_alike word octets name h = other_alike word (envelope_section octets) octets name h (envelope_tail (is_word (codes "ALL") octets)) (envelope_plain (is_word (codes "ALL") octets))

-- ---- parts

closed_tail : (t : LineTail) → with_octet t 93 ≡ text
closed_tail t = refl

angle_tail : (t : LineTail) → with_octet t 62 ≡ text
angle_tail t = refl

before_octet : (octets : List ℕ) (b : ℕ) → ends_with eqb octets (b ∷ []) ≡ true → (front : List ℕ) × (octets ≡ front ++ b ∷ [])
before_octet octets b e = (take (length octets - 1) octets, (ends_is Decides-eqb octets (b ∷ []) _ refl).0 e)

octet_tail : (t : LineTail) (octets : List ℕ) (b : ℕ) → ((s : LineTail) → with_octet s b ≡ text) → ends_with eqb octets (b ∷ []) ≡ true → with_octets t octets ≡ text
octet_tail t octets b closes e =
    let front = before_octet octets b e in
    ap (with_octets t) front.1 ∙ with_octets-append t front.0 (b ∷ []) ∙ closes (with_octets t front.0)

ended_tail_by : (t : LineTail) (octets : List ℕ) (closed angle : Bool) → ends_with eqb octets (93 ∷ []) ≡ closed → ends_with eqb octets (62 ∷ []) ≡ angle → (closed || angle) ≡ true → with_octets t octets ≡ text
ended_tail_by t octets true angle e f h = octet_tail t octets 93 closed_tail e
ended_tail_by t octets false true e f h = octet_tail t octets 62 angle_tail f
ended_tail_by t octets false false e f h = absurd cc

ended_tail : (t : LineTail) (octets : List ℕ) → is_ended octets ≡ true → with_octets t octets ≡ text
ended_tail t octets h = ended_tail_by t octets _ _ refl refl h

message_alike : (octets : List ℕ) (sets : Bool) → is_ended octets ≡ true → Alike octets (cond sets (codes "BODY[]") (codes "BODY.PEEK[]"))
message_alike octets true h = record { tail = λ t. sym (ended_tail t octets h); plain = λ _. refl }
message_alike octets false h = record { tail = λ t. sym (ended_tail t octets h); plain = λ _. refl }

part_found : (octets : List ℕ) (found : Option PartWords) → is_ended octets ≡ true → Alike octets (part_for found octets)
part_found octets (Some w) h = message_alike octets (begins (codes "BODY[") octets) h
part_found octets None h = same_alike octets

part_by : (octets : List ℕ) (b : Bool) → is_ended octets ≡ b → Alike octets (part_for (cond b (option_and_then words_in (after_bracket octets)) None) octets)
part_by octets true h = part_found octets (option_and_then words_in (after_bracket octets)) h
part_by octets false h = same_alike octets

part_alike : (octets : List ℕ) → Alike octets (part_for (part_words octets) octets)
part_alike octets = part_by octets (is_ended octets) refl

structure_alike_by : (octets : List ℕ) (body structure full : Bool) → is_word (codes "BODY") octets ≡ body → is_word (codes "BODYSTRUCTURE") octets ≡ structure → is_word (codes "FULL") octets ≡ full
    → Alike octets (section_by (cond body (Some label.Body) (cond structure (Some label.Structure) (cond full (Some label.Full) None))) octets)
structure_alike_by octets true structure full e f g = other_alike (codes "BODY") (codes "BODY.PEEK[]") octets refl e (λ t. refl) refl
structure_alike_by octets false true full e f g = other_alike (codes "BODYSTRUCTURE") (codes "BODY.PEEK[]") octets refl f (λ t. refl) refl
structure_alike_by octets false false true e f g = other_alike (codes "FULL") (codes "(FLAGS INTERNALDATE RFC822.SIZE BODY.PEEK[])") octets refl g (λ t. refl) refl
structure_alike_by octets false false false e f g = part_alike octets

abbrev structure_label : List ℕ → Option Label
structure_label octets = cond (is_word (codes "BODY") octets) (Some label.Body) (cond (is_word (codes "BODYSTRUCTURE") octets) (Some label.Structure) (cond (is_word (codes "FULL") octets) (Some label.Full) None))

contents_alike_by : (octets : List ℕ) (envelope all : Bool) → is_word (codes "ENVELOPE") octets ≡ envelope → is_word (codes "ALL") octets ≡ all
    → Alike octets (section_by (cond (envelope || all) (Some label.Envelope) (structure_label octets)) octets)
contents_alike_by octets true all e f = envelope_alike (codes "ENVELOPE") octets refl e
contents_alike_by octets false true e f = envelope_alike (codes "ALL") octets refl f
contents_alike_by octets false false e f = structure_alike_by octets _ _ _ refl refl refl

fetch_alike_by : (octets : List ℕ) (message header body : Bool) → is_word (codes "RFC822") octets ≡ message → is_word (codes "RFC822.HEADER") octets ≡ header → is_word (codes "RFC822.TEXT") octets ≡ body
    → Alike octets (section_by (cond message (Some label.Message) (cond header (Some label.Header) (cond body (Some label.Text) (contents_label octets)))) octets)
fetch_alike_by octets true header body e f g = other_alike (codes "RFC822") (codes "BODY[]") octets refl e (λ t. refl) refl
fetch_alike_by octets false true body e f g = other_alike (codes "RFC822.HEADER") (codes "BODY.PEEK[HEADER]") octets refl f (λ t. refl) refl
fetch_alike_by octets false false true e f g = other_alike (codes "RFC822.TEXT") (codes "BODY[TEXT]") octets refl g (λ t. refl) refl
fetch_alike_by octets false false false e f g = contents_alike_by octets _ _ refl refl

fetch_alike : (is_item : Bool) (octets : List ℕ) → Alike octets (fetch_item_for is_item octets)
fetch_alike true octets = fetch_alike_by octets _ _ _ refl refl refl
fetch_alike false octets = same_alike octets

word_alike : (command : Named) (is_item : Bool) (octets : List ℕ) → Alike octets (word_for command is_item octets)
word_alike named.Check is_item octets = exchanged_alike (codes "CHECK") (codes "NOOP") octets refl (λ t. refl) refl
word_alike named.Lsub is_item octets = exchanged_alike (codes "LSUB") (codes "LIST (SUBSCRIBED)") octets refl (λ t. refl) refl
word_alike named.Search is_item octets = key_alike_by octets _ _ _ refl refl refl
word_alike named.Status is_item octets = item_alike is_item octets
word_alike named.List is_item octets = item_alike is_item octets
word_alike named.Fetch is_item octets = fetch_alike is_item octets
word_alike named.Select is_item octets = same_alike octets
word_alike named.Other is_item octets = same_alike octets

written_alike_by : (b : Bool) (scan : Scan) (octets : List ℕ) → Alike octets (cond b (word_for scan.named (is_item scan) octets) octets)
written_alike_by true scan octets = word_alike scan.named (is_item scan) octets
written_alike_by false scan octets = same_alike octets

pub written_word_alike : (scan : Scan) (octets : List ℕ) → Alike octets (written_word scan octets)
written_word_alike scan octets = written_alike_by (scan.passes == 0) scan octets

-- ---- a text

plain_parts : (octet : ℕ) (octets : List ℕ) → list_all is_plain (octet ∷ octets) ≡ true → (is_plain octet ≡ true) × (list_all is_plain octets ≡ true)
plain_parts octet octets h = both_true (is_plain octet) (list_all is_plain octets) h

plain-append : (a b : List ℕ) → list_all is_plain a ≡ true → list_all is_plain b ≡ true → list_all is_plain (a ++ b) ≡ true
plain-append a b h k = list_all-append is_plain a b ∙ rw (h, k) refl

plain_front : (a b : List ℕ) → list_all is_plain (a ++ b) ≡ true → (list_all is_plain a ≡ true) × (list_all is_plain b ≡ true)
plain_front a b h = both_true (list_all is_plain a) (list_all is_plain b) (sym (list_all-append is_plain a b) ∙ h)

between_alike : (word new octets later : List ℕ) (octet : ℕ) → Alike word new → Alike octets later → Alike (word ++ octet ∷ octets) (new ++ octet ∷ later)
between_alike word new octets later octet h k = record {
  tail = λ t.
      with_octets-append t new (octet ∷ later)
      ∙ ap (λ (s : LineTail). with_octets (with_octet s octet) later) (h.tail t)
      ∙ k.tail (with_octet (with_octets t word) octet)
      ∙ sym (with_octets-append t word (octet ∷ octets));
  plain = λ p.
      let parts = plain_front word (octet ∷ octets) p in
      let rest = plain_parts octet octets parts.1 in
      plain-append new (octet ∷ later) (h.plain parts.0) (rw (rest.0, k.plain rest.1) refl);
}

end_alike : (word new : List ℕ) → Alike word new → Alike (word ++ []) new
end_alike word new h = rw append-nil h

-- the octets of a word and further octets, and what is written in their place
from_alike : (held : ℕ) (scan : Scan) (word octets : List ℕ) → Alike (word ++ octets) (written_from held scan word octets)
from_alike held scan word [] = end_alike word (written_word scan word) (written_word_alike scan word)
from_alike held scan word (octet ∷ octets) = by (count_held held scan word octet (octet ∷ octets)) (λ n. from_alike n scan (word ++ octet ∷ []) octets) (from_alike 0 (after_octet (after_word scan word) octet) [] octets)
  where
    by : (count : ℕ) → ((n : ℕ) → Alike ((word ++ octet ∷ []) ++ octets) (written_from n scan (word ++ octet ∷ []) octets)) → Alike ([] ++ octets) (written_from 0 (after_octet (after_word scan word) octet) [] octets)
        → Alike (word ++ octet ∷ octets) (by_held count (λ n. written_from n scan (word ++ octet ∷ []) octets) (written_word scan word ++ octet ∷ written_from 0 (after_octet (after_word scan word) octet) [] octets))
    by (suc n) h k = let more = h n in rw append_assoc at more
    by zero h k = between_alike word (written_word scan word) octets (written_from 0 (after_octet (after_word scan word) octet) [] octets) octet (written_word_alike scan word) k

pub text_alike : (scan : Scan) (word octets : List ℕ) → Alike (word ++ octets) (written scan word octets)
text_alike scan word octets = from_alike 0 scan word octets
