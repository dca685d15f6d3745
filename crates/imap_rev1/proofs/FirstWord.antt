-- The first word of a command, which is its tag, stays.
use Rattle.std.proofs.Common.{◌≡◌, ◌∙◌, ap, sym, refl, ℕ, zero, suc, Bool, true, false, cond, ◌&&◌, eqb, nat_lt, inl, inr, List, [], ◌∷◌, ◌++◌, append_assoc, append-nil, length, take, drop, arith, Option, Some, None}
use Rattle.std.specs.Prelude.{◌⊎◌, if◌then◌else◌}
use Rattle.std.specs.List.{list_all}
use Rattle.std.proofs.lemmas.Bool.Decides.{nat_tests}
use Rattle.std.proofs.lemmas.List.{take-append-drop}
use Rattle.imap_lex.specs.Chars.{is_tag_char}
use Rattle.imap_lex.specs.CommandTag.{tag_of, tag_length, ends_word}
use Rattle.imap_lex.specs.Framing.{crlf}
use Rattle.imap_lex.specs.LineEnd.{line_length}
use Rattle.imap_lex.proofs.FirstLine.{lines_are_read}
use Rattle.imap_print.specs.Lines.{is_plain}
use Rattle.imap_syntax.proofs.Writing.{both_true}
use Rattle.imap_rev1_frames.specs.declared.named.Named.{Named}
use Rattle.imap_rev1_frames.specs.declared.scan.Scan.{Scan}
use Rattle.imap_rev1_frames.specs.Scan.{start, is_outside, is_word_octet, is_in_word, by_held, count_held, written_word, after_word, after_octet, written_from, written}
use Rattle.imap_rev1_frames.specs.Rewritten.{line_text, are_plain, written_line, after_line, literal_length, section_length, written_after}
use Rattle.imap_rev1.proofs.Commands.{take_front, drop_front, text_of}
use Rattle.imap_rev1_frames.proofs.Sections.{written_end, written_next}
use Rattle.imap_rev1_frames.proofs.Steps.{word_written}

-- ---- tags

abbrev tag_by : ℕ → Bool → List ℕ → Option (List ℕ)
tag_by n ends tag = if nat_lt 0 n && ends then Some tag else None

tag_parts : (octets : List ℕ) (n : ℕ) (ends : Bool) (tag : List ℕ) → tag_length octets ≡ n → ends_word (drop n octets) ≡ ends → take n octets ≡ tag → tag_of octets ≡ tag_by n ends tag
tag_parts octets n ends tag is ends_so takes = ap (λ m. tag_by m (ends_word (drop m octets)) (take m octets)) is ∙ (ap (λ b. tag_by n b (take n octets)) ends_so ∙ ap (tag_by n ends) takes)

pub count : (front : List ℕ) (c : ℕ) (x : List ℕ) → list_all is_tag_char front ≡ true → is_tag_char c ≡ false → tag_length (front ++ c ∷ x) ≡ length front
count [] c x h stop = rw stop refl
count (b ∷ front) c x h stop =
    let parts = both_true (is_tag_char b) (list_all is_tag_char front) h in
    rw (parts.0, count front c x parts.1 stop) (omega arith)

-- what follows the octet after the tag makes no difference
same_tag : (front : List ℕ) (c : ℕ) (x y : List ℕ) → list_all is_tag_char front ≡ true → is_tag_char c ≡ false → ends_word (c ∷ x) ≡ ends_word (c ∷ y) → tag_of (front ++ c ∷ x) ≡ tag_of (front ++ c ∷ y)
same_tag front c x y h stop e =
    let n = length front in
    tag_parts (front ++ c ∷ x) n (ends_word (c ∷ y)) front (count front c x h stop) (ap ends_word (drop_front front (c ∷ x) n refl) ∙ e) (take_front front (c ∷ x) n refl)
    ∙ sym (tag_parts (front ++ c ∷ y) n (ends_word (c ∷ y)) front (count front c y h stop) (ap ends_word (drop_front front (c ∷ y) n refl)) (take_front front (c ∷ y) n refl))

-- ---- a text

-- all octets are of a tag, or some stand before one that isn't
record Cut (octets : List ℕ) : Type 0 where
  front : List ℕ
  octet : ℕ
  back : List ℕ
  spelt : octets ≡ front ++ octet ∷ back
  tag : list_all is_tag_char front ≡ true
  other : is_tag_char octet ≡ false

abbrev IsCut : List ℕ → Type 0
IsCut octets = (list_all is_tag_char octets ≡ true) ⊎ Cut octets

cut_more : (b : ℕ) (octets : List ℕ) → is_tag_char b ≡ true → IsCut octets → IsCut (b ∷ octets)
cut_more b octets h (inl all) = inl (rw (h, all) refl)
cut_more b octets h (inr cut) = inr (record { front = b ∷ cut.front; octet = cut.octet; back = cut.back; spelt = ap (λ (l : List ℕ). b ∷ l) cut.spelt; tag = rw (h, cut.tag) refl; other = cut.other })

cut_of : (octets : List ℕ) → IsCut octets
cut_of [] = inl refl
cut_of (b ∷ octets) = by (is_tag_char b) refl (cut_of octets)
  where
    by : (t : Bool) → is_tag_char b ≡ t → IsCut octets → IsCut (b ∷ octets)
    by true h more = cut_more b octets h more
    by false h more = inr (record { front = []; octet = b; back = octets; spelt = refl; tag = refl; other = h })

-- ---- the first word

pub tag_in_word : (b : ℕ) → is_tag_char b ≡ true → is_word_octet b ≡ true
tag_in_word b h = grind (arith, nat_tests)

-- the first word is to stay
abbrev IsFirst : Scan → Type 0
IsFirst scan = (scan.passes ≡ 1) × (is_outside scan.quoting ≡ true)

word_stays : (scan : Scan) (word : List ℕ) → IsFirst scan → written_word scan word ≡ word
word_stays scan word is = rw is.0 refl

in_word : (scan : Scan) (b : ℕ) (t : Bool) → IsFirst scan → is_word_octet b ≡ t → is_in_word scan b ≡ t
in_word scan b t is h = rw (is.1, h) refl

-- a tag is of the first word
pub tag_stays : (scan : Scan) (word tag octets : List ℕ) → IsFirst scan → list_all is_tag_char tag ≡ true → written scan word (tag ++ octets) ≡ written scan (word ++ tag) octets
tag_stays scan word [] octets is h = ap (λ (w : List ℕ). written scan w octets) (sym (append-nil word))
tag_stays scan word (b ∷ tag) octets is h =
    let parts = both_true (is_tag_char b) (list_all is_tag_char tag) h in
    let inside : is_in_word scan b ≡ true = in_word scan b true is (tag_in_word b parts.0) in
    word_written scan word b (tag ++ octets) inside ∙ tag_stays scan (word ++ b ∷ []) tag octets is parts.1 ∙ ap (λ (w : List ℕ). written scan w octets) (append_assoc word (b ∷ []) tag)

-- the first word is written as it is
record Begins (word new : List ℕ) : Type 0 where
  rest : List ℕ
  spelt : new ≡ word ++ rest

begins_by : (count : ℕ) (scan : Scan) (word : List ℕ) (b : ℕ) (later : List ℕ) → IsFirst scan → ((n : ℕ) → Begins (word ++ b ∷ []) (written_from n scan (word ++ b ∷ []) later))
    → Begins (word ++ b ∷ []) (by_held count (λ n. written_from n scan (word ++ b ∷ []) later) (written_word scan word ++ b ∷ written_from 0 (after_octet (after_word scan word) b) [] later))
begins_by (suc n) scan word b later is more = more n
begins_by zero scan word b later is more = record {
  rest = written_from 0 (after_octet (after_word scan word) b) [] later;
  spelt = ap (λ (w : List ℕ). w ++ b ∷ written_from 0 (after_octet (after_word scan word) b) [] later) (word_stays scan word is) ∙ sym (append_assoc word (b ∷ []) (written_from 0 (after_octet (after_word scan word) b) [] later));
}

begins_word : (held : ℕ) (scan : Scan) (word octets : List ℕ) → IsFirst scan → Begins word (written_from held scan word octets)
begins_word held scan word [] is = record { rest = []; spelt = word_stays scan word is ∙ sym (append-nil word) }
begins_word held scan word (b ∷ octets) is =
    let more = begins_by (count_held held scan word b (b ∷ octets)) scan word b octets is (λ n. begins_word n scan (word ++ b ∷ []) octets is) in
    record { rest = b ∷ more.rest; spelt = more.spelt ∙ append_assoc word (b ∷ []) more.rest }

-- and the octet after it
after_first : (scan : Scan) (word : List ℕ) (b : ℕ) (octets : List ℕ) → IsFirst scan → Begins (word ++ b ∷ []) (written scan word (b ∷ octets))
after_first scan word b octets is = begins_by (count_held 0 scan word b (b ∷ octets)) scan word b octets is (λ n. begins_word n scan (word ++ b ∷ []) octets is)

-- ---- a line

plain_ends : (c : ℕ) (x y : List ℕ) → is_plain c ≡ true → ends_word (c ∷ x) ≡ ends_word (c ∷ y)
plain_ends c x y h = let no : eqb 13 c ≡ false = grind (arith, nat_tests) in rw no refl

line_ends : (c : ℕ) (x a b : List ℕ) → ends_word (c ∷ ((x ++ crlf) ++ a)) ≡ ends_word (c ∷ ((x ++ crlf) ++ b))
line_ends c [] a b = refl
line_ends c (d ∷ x) a b = refl

middle : (front x y : List ℕ) (c : ℕ) → ((front ++ c ∷ x) ++ y) ≡ front ++ c ∷ (x ++ y)
middle front x y c = append_assoc front (c ∷ x) y

-- the line stays, whatever follows
same_line : (octets a b : List ℕ) → tag_of ((octets ++ crlf) ++ a) ≡ tag_of ((octets ++ crlf) ++ b)
same_line octets a b = elim (cut_of octets) as (λ _. tag_of ((octets ++ crlf) ++ a) ≡ tag_of ((octets ++ crlf) ++ b)) [
  | inl all ↦ ap tag_of (append_assoc octets crlf a) ∙ same_tag octets 13 (10 ∷ a) (10 ∷ b) all refl refl ∙ ap tag_of (sym (append_assoc octets crlf b))
  | inr cut ↦
      let spelt : (l : List ℕ) → (octets ++ crlf) ++ l ≡ cut.front ++ cut.octet ∷ ((cut.back ++ crlf) ++ l) =
      λ l. ap (λ (o : List ℕ). (o ++ crlf) ++ l) cut.spelt ∙ ap (λ (o : List ℕ). o ++ l) (middle cut.front cut.back crlf cut.octet) ∙ middle cut.front (cut.back ++ crlf) l cut.octet in
      ap tag_of (spelt a) ∙ same_tag cut.front cut.octet _ _ cut.tag cut.other (line_ends cut.octet cut.back a b) ∙ ap tag_of (sym (spelt b))
]

all_written : (scan : Scan) (octets : List ℕ) → IsFirst scan → list_all is_tag_char octets ≡ true → written scan [] octets ≡ octets
all_written scan octets is all =
    ap (written scan []) (sym (append-nil octets)) ∙ tag_stays scan [] octets [] is all ∙ word_stays scan octets is

plain_at : (front back : List ℕ) (c : ℕ) → list_all is_plain (front ++ c ∷ back) ≡ true → is_plain c ≡ true
plain_at [] back c h = (both_true (is_plain c) (list_all is_plain back) h).0
plain_at (b ∷ front) back c h = plain_at front back c (both_true (is_plain b) (list_all is_plain (front ++ c ∷ back)) h).1

-- a plain text is written with the same tag, whatever follows
plain_tag : (scan : Scan) (octets a b : List ℕ) → IsFirst scan → list_all is_plain octets ≡ true → tag_of ((written scan [] octets ++ crlf) ++ a) ≡ tag_of ((octets ++ crlf) ++ b)
plain_tag scan octets a b is plain = elim (cut_of octets) as (λ _. tag_of ((written scan [] octets ++ crlf) ++ a) ≡ tag_of ((octets ++ crlf) ++ b)) [
  | inl all ↦ ap (λ (o : List ℕ). tag_of ((o ++ crlf) ++ a)) (all_written scan octets is all) ∙ same_line octets a b
  | inr cut ↦
      let begun = after_first scan cut.front cut.octet cut.back is in
      let new : written scan [] octets ≡ cut.front ++ cut.octet ∷ begun.rest =
      ap (written scan []) cut.spelt ∙ tag_stays scan [] cut.front (cut.octet ∷ cut.back) is cut.tag ∙ begun.spelt ∙ append_assoc cut.front (cut.octet ∷ []) begun.rest in
      let spelt : (o back l : List ℕ) → o ≡ cut.front ++ cut.octet ∷ back → (o ++ crlf) ++ l ≡ cut.front ++ cut.octet ∷ ((back ++ crlf) ++ l) =
      λ o back l e. ap (λ (p : List ℕ). (p ++ crlf) ++ l) e ∙ ap (λ (p : List ℕ). p ++ l) (middle cut.front back crlf cut.octet) ∙ middle cut.front (back ++ crlf) l cut.octet in
      let is_plain_here : is_plain cut.octet ≡ true = plain_at cut.front cut.back cut.octet (ap (list_all is_plain) (sym cut.spelt) ∙ plain) in
      ap tag_of (spelt (written scan [] octets) begun.rest a new)
      ∙ same_tag cut.front cut.octet ((begun.rest ++ crlf) ++ a) ((cut.back ++ crlf) ++ b) cut.tag cut.other (plain_ends cut.octet ((begun.rest ++ crlf) ++ a) ((cut.back ++ crlf) ++ b) is_plain_here)
      ∙ ap tag_of (sym (spelt octets cut.back b cut.spelt))
]

line_tag : (scan : Scan) (octets a b : List ℕ) (t : Bool) → IsFirst scan → list_all is_plain octets ≡ t → tag_of (cond t (written scan [] octets ++ crlf) (octets ++ crlf) ++ a) ≡ tag_of ((octets ++ crlf) ++ b)
line_tag scan octets a b true is plain = plain_tag scan octets a b is plain
line_tag scan octets a b false is plain = same_line octets a b

-- ---- a command

first_by : (scan : Scan) (octets : List ℕ) (found : Option ℕ) → line_length octets ≡ found → IsFirst scan → tag_of (written_after 0 scan octets) ≡ tag_of octets
first_by scan [] found e is = refl
first_by scan (b ∷ octets) None e is = ap tag_of (written_end scan (b ∷ octets) e)
first_by scan (b ∷ octets) (Some len) e is =
    let all = b ∷ octets in
    let line = take len all in
    let text = line_text line in
    let literal = take (literal_length line (drop len all)) (drop len all) in
    let more = written_after 0 (after_line scan line) (drop (section_length len all) all) in
    let is_line : line ≡ text ++ crlf = text_of line (lines_are_read all len e).1 in
    let same_all : (text ++ crlf) ++ drop len all ≡ all = ap (λ (l : List ℕ). l ++ drop len all) (sym is_line) ∙ take-append-drop len all in
    let new_line : written_line scan line ≡ cond (are_plain text) (written scan [] text ++ crlf) (text ++ crlf) = ap (cond (are_plain text) (written scan [] text ++ crlf)) is_line in
    ap tag_of (written_next scan all len e ∙ append_assoc (written_line scan line) literal more ∙ ap (λ (l : List ℕ). l ++ (literal ++ more)) new_line)
    ∙ line_tag scan text (literal ++ more) (drop len all) (are_plain text) is refl
    ∙ ap tag_of same_all

pub tag_kept : (command : Named) (octets : List ℕ) → tag_of (written_after 0 (start command) octets) ≡ tag_of octets
tag_kept command octets = first_by (start command) octets (line_length octets) refl (refl, refl)
