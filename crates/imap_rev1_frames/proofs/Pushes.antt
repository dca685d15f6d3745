-- Octets that are written one after another.
use Rattle.std.proofs.Common.{◌≡◌, ◌∙◌, ap, sym, refl, subst, ℕ, ◌-◌, ◌<◌, ◌≤◌, suc, Bool, true, cond, List, [], ◌∷◌, ◌++◌, append_assoc, drop, arith}
use Rattle.imap_rev1_frames.specs.declared.asked.Asked.{Asked}
use Rattle.imap_rev1_frames.specs.declared.scan.Scan.{Scan}
use Rattle.imap_rev1_frames.specs.declared.writing.Writing.{Writing}
use Rattle.imap_lex.specs.Framing.{crlf}
use Rattle.imap_rev1_frames.specs.Rewritten.{are_plain, line_text, written_line, line_asked, after_line}
use Rattle.imap_rev1_frames.specs.Scan.{by_held, count_held, next_line, written_word, word_asked, option_list, after_word, after_octet, written_from, asked_from, left_from, written, asked, left}
use Rattle.imap_rev1_frames.specs.Writing.{GoesOn}

-- ---- one octet

module _ (held : ℕ) (scan : Scan) (word : List ℕ) (octet : ℕ) (later : List ℕ) where
  -- the octet belongs to the word, and a number of octets after it do in any case
  module _ (n : ℕ) (e : count_held held scan word octet (octet ∷ later) ≡ suc n) where
    pub held_written : written_from held scan word (octet ∷ later) ≡ written_from n scan (word ++ octet ∷ []) later
    held_written = ap (λ (k : ℕ). by_held k (λ m. written_from m scan (word ++ octet ∷ []) later) (written_word scan word ++ octet ∷ written_from 0 (after_octet (after_word scan word) octet) [] later)) e

    pub held_asked : asked_from held scan word (octet ∷ later) ≡ asked_from n scan (word ++ octet ∷ []) later
    held_asked = ap (λ (k : ℕ). by_held k (λ m. asked_from m scan (word ++ octet ∷ []) later) (option_list (word_asked scan word) ++ asked_from 0 (after_octet (after_word scan word) octet) [] later)) e

    pub held_left : left_from held scan word (octet ∷ later) ≡ left_from n scan (word ++ octet ∷ []) later
    held_left = ap (λ (k : ℕ). by_held k (λ m. left_from m scan (word ++ octet ∷ []) later) (left_from 0 (after_octet (after_word scan word) octet) [] later)) e

  -- the word ends before the octet
  module _ (e : count_held held scan word octet (octet ∷ later) ≡ 0) where
    pub ended_written : written_from held scan word (octet ∷ later) ≡ written_word scan word ++ octet ∷ written_from 0 (after_octet (after_word scan word) octet) [] later
    ended_written = ap (λ (k : ℕ). by_held k (λ m. written_from m scan (word ++ octet ∷ []) later) (written_word scan word ++ octet ∷ written_from 0 (after_octet (after_word scan word) octet) [] later)) e

    pub ended_asked : asked_from held scan word (octet ∷ later) ≡ option_list (word_asked scan word) ++ asked_from 0 (after_octet (after_word scan word) octet) [] later
    ended_asked = ap (λ (k : ℕ). by_held k (λ m. asked_from m scan (word ++ octet ∷ []) later) (option_list (word_asked scan word) ++ asked_from 0 (after_octet (after_word scan word) octet) [] later)) e

    pub ended_left : left_from held scan word (octet ∷ later) ≡ left_from 0 (after_octet (after_word scan word) octet) [] later
    ended_left = ap (λ (k : ℕ). by_held k (λ m. left_from m scan (word ++ octet ∷ []) later) (left_from 0 (after_octet (after_word scan word) octet) [] later)) e

-- an octet of a word
goes_on_word : (octet n : ℕ) (later : List ℕ) (old new : Writing) → count_held old.held old.scan old.word.items octet (octet ∷ later) ≡ suc n
    → new.held ≡ n → new.scan ≡ old.scan → new.word.items ≡ old.word.items ++ octet ∷ [] → new.out.items ≡ old.out.items → new.asked.items ≡ old.asked.items
    → GoesOn (octet ∷ later) later old new
goes_on_word octet n later old new counted held scan word out marks = record {
  out = rw (held, scan, word, out) (ap (λ l. old.out.items ++ l) (sym (held_written old.held old.scan old.word.items octet later n counted)));
  asked = rw (held, scan, word, marks) (ap (λ l. old.asked.items ++ l) (sym (held_asked old.held old.scan old.word.items octet later n counted)));
  scan = rw (held, scan, word) (sym (held_left old.held old.scan old.word.items octet later n counted));
}

-- an octet between words
goes_on_between : (octet : ℕ) (later : List ℕ) (old new : Writing) → count_held old.held old.scan old.word.items octet (octet ∷ later) ≡ 0
    → new.held ≡ 0 → new.scan ≡ after_octet (after_word old.scan old.word.items) octet → new.word.items ≡ []
    → new.out.items ≡ (old.out.items ++ written_word old.scan old.word.items) ++ octet ∷ []
    → new.asked.items ≡ old.asked.items ++ option_list (word_asked old.scan old.word.items)
    → GoesOn (octet ∷ later) later old new
goes_on_between octet later old new counted held scan word out marks =
    let next = after_octet (after_word old.scan old.word.items) octet in
    let front = written_word old.scan old.word.items in
    record {
      out = rw (held, scan, word, out)
          (append_assoc (old.out.items ++ front) (octet ∷ []) (written_from 0 next [] later) ∙ append_assoc old.out.items front (octet ∷ written_from 0 next [] later)
          ∙ ap (λ l. old.out.items ++ l) (sym (ended_written old.held old.scan old.word.items octet later counted)));
      asked = rw (held, scan, word, marks)
          (append_assoc old.asked.items (option_list (word_asked old.scan old.word.items)) (asked_from 0 next [] later)
          ∙ ap (λ l. old.asked.items ++ l) (sym (ended_asked old.held old.scan old.word.items octet later counted)));
      scan = rw (held, scan, word) (sym (ended_left old.held old.scan old.word.items octet later counted));
    }

at_front : (octet : ℕ) (octets : List ℕ) (old new : Writing) → octets ≡ octet ∷ drop 1 octets → GoesOn (octet ∷ drop 1 octets) (drop 1 octets) old new → GoesOn octets (drop 1 octets) old new
at_front octet octets old new is h = subst (λ (l : List ℕ). GoesOn l (drop 1 octets) old new) (sym is) h

none_of : (n : ℕ) → n ≤ 0 → n ≡ 0
none_of n h = omega (arith, h)

module _ (octet count : ℕ) (octets : List ℕ) (old new : Writing) (is : octets ≡ octet ∷ drop 1 octets) (counted : count ≡ count_held old.held old.scan old.word.items octet octets) where
  counted_here : count_held old.held old.scan old.word.items octet (octet ∷ drop 1 octets) ≡ count
  counted_here = ap (count_held old.held old.scan old.word.items octet) (sym is) ∙ sym counted

  pub pushed_word : 0 < count → new.held ≡ count - 1 → new.scan ≡ old.scan → new.word.items ≡ old.word.items ++ octet ∷ [] → new.out.items ≡ old.out.items → new.asked.items ≡ old.asked.items → GoesOn octets (drop 1 octets) old new
  pushed_word some held scan word out marks =
      at_front octet octets old new is (goes_on_word octet (count - 1) (drop 1 octets) old new (counted_here ∙ omega (arith, some)) held scan word out marks)

  pub pushed_between : count ≤ 0 → new.held ≡ 0 → new.scan ≡ after_octet (after_word old.scan old.word.items) octet → new.word.items ≡ [] → new.out.items ≡ (old.out.items ++ written_word old.scan old.word.items) ++ octet ∷ [] → new.asked.items ≡ old.asked.items ++ option_list (word_asked old.scan old.word.items) → GoesOn octets (drop 1 octets) old new
  pushed_between none held scan word out marks =
      at_front octet octets old new is (goes_on_between octet (drop 1 octets) old new (counted_here ∙ none_of count none) held scan word out marks)

-- ---- octets one after another

pub goes_on_start : (text : List ℕ) (writing : Writing) → GoesOn text text writing writing
goes_on_start text writing = record { out = refl; asked = refl; scan = refl }

pub goes_on_more : (text rest later : List ℕ) (octet : ℕ) (first old new : Writing) → rest ≡ octet ∷ later → GoesOn text rest first old → GoesOn rest (drop 1 rest) old new → GoesOn text later first new
goes_on_more text rest later octet first old new is h k =
    let next : drop 1 rest ≡ later = ap (drop 1) is in
    subst (λ (l : List ℕ). GoesOn text l first new) next (record { out = k.out ∙ h.out; asked = k.asked ∙ h.asked; scan = k.scan ∙ h.scan })

pub at_first : (octet : ℕ) (rest later : List ℕ) → rest ≡ octet ∷ later → rest ≡ octet ∷ drop 1 rest
at_first octet rest later is = is ∙ ap (λ (l : List ℕ). octet ∷ drop 1 l) (sym is)

-- the whole text
pub goes_on_end : (text rest : List ℕ) (first new : Writing) → GoesOn text rest first new → rest ≡ [] → GoesOn text [] first new
goes_on_end text rest first new h is = subst (λ (l : List ℕ). GoesOn text l first new) is h

-- ---- a word that ends, and a line

all_out : (text : List ℕ) (old new : Writing) → GoesOn text [] old new → old.held ≡ 0 → new.out.items ++ written_word new.scan new.word.items ≡ old.out.items ++ written old.scan old.word.items text
all_out text old new h none = h.out ∙ ap (λ (k : ℕ). old.out.items ++ written_from k old.scan old.word.items text) none

all_marks : (text : List ℕ) (old new : Writing) → GoesOn text [] old new → old.held ≡ 0 → new.asked.items ++ option_list (word_asked new.scan new.word.items) ≡ old.asked.items ++ asked old.scan old.word.items text
all_marks text old new h none = h.asked ∙ ap (λ (k : ℕ). old.asked.items ++ asked_from k old.scan old.word.items text) none

all_scan : (text : List ℕ) (old new : Writing) → GoesOn text [] old new → old.held ≡ 0 → after_word new.scan new.word.items ≡ left old.scan old.word.items text
all_scan text old new h none = h.scan ∙ ap (λ (k : ℕ). left_from k old.scan old.word.items text) none

-- a plain line, from the front
module _ (line octets : List ℕ) (old mid : Writing) (is : octets ≡ line_text line) (empty : old.word.items ≡ []) (none : old.held ≡ 0) (plain : are_plain octets ≡ true) (goes : GoesOn octets [] old mid) where
  pub line_out : (ended new : List ℕ) → ended ≡ mid.out.items ++ written_word mid.scan mid.word.items → new ≡ ended ++ crlf → new ≡ old.out.items ++ written_line old.scan line
  line_out ended new e f =
      let whole : ended ≡ old.out.items ++ written old.scan [] octets = e ∙ all_out octets old mid goes none ∙ ap (λ w. old.out.items ++ written old.scan w octets) empty in
      f ∙ ap (λ l. l ++ crlf) whole ∙ append_assoc old.out.items (written old.scan [] octets) crlf
      ∙ ap (λ (b : Bool). old.out.items ++ cond b (written old.scan [] octets ++ crlf) line) (sym plain)
      ∙ ap (λ (t : List ℕ). old.out.items ++ cond (are_plain t) (written old.scan [] t ++ crlf) line) is

  pub line_marks : (new : List Asked) → new ≡ mid.asked.items ++ option_list (word_asked mid.scan mid.word.items) → new ≡ old.asked.items ++ line_asked old.scan line
  line_marks new e =
      e ∙ all_marks octets old mid goes none ∙ ap (λ w. old.asked.items ++ asked old.scan w octets) empty
      ∙ ap (λ (b : Bool). old.asked.items ++ cond b (asked old.scan [] octets) []) (sym plain)
      ∙ ap (λ (t : List ℕ). old.asked.items ++ cond (are_plain t) (asked old.scan [] t) []) is

  pub line_scan : (ended new : Scan) → ended ≡ after_word mid.scan mid.word.items → new ≡ next_line ended → new ≡ after_line old.scan line
  line_scan ended new e f =
      f ∙ ap next_line (e ∙ all_scan octets old mid goes none ∙ ap (λ w. left old.scan w octets) empty)
      ∙ ap (λ (b : Bool). cond b (next_line (left old.scan [] octets)) old.scan) (sym plain)
      ∙ ap (λ (t : List ℕ). cond (are_plain t) (next_line (left old.scan [] t)) old.scan) is
