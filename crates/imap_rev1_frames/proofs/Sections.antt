-- Lines and literals of a command, one after another.
use Rattle.std.proofs.Common.{◌≡◌, ◌∙◌, ap, sym, refl, zero, suc, ℕ, ◌+◌, ◌-◌, ◌<◌, ◌≤◌, List, [], ◌∷◌, ◌++◌, append_assoc, length, length-append, length-drop, take, drop, arith, Option, Some, None}
use Rattle.std.specs.Prelude.{option_map}
use Rattle.std.proofs.lemmas.Option.{same_Some}
use Rattle.imap_lex.specs.LineEnd.{line_length}
use Rattle.imap_lex.specs.Mark.{Announced}
use Rattle.imap_lex.specs.Held.{held_size, held_mark}
use Rattle.imap_lex.specs.Stream.{IsLine}
use Rattle.imap_lex.specs.declared.mark.LiteralMark.{LiteralMark}
use Rattle.imap_lex.proofs.FirstLine.{lines_are_read}
use Rattle.imap_rev1_frames.specs.declared.asked.Asked.{Asked}
use Rattle.imap_rev1_frames.specs.declared.scan.Scan.{Scan}
use Rattle.imap_rev1_frames.specs.Rewritten.{announced, section_length, written_section, line_asked, after_line, written_after, asked_after}

-- what a reader of marks holds of the size
pub held_announced : (o : Option Announced) (mark : LiteralMark) → Some mark ≡ option_map held_mark o → mark.size ≡ held_size (announced o)
held_announced None mark e = absurd cc
held_announced (Some m) mark e = ap (λ (k : LiteralMark). k.size) (same_Some _ _ e)

pub none_announced : (o : Option Announced) → None ≡ option_map held_mark o → 0 ≡ held_size (announced o)
none_announced None e = refl
none_announced (Some m) e = absurd cc

-- ---- octets that are passed over

pub passed_over : (n : ℕ) (scan : Scan) (octets : List ℕ) → written_after n scan octets ≡ written_after 0 scan (drop n octets)
passed_over zero scan octets = refl
passed_over (suc n) scan [] = refl
passed_over (suc n) scan (octet ∷ octets) = passed_over n scan octets

pub asked_passed_over : (n : ℕ) (scan : Scan) (octets : List ℕ) → asked_after n scan octets ≡ asked_after 0 scan (drop n octets)
asked_passed_over zero scan octets = refl
asked_passed_over (suc n) scan [] = refl
asked_passed_over (suc n) scan (octet ∷ octets) = asked_passed_over n scan octets

-- a line has an octet
pub line_some : (octets : List ℕ) (len : ℕ) → line_length octets ≡ Some len → 0 < len
line_some octets zero e =
    let line : IsLine [] = (lines_are_read octets 0 e).1 in
    let lengths : 0 ≡ length line.ends.0 + 2 = ap length line.ends.1 ∙ length-append line.ends.0 _ in
    absurd (omega arith)
line_some octets (suc len) e = omega arith

pub line_within : (octets : List ℕ) (len : ℕ) → line_length octets ≡ Some len → len ≤ length octets
line_within octets len e = (lines_are_read octets len e).0

one_dropped : (n : ℕ) (octet : ℕ) (octets : List ℕ) → 0 < n → drop (n - 1) octets ≡ drop n (octet ∷ octets)
one_dropped zero octet octets some = absurd (omega arith)
one_dropped (suc n) octet octets some = let is : suc n - 1 ≡ n = omega arith in ap (λ (k : ℕ). drop k octets) is

-- ---- a line and its literal

-- by the length of the line
abbrev written_by : Scan → ℕ → List ℕ → Option ℕ → List ℕ
written_by scan octet octets found =
    elim found as (λ _. List ℕ) [
      | None ↦ octet ∷ octets
      | Some len ↦ written_section scan len (octet ∷ octets) ++ written_after (section_length len (octet ∷ octets) - 1) (after_line scan (take len (octet ∷ octets))) octets
    ]

abbrev asked_by : Scan → ℕ → List ℕ → Option ℕ → List Asked
asked_by scan octet octets found =
    elim found as (λ _. List Asked) [
      | None ↦ []
      | Some len ↦ line_asked scan (take len (octet ∷ octets)) ++ asked_after (section_length len (octet ∷ octets) - 1) (after_line scan (take len (octet ∷ octets))) octets
    ]

pub written_next : (scan : Scan) (octets : List ℕ) (len : ℕ) → line_length octets ≡ Some len
    → written_after 0 scan octets ≡ written_section scan len octets ++ written_after 0 (after_line scan (take len octets)) (drop (section_length len octets) octets)
written_next scan [] len e = absurd cc
written_next scan (octet ∷ octets) len e =
    let next = after_line scan (take len (octet ∷ octets)) in
    let count = section_length len (octet ∷ octets) in
    let some : 0 < count = omega (arith, line_some (octet ∷ octets) len e) in
    ap (written_by scan octet octets) e ∙ ap (λ l. written_section scan len (octet ∷ octets) ++ l) (passed_over (count - 1) next octets ∙ ap (written_after 0 next) (one_dropped count octet octets some))

pub asked_next : (scan : Scan) (octets : List ℕ) (len : ℕ) → line_length octets ≡ Some len
    → asked_after 0 scan octets ≡ line_asked scan (take len octets) ++ asked_after 0 (after_line scan (take len octets)) (drop (section_length len octets) octets)
asked_next scan [] len e = absurd cc
asked_next scan (octet ∷ octets) len e =
    let next = after_line scan (take len (octet ∷ octets)) in
    let count = section_length len (octet ∷ octets) in
    let some : 0 < count = omega (arith, line_some (octet ∷ octets) len e) in
    ap (asked_by scan octet octets) e ∙ ap (λ l. line_asked scan (take len (octet ∷ octets)) ++ l) (asked_passed_over (count - 1) next octets ∙ ap (asked_after 0 next) (one_dropped count octet octets some))

pub written_end : (scan : Scan) (octets : List ℕ) → line_length octets ≡ None → written_after 0 scan octets ≡ octets
written_end scan [] e = refl
written_end scan (octet ∷ octets) e = ap (written_by scan octet octets) e

pub asked_end : (scan : Scan) (octets : List ℕ) → line_length octets ≡ None → asked_after 0 scan octets ≡ []
asked_end scan [] e = refl
asked_end scan (octet ∷ octets) e = ap (asked_by scan octet octets) e

-- what was written and what is to come
module _ {A : Type 0} where
  goes_on : (old new whole part left more : List A) → old ++ left ≡ whole → left ≡ part ++ more → new ≡ old ++ part → new ++ more ≡ whole
  goes_on old new whole part left more e f g = ap (λ l. l ++ more) g ∙ append_assoc old part more ∙ ap (λ l. old ++ l) (sym f) ∙ e

module _ (scan next : Scan) (rest later : List ℕ) (len count : ℕ) (is_later : later ≡ drop count rest) (found : line_length rest ≡ Some len) (counted : count ≡ section_length len rest) (moved : next ≡ after_line scan (take len rest)) where
  pub out_more : (old new whole : List ℕ) → new ≡ old ++ written_section scan len rest → old ++ written_after 0 scan rest ≡ whole → new ++ written_after 0 next later ≡ whole
  out_more old new whole e f =
      let more : written_after 0 (after_line scan (take len rest)) (drop (section_length len rest) rest) ≡ written_after 0 next later =
      ap (λ (s : Scan). written_after 0 s (drop (section_length len rest) rest)) (sym moved) ∙ ap (λ (n : ℕ). written_after 0 next (drop n rest)) (sym counted) ∙ ap (written_after 0 next) (sym is_later) in
      goes_on old new whole (written_section scan len rest) (written_after 0 scan rest) _ f (written_next scan rest len found ∙ ap (λ l. written_section scan len rest ++ l) more) e

  pub asked_more : (old new whole : List Asked) → new ≡ old ++ line_asked scan (take len rest) → old ++ asked_after 0 scan rest ≡ whole → new ++ asked_after 0 next later ≡ whole
  asked_more old new whole e f =
      let more : asked_after 0 (after_line scan (take len rest)) (drop (section_length len rest) rest) ≡ asked_after 0 next later =
      ap (λ (s : Scan). asked_after 0 s (drop (section_length len rest) rest)) (sym moved) ∙ ap (λ (n : ℕ). asked_after 0 next (drop n rest)) (sym counted) ∙ ap (asked_after 0 next) (sym is_later) in
      goes_on old new whole (line_asked scan (take len rest)) (asked_after 0 scan rest) _ f (asked_next scan rest len found ∙ ap (λ l. line_asked scan (take len rest) ++ l) more) e

pub shrinks : (rest later : List ℕ) (len count : ℕ) → later ≡ drop count rest → line_length rest ≡ Some len → count ≡ section_length len rest → count ≤ length rest → length later < length rest
shrinks rest later len count is e f within = omega (arith, line_some rest len e, length-drop count rest, ap length is)
