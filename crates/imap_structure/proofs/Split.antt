-- The first part of octets, found line by line.
use Rattle.std.proofs.Common.{◌≡◌, ◌∙◌, ap, sym, ℕ, ◌-◌, ◌<◌, true, false, List, [], ◌∷◌, ◌++◌, append_assoc, length, length-append, take, arith}
use Rattle.std.proofs.Math.Seq.{take-append_seam}
use Rattle.imap_text.specs.Found.{IsFirstLine}
use Rattle.imap_text.specs.Lines.{lines}
use Rattle.imap_structure.specs.declared.delimiter.Delimiter.{Delimiter}
use Rattle.imap_structure.specs.declared.delimiter.Delimiter.TheVariants as delimiter
use Rattle.imap_structure.specs.Parts.{IsFirstPart, IsReadUpTo, delimiter_of, parts_by, parts_within, without_end}

pub later_shorter : (rest line later : List ℕ) → IsFirstLine rest line later → length later < length rest
later_shorter rest line later first = omega (arith, first.some, ap length first.whole, length-append line later)

-- the parts by what the next line is
next_line : (boundary octets rest line later : List ℕ) (is : Delimiter) (up : IsReadUpTo boundary octets rest) → IsFirstLine rest line later
    → is ≡ delimiter_of boundary line
    → parts_within boundary (lines octets) [] ≡ parts_by is up.part line (parts_within boundary (lines later))
next_line boundary octets rest line later is up first e =
    up.parts ∙ ap (λ (l : List (List ℕ)). parts_within boundary l up.part) first.lines
    ∙ ap (λ (d : Delimiter). parts_by d up.part line (parts_within boundary (lines later))) (sym e)

pub read_on : (boundary octets rest line later : List ℕ) → IsReadUpTo boundary octets rest → IsFirstLine rest line later
    → delimiter.None ≡ delimiter_of boundary line → IsReadUpTo boundary octets later
read_on boundary octets rest line later up first e = record {
  part = up.part ++ line;
  whole = up.whole ∙ ap (λ (l : List ℕ). up.part ++ l) first.whole ∙ sym (append_assoc up.part line later);
  parts = next_line boundary octets rest line later delimiter.None up first e;
}

part_read : (boundary octets rest : List ℕ) (up : IsReadUpTo boundary octets rest) → take (length octets - length rest) octets ≡ up.part
part_read boundary octets rest up =
    let len : length octets - length rest ≡ length up.part = omega (arith, ap length up.whole, length-append up.part rest) in
    ap (λ (n : ℕ). take n octets) len ∙ ap (take (length up.part)) up.whole ∙ take-append_seam up.part rest

all_shorter : (boundary octets rest line later : List ℕ) → IsReadUpTo boundary octets rest → IsFirstLine rest line later → length later < length octets
all_shorter boundary octets rest line later up first =
    omega (arith, ap length up.whole, length-append up.part rest, later_shorter rest line later first)

pub ends_before_part : (boundary octets rest line later part : List ℕ) → IsReadUpTo boundary octets rest → IsFirstLine rest line later
    → delimiter.Part ≡ delimiter_of boundary line → part ≡ without_end (take (length octets - length rest) octets)
    → IsFirstPart boundary octets part later false
ends_before_part boundary octets rest line later part up first e is = record {
  parts = next_line boundary octets rest line later delimiter.Part up first e
      ∙ ap (λ (l : List ℕ). l ∷ parts_within boundary (lines later) []) (sym (is ∙ ap without_end (part_read boundary octets rest up)));
  shorter = λ _. all_shorter boundary octets rest line later up first;
}

pub ends_at_last : (boundary octets rest line later part : List ℕ) → IsReadUpTo boundary octets rest → IsFirstLine rest line later
    → delimiter.End ≡ delimiter_of boundary line → part ≡ without_end (take (length octets - length rest) octets)
    → IsFirstPart boundary octets part later true
ends_at_last boundary octets rest line later part up first e is = record {
  parts = next_line boundary octets rest line later delimiter.End up first e
      ∙ ap (λ (l : List ℕ). l ∷ []) (sym (is ∙ ap without_end (part_read boundary octets rest up)));
  shorter = λ _. all_shorter boundary octets rest line later up first;
}
