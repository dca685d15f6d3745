-- Header fields are not longer than their message.
use Rattle.std.proofs.Common.{◌≡◌, ap, refl, ℕ, ◌+◌, ◌≤◌, Bool, true, false, cond, List, [], ◌∷◌, ◌++◌, length, length-append, arith}
use Rattle.std.specs.Prelude.{filter, take_while}
use Rattle.std.specs.List.{concat, flat_map}
use Rattle.std.proofs.lemmas.List.Folds.{concat-append}
use Rattle.std.proofs.lemmas.List.Sums.{take_while-cons}
use Rattle.imap_text.specs.Sections.{sections}
use Rattle.imap_text.specs.Fields.{is_continuation, HeaderField, fields_among, fields_of, header_fields, field_lines, is_chosen, fields}
use Rattle.imap_text.proofs.Cuts.{header_within}

-- ---- the lines of fields

lines_among : (all : List (List ℕ)) → take_while is_continuation all ++ flat_map field_lines (fields_among all) ≡ all
lines_among [] = refl
lines_among (line ∷ later) = by (is_continuation line) refl (lines_among later)
  where
    by : (goes_on : Bool) → is_continuation line ≡ goes_on → take_while is_continuation later ++ flat_map field_lines (fields_among later) ≡ later
        → take_while is_continuation (line ∷ later) ++ flat_map field_lines (fields_among (line ∷ later)) ≡ line ∷ later
    by true e ih = rw (take_while-cons is_continuation line later, e) (ap (λ (l : List (List ℕ)). line ∷ l) ih)
    by false e ih = rw (take_while-cons is_continuation line later, e) (ap (λ (l : List (List ℕ)). line ∷ l) ih)

lines_of : (all : List (List ℕ)) → flat_map field_lines (fields_of all) ≡ all
lines_of [] = refl
lines_of (line ∷ later) = ap (λ (l : List (List ℕ)). line ∷ l) (lines_among later)

-- ---- fields that are chosen

abbrev field_octets : List HeaderField → List ℕ
field_octets fs = concat (flat_map field_lines fs)

more_octets : (f : HeaderField) (fs : List HeaderField) → length (field_octets (f ∷ fs)) ≡ length (concat (field_lines f)) + length (field_octets fs)
more_octets f fs =
    omega (arith, ap length (concat-append (field_lines f) (flat_map field_lines fs)), length-append (concat (field_lines f)) (field_octets fs))

chosen_by : (b : Bool) (f : HeaderField) (fs chosen : List HeaderField) → length (field_octets chosen) ≤ length (field_octets fs) → length (field_octets (cond b (f ∷ chosen) chosen)) ≤ length (field_octets (f ∷ fs))
chosen_by true f fs chosen h = omega (arith, h, more_octets f fs, more_octets f chosen)
chosen_by false f fs chosen h = omega (arith, h, more_octets f fs)

chosen_within : (test : HeaderField → Bool) (fs : List HeaderField) → length (field_octets (filter test fs)) ≤ length (field_octets fs)
chosen_within test [] = omega arith
chosen_within test (f ∷ fs) = chosen_by (test f) f fs (filter test fs) (chosen_within test fs)

pub fields_within : (names : List (List ℕ)) (others : Bool) (message : List ℕ) → length (fields names others message) ≤ length message
fields_within names others message =
    let all = (sections message).field_lines in
    let end = (sections message).end in
    let chosen = flat_map field_lines (filter (is_chosen names others) (header_fields message)) in
    omega (
      arith,
      ap length (concat-append chosen end),
      length-append (concat chosen) (concat end),
      chosen_within (is_chosen names others) (header_fields message),
      ap (λ (ls : List (List ℕ)). length (concat ls)) (lines_of all),
      ap length (concat-append all end),
      length-append (concat all) (concat end),
      header_within message,
    )
