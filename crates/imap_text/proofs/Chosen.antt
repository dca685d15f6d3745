-- The fields that are asked for, from the first on.
use Rattle.std.proofs.Common.{◌≡◌, ◌∙◌, ap, sym, refl, ℕ, ◌+◌, ◌-◌, ◌≤◌, List, [], ◌∷◌, ◌++◌, length, length-append, append_assoc, append-nil, take, drop, arith, Bool, true, false, not, cond, map}
use Rattle.std.specs.Prelude.{filter, count_by, slice_range, take_while, nat_lt}
use Rattle.std.specs.List.{concat, flat_map, position_or_len}
use Rattle.std.proofs.Math.Seq.{take-add, take-append_seam}
use Rattle.std.proofs.lemmas.Bool.Decides.{nat_tests}
use Rattle.std.proofs.lemmas.List.{drop-drop, drop-append-le}
use Rattle.std.proofs.lemmas.List.Prefix.{front_rest}
use Rattle.std.proofs.lemmas.List.Folds.{concat-append}
use Rattle.std.proofs.lemmas.List.Sums.{sum_by-append, take_while-cons}
use Rattle.imap_text.specs.Sections.{sections, header}
use Rattle.imap_text.proofs.Cuts.{header-take}
use Rattle.imap_text.specs.Fields.{is_continuation, HeaderField, fields_among, fields_of, header_fields, field_lines, is_colon, is_named, is_chosen, fields, field_text, field_texts, EachLineOnce}
use Rattle.imap_text.specs.Found.{IsFirstField}

pub concat-last : (xs : List (List ℕ)) (x : List ℕ) → concat (xs ++ x ∷ []) ≡ concat xs ++ x
concat-last xs x = concat-append xs (x ∷ []) ∙ ap (λ (l : List ℕ). concat xs ++ l) (append-nil x)

-- the octets of the fields that pass the test, and the last line
abbrev gathered : (HeaderField → Bool) → List HeaderField → List (List ℕ) → List ℕ
gathered test fs end = concat (flat_map field_lines (filter test fs) ++ end)

gathered-chosen : (test : HeaderField → Bool) (f : HeaderField) (fs : List HeaderField) (end : List (List ℕ)) → test f ≡ true → gathered test (f ∷ fs) end ≡ concat (field_lines f) ++ gathered test fs end
gathered-chosen test f fs end e =
    let more = flat_map field_lines (filter test fs) in
    rw e (ap concat (append_assoc (field_lines f) more end) ∙ concat-append (field_lines f) (more ++ end))

gathered-passed : (test : HeaderField → Bool) (f : HeaderField) (fs : List HeaderField) (end : List (List ℕ)) → test f ≡ false → gathered test (f ∷ fs) end ≡ gathered test fs end
gathered-passed test f fs end e = rw e refl

-- the test of a field is that of its first line
abbrev pub starts : List ℕ → HeaderField
starts line = record { first = line; continuations = [] }

pub fields-chosen : (names : List (List ℕ)) (others : Bool) (rest line field later : List ℕ) → IsFirstField rest line field later → is_chosen names others (starts line) ≡ true → fields names others rest ≡ field ++ fields names others later
fields-chosen names others rest line field later is e =
    let test = is_chosen names others in
    let f : HeaderField = record { first = line; continuations = is.continuations } in
    ap (λ (fs : List HeaderField). gathered test fs (sections rest).end) is.fields
    ∙ ap (gathered test (f ∷ header_fields later)) is.end
    ∙ gathered-chosen test f (header_fields later) (sections later).end e
    ∙ ap (λ (l : List ℕ). l ++ fields names others later) (sym is.lines)

pub fields-passed : (names : List (List ℕ)) (others : Bool) (rest line field later : List ℕ) → IsFirstField rest line field later → is_chosen names others (starts line) ≡ false → fields names others rest ≡ fields names others later
fields-passed names others rest line field later is e =
    let test = is_chosen names others in
    let f : HeaderField = record { first = line; continuations = is.continuations } in
    ap (λ (fs : List HeaderField). gathered test fs (sections rest).end) is.fields
    ∙ ap (gathered test (f ∷ header_fields later)) is.end
    ∙ gathered-passed test f (header_fields later) (sections later).end e

pub fields-none : (names : List (List ℕ)) (others : Bool) (rest : List ℕ) → (sections rest).field_lines ≡ [] → fields names others rest ≡ header rest
fields-none names others rest none = ap (λ (ls : List (List ℕ)). gathered (is_chosen names others) (fields_of ls) (sections rest).end) none ∙ sym (ap (λ (ls : List (List ℕ)). concat (ls ++ (sections rest).end)) none)

-- ---- parts of a message

pub slice_range-more : (message rest : List ℕ) (start at n : ℕ) → rest ≡ drop at message → start ≤ at → slice_range message start (at + n) ≡ slice_range message start at ++ take n rest
slice_range-more message rest start at n is order =
    let far : at + n - start ≡ at - start + n = omega arith in
    let back : start + (at - start) ≡ at = omega arith in
    let there : drop (at - start) (drop start message) ≡ rest = drop-drop (at - start) start message ∙ ap (λ (k : ℕ). drop k message) back ∙ sym is in
    rw (far, take-add (at - start) n (drop start message), there) refl

-- The octets before `rest` have been gathered: those before `start` in parts.
pub record IsGathered (names : List (List ℕ)) (others : Bool) (message : List ℕ) (parts : List (List ℕ)) (start len : ℕ) (rest : List ℕ) : Type 0 where
  pub all : len ≡ length message
  pub left : rest ≡ drop (len - length rest) message
  pub order : start + length rest ≤ len
  pub whole : concat parts ++ (slice_range message start (len - length rest) ++ fields names others rest) ≡ fields names others message

pub IsGathered-none : (names : List (List ℕ)) (others : Bool) (message : List ℕ) → IsGathered names others message [] 0 (length message) message
IsGathered-none names others message =
    let none : length message - length message ≡ 0 = omega arith in
    record { all = refl; left = rw none refl; order = omega arith; whole = rw none refl }

-- where the rest begins after a field
abbrev pub IsNext : (len : ℕ) (rest field later : List ℕ) → Type 0
IsNext len rest field later = len - length later ≡ len - length rest + length field

next : (len : ℕ) (rest field later : List ℕ) → rest ≡ field ++ later → length rest ≤ len → IsNext len rest field later
next len rest field later e h = omega (arith, ap length e, length-append field later)

rest_later : (message rest field later : List ℕ) (at : ℕ) → rest ≡ field ++ later → rest ≡ drop at message → later ≡ drop (at + length field) message
rest_later message rest field later at e is =
    sym (front_rest rest field later e) ∙ ap (drop (length field)) is ∙ drop-drop (length field) at message

pub IsGathered-chosen : (names : List (List ℕ)) (others : Bool) (message : List ℕ) (parts : List (List ℕ)) (start len : ℕ) (rest line field later : List ℕ) → IsFirstField rest line field later → is_chosen names others (starts line) ≡ true → IsGathered names others message parts start len rest → IsGathered names others message parts start len later
IsGathered-chosen names others message parts start len rest line field later first e so_far =
    let at = len - length rest in
    let moved = next len rest field later first.whole (omega (arith, so_far.order)) in
    let more : slice_range message start (at + length field) ≡ slice_range message start at ++ field =
    slice_range-more message rest start at (length field) so_far.left (omega (arith, so_far.order)) ∙ ap (λ (l : List ℕ). slice_range message start at ++ l) (ap (take (length field)) first.whole ∙ take-append_seam field later) in
    let fs : fields names others rest ≡ field ++ fields names others later = fields-chosen names others rest line field later first e in
    record {
      all = so_far.all;
      left = rw moved (rest_later message rest field later at first.whole so_far.left);
      order = omega (arith, so_far.order, ap length first.whole, length-append field later);
      whole = ap (λ (n : ℕ). concat parts ++ (slice_range message start n ++ fields names others later)) moved
          ∙ ap (λ (l : List ℕ). concat parts ++ (l ++ fields names others later)) more
          ∙ ap (λ (l : List ℕ). concat parts ++ l) (append_assoc (slice_range message start at) field (fields names others later) ∙ ap (λ (l : List ℕ). slice_range message start at ++ l) (sym fs))
          ∙ so_far.whole;
    }

pub IsGathered-passed : (names : List (List ℕ)) (others : Bool) (message : List ℕ) (parts more : List (List ℕ)) (start len : ℕ) (rest line field later : List ℕ) → IsFirstField rest line field later → is_chosen names others (starts line) ≡ false → concat more ≡ concat parts ++ slice_range message start (len - length rest) → IsGathered names others message parts start len rest → IsGathered names others message more (len - length later) len later
IsGathered-passed names others message parts more start len rest line field later first e pushed so_far =
    let at = len - length rest in
    let moved = next len rest field later first.whole (omega (arith, so_far.order)) in
    let shorter : length later ≤ len = omega (arith, so_far.order, ap length first.whole, length-append field later) in
    let none : len - length later - (len - length later) ≡ 0 = omega arith in
    let fs : fields names others rest ≡ fields names others later = fields-passed names others rest line field later first e in
    record {
      all = so_far.all;
      left = rw moved (rest_later message rest field later at first.whole so_far.left);
      order = omega (arith, shorter);
      whole = rw none (ap (λ (l : List ℕ). l ++ fields names others later) pushed ∙ append_assoc (concat parts) (slice_range message start at) (fields names others later) ∙ ap (λ (l : List ℕ). concat parts ++ (slice_range message start at ++ l)) (sym fs) ∙ so_far.whole);
    }

pub IsGathered-end : (names : List (List ℕ)) (others : Bool) (message : List ℕ) (parts more : List (List ℕ)) (start len : ℕ) (rest : List ℕ) → (sections rest).field_lines ≡ [] → concat more ≡ concat parts ++ slice_range message start (len - length rest + length (header rest)) → IsGathered names others message parts start len rest → concat more ≡ fields names others message
IsGathered-end names others message parts more start len rest none pushed so_far =
    let at = len - length rest in
    let last : slice_range message start (at + length (header rest)) ≡ slice_range message start at ++ fields names others rest =
    slice_range-more message rest start at (length (header rest)) so_far.left (omega (arith, so_far.order)) ∙ ap (λ (l : List ℕ). slice_range message start at ++ l) (header-take rest ∙ sym (fields-none names others rest none)) in
    pushed ∙ ap (λ (l : List ℕ). concat parts ++ l) last ∙ so_far.whole

-- ---- the texts of fields

pub named_has_colon : (names : List (List ℕ)) (line : List ℕ) → is_named names line ≡ true → position_or_len is_colon line + 1 ≤ length line
named_has_colon names line e = by (nat_lt (position_or_len is_colon line) (length line)) refl
  where
    by : (has : Bool) → nat_lt (position_or_len is_colon line) (length line) ≡ has → position_or_len is_colon line + 1 ≤ length line
    by true h = grind (arith, nat_tests)
    by false h = let none : false ≡ true = rw h at e in cc

pub texts-chosen : (name rest line field later text : List ℕ) → IsFirstField rest line field later → is_named (name ∷ []) line ≡ true → text ≡ drop (position_or_len is_colon line + 1) field → field_texts name rest ≡ text ∷ field_texts name later
texts-chosen name rest line field later text first e is =
    let f : HeaderField = record { first = line; continuations = first.continuations } in
    let n = position_or_len is_colon line in
    let within : n + 1 ≤ length line = named_has_colon (name ∷ []) line e in
    let same : text ≡ field_text f = is ∙ ap (drop (n + 1)) first.lines ∙ drop-append-le (n + 1) line (concat first.continuations) within in
    ap (λ (fs : List HeaderField). map field_text (filter (is_chosen (name ∷ []) false) fs)) first.fields ∙ rw (e, same) refl

pub texts-passed : (name rest line field later : List ℕ) → IsFirstField rest line field later → is_named (name ∷ []) line ≡ false → field_texts name rest ≡ field_texts name later
texts-passed name rest line field later is e = ap (λ (fs : List HeaderField). map field_text (filter (is_chosen (name ∷ []) false) fs)) is.fields ∙ rw e refl

pub texts-none : (name rest : List ℕ) → (sections rest).field_lines ≡ [] → field_texts name rest ≡ []
texts-none name rest none = ap (λ (ls : List (List ℕ)). map field_text (filter (is_chosen (name ∷ []) false) (fields_of ls))) none

-- ---- each line once

lines-among : (all : List (List ℕ)) → take_while is_continuation all ++ flat_map field_lines (fields_among all) ≡ all
lines-among [] = refl
lines-among (line ∷ later) = by (is_continuation line) refl (lines-among later)
  where
    by : (goes_on : Bool) → is_continuation line ≡ goes_on → take_while is_continuation later ++ flat_map field_lines (fields_among later) ≡ later →
        take_while is_continuation (line ∷ later) ++ flat_map field_lines (fields_among (line ∷ later)) ≡ line ∷ later
    by true e ih = rw (take_while-cons is_continuation line later, e) (ap (λ (l : List (List ℕ)). line ∷ l) ih)
    by false e ih = rw (take_while-cons is_continuation line later, e) (ap (λ (l : List (List ℕ)). line ∷ l) ih)

pub lines-fields : (all : List (List ℕ)) → flat_map field_lines (fields_of all) ≡ all
lines-fields [] = refl
lines-fields (line ∷ later) = ap (λ (l : List (List ℕ)). line ∷ l) (lines-among later)

count-append : (test : List ℕ → Bool) (xs ys : List (List ℕ)) → count_by test (xs ++ ys) ≡ count_by test xs + count_by test ys
count-append test xs ys = sum_by-append (λ x. cond (test x) 1 0) xs ys

counts : (test : List ℕ → Bool) (p q : HeaderField → Bool) → ((f : HeaderField) → q f ≡ not (p f)) → (fs : List HeaderField) →
    count_by test (flat_map field_lines (filter p fs)) + count_by test (flat_map field_lines (filter q fs)) ≡ count_by test (flat_map field_lines fs)
counts test p q other [] = refl
counts test p q other (f ∷ fs) = by (p f) refl (counts test p q other fs)
  where
    by : (is : Bool) → p f ≡ is →
        count_by test (flat_map field_lines (filter p fs)) + count_by test (flat_map field_lines (filter q fs)) ≡ count_by test (flat_map field_lines fs) →
        count_by test (flat_map field_lines (filter p (f ∷ fs))) + count_by test (flat_map field_lines (filter q (f ∷ fs))) ≡ count_by test (flat_map field_lines (f ∷ fs))
    by true e ih =
        let no : q f ≡ false = other f ∙ ap not e in
        rw (e, no) (omega (arith, ih, count-append test (field_lines f) (flat_map field_lines (filter p fs)), count-append test (field_lines f) (flat_map field_lines fs)))
    by false e ih =
        let is : q f ≡ true = other f ∙ ap not e in
        rw (e, is) (omega (arith, ih, count-append test (field_lines f) (flat_map field_lines (filter q fs)), count-append test (field_lines f) (flat_map field_lines fs)))

pub each_line_once : EachLineOnce
each_line_once message names test =
    let all = (sections message).field_lines in
    let end = (sections message).end in
    let both = counts test (is_chosen names false) (is_chosen names true) (λ f. refl) (header_fields message) in
    let same = ap (count_by test) (lines-fields all) in
    omega (arith, both, same, count-append test all end)
