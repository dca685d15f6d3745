-- A header that is being cut, from the front on.
use Rattle.std.proofs.Common.{◌≡◌, ◌∙◌, ap, sym, refl, ℕ, ◌+◌, ◌-◌, ◌≤◌, List, [], ◌∷◌, ◌++◌, length, length-append, append_assoc, append-nil, map, arith, Bool, true, false, cond, Some, position}
use Rattle.std.specs.Prelude.{bytes_eq, take}
use Rattle.std.specs.Char.{to_ascii_lowercase}
use Rattle.std.specs.FinMap as fin
use Rattle.std.specs.List.{concat}
use Rattle.imap_text.specs.Sections.{sections, header}
use Rattle.imap_text.specs.Fields.{HeaderField, header_fields, fields_of, is_colon, is_named, is_chosen}
use Rattle.imap_text.specs.Found.{IsFirstField}
use Rattle.imap_text.specs.Places.{FieldPlaces, places_of, with_place, places_from, places_named, bounds_from, bounds_of, field_octets, IsIndex}
use Rattle.imap_text.proofs.AskedNames.{or_false}
use Rattle.imap_text.proofs.PlacesByName.{places-with_place, none_at}

-- the place of a field, if it has the name
abbrev pub place_if : Bool → ℕ → List ℕ
place_if is place = cond is (place ∷ []) []

pub named_more : (named : FieldPlaces) (line lower : List ℕ) (colon place : ℕ) → position is_colon line ≡ Some colon → lower ≡ map to_ascii_lowercase (take colon line) → (name : List ℕ)
    → places_of (with_place named lower place) (map to_ascii_lowercase name) ≡ places_of named (map to_ascii_lowercase name) ++ place_if (is_named (name ∷ []) line) place
named_more named line lower colon place e is name =
    places-with_place named lower place (map to_ascii_lowercase name)
    ∙ ap (λ (n : List ℕ). places_of named (map to_ascii_lowercase name) ++ place_if (bytes_eq (map to_ascii_lowercase name) n) place) is
    ∙ ap (λ (b : Bool). places_of named (map to_ascii_lowercase name) ++ place_if b place) (sym (or_false (bytes_eq (map to_ascii_lowercase name) (map to_ascii_lowercase (take colon line)))) ∙ rw e refl)

-- The fields before `rest` have their bounds, and are under their names.
pub record IsCutTo (message starts : List ℕ) (places : FieldPlaces) (len : ℕ) (rest : List ℕ) : Type 0 where
  pub within : length rest ≤ len
  pub bounds : starts ++ bounds_from (len - length rest) (header_fields rest) (concat (sections rest).end) ≡ bounds_of message
  pub named : (name : List ℕ) → places_of places (map to_ascii_lowercase name) ++ places_from (is_chosen (name ∷ []) false) (length starts) (header_fields rest) ≡ places_named (name ∷ []) message

pub IsCutTo-none : (message : List ℕ) (places : FieldPlaces) → places ≡ fin.empty → IsCutTo message [] places (length message) message
IsCutTo-none message places none =
    let start : length message - length message ≡ 0 = omega arith in
    record {
      within = omega arith;
      bounds = ap (λ (n : ℕ). bounds_from n (header_fields message) (concat (sections message).end)) start;
      named = λ name. ap (λ (p : FieldPlaces). places_of p (map to_ascii_lowercase name) ++ places_named (name ∷ []) message) none
          ∙ ap (λ (l : List ℕ). l ++ places_named (name ∷ []) message) (none_at (map to_ascii_lowercase name));
    }

pub IsCutTo-more : (message starts more : List ℕ) (places added : FieldPlaces) (len : ℕ) (rest line field later : List ℕ) → IsFirstField rest line field later
    → more ≡ starts ++ (len - length rest) ∷ []
    → ((name : List ℕ) → places_of added (map to_ascii_lowercase name) ≡ places_of places (map to_ascii_lowercase name) ++ place_if (is_named (name ∷ []) line) (length starts))
    → IsCutTo message starts places len rest → IsCutTo message more added len later
IsCutTo-more message starts more places added len rest line field later first pushed add so_far =
    let f : HeaderField = record { first = line; continuations = first.continuations } in
    let at = len - length rest in
    let next : at + length (field_octets f) ≡ len - length later =
    omega (arith, so_far.within, ap length first.whole, length-append field later, ap length first.lines) in
    let shown : bounds_from at (header_fields rest) (concat (sections rest).end) ≡ at ∷ bounds_from (len - length later) (header_fields later) (concat (sections later).end) =
    ap (λ (fs : List HeaderField). bounds_from at fs (concat (sections rest).end)) first.fields
    ∙ ap (λ (l : List (List ℕ)). at ∷ bounds_from (at + length (field_octets f)) (header_fields later) (concat l)) first.end
    ∙ ap (λ (n : ℕ). at ∷ bounds_from n (header_fields later) (concat (sections later).end)) next in
    let count : length more ≡ length starts + 1 = ap length pushed ∙ length-append starts (at ∷ []) in
    record {
      within = omega (arith, so_far.within, ap length first.whole, length-append field later);
      bounds = ap (λ (l : List ℕ). l ++ bounds_from (len - length later) (header_fields later) (concat (sections later).end)) pushed
          ∙ append_assoc starts (at ∷ []) (bounds_from (len - length later) (header_fields later) (concat (sections later).end))
          ∙ ap (λ (l : List ℕ). starts ++ l) (sym shown)
          ∙ so_far.bounds;
      named = λ name.
          let test = is_chosen (name ∷ []) false in
          let lower = map to_ascii_lowercase name in
          let after = places_from test (length starts + 1) (header_fields later) in
          ap (λ (n : ℕ). places_of added lower ++ places_from test n (header_fields later)) count
          ∙ ap (λ (l : List ℕ). l ++ after) (add name)
          ∙ append_assoc (places_of places lower) (place_if (is_named (name ∷ []) line) (length starts)) after
          ∙ ap (λ (l : List ℕ). places_of places lower ++ l) (joined (is_named (name ∷ []) line) (length starts) after)
          ∙ ap (λ (fs : List HeaderField). places_of places lower ++ places_from test (length starts) fs) (sym first.fields)
          ∙ so_far.named name;
    }
  where
    joined : (is : Bool) (place : ℕ) (after : List ℕ) → place_if is place ++ after ≡ cond is (place ∷ after) after
    joined true place after = refl
    joined false place after = refl

pub IsCutTo-end : (message starts one two : List ℕ) (places : FieldPlaces) (len count : ℕ) (rest : List ℕ) → (sections rest).field_lines ≡ [] → count ≡ length (header rest)
    → one ≡ starts ++ (len - length rest) ∷ [] → two ≡ one ++ (len - length rest + count) ∷ [] → IsCutTo message starts places len rest → IsIndex message two places
IsCutTo-end message starts one two places len count rest none all pushed again so_far =
    let at = len - length rest in
    let end = concat (sections rest).end in
    let head : count ≡ length end = all ∙ ap (λ (ls : List (List ℕ)). length (concat (ls ++ (sections rest).end))) none in
    let both : two ≡ starts ++ at ∷ (at + length end) ∷ [] =
    again ∙ ap (λ (l : List ℕ). l ++ (at + count) ∷ []) pushed ∙ append_assoc starts (at ∷ []) ((at + count) ∷ [])
    ∙ ap (λ (n : ℕ). starts ++ at ∷ (at + n) ∷ []) head in
    record {
      bounds = both ∙ ap (λ (ls : List (List ℕ)). starts ++ bounds_from at (fields_of ls) end) (sym none) ∙ so_far.bounds;
      named = λ name. sym (append-nil (places_of places (map to_ascii_lowercase name)))
          ∙ ap (λ (ls : List (List ℕ)). places_of places (map to_ascii_lowercase name) ++ places_from (is_chosen (name ∷ []) false) (length starts) (fields_of ls)) (sym none)
          ∙ so_far.named name;
    }
