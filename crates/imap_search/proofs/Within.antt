-- The test for a text in another one.
use Rattle.std.proofs.Common.{◌≡◌, ◌↔◌, ◌∙◌, ℕ, Bool, true, false, eqb, ◌||◌, List, [], ◌∷◌, ◌++◌, refl, sym, ap, ap₂}
use Rattle.std.proofs.lemmas.Bool.{and_parts, and_from, eqb-true, eq-eqb}
use Rattle.imap_text.specs.Folds.{IsWithin}
use Rattle.imap_search.specs.Within.{is_front, is_within, WithinIsTested}

-- ---- the front

front_back : (part whole : List ℕ) → is_front part whole ≡ true → (back : List ℕ) × (whole ≡ part ++ back)
front_back [] whole e = (whole, refl)
front_back (p ∷ part) [] e = absurd cc
front_back (p ∷ part) (w ∷ whole) e =
    let both = and_parts (eqb p w) (is_front part whole) e in
    let rest = front_back part whole both.1 in
    (rest.0, ap₂ ◌∷◌ (sym (eqb-true p w both.0)) rest.1)

back_front : (part back : List ℕ) → is_front part (part ++ back) ≡ true
back_front [] back = refl
back_front (p ∷ part) back = and_from (eqb p p) (is_front part (part ++ back)) (eq-eqb p p refl) (back_front part back)

-- ---- anywhere

or_true : (b : Bool) → (b || true) ≡ true
or_true true = refl
or_true false = refl

at_front : (part whole : List ℕ) → is_front part whole ≡ true → IsWithin part whole
at_front part whole e = let found = front_back part whole e in record { front = []; back = found.0; is = found.1 }

one_on : (w : ℕ) (part whole : List ℕ) → IsWithin part whole → IsWithin part (w ∷ whole)
one_on w part whole is = record { front = w ∷ is.front; back = is.back; is = ap (λ (l : List ℕ). w ∷ l) is.is }

tested : (part whole : List ℕ) → is_within part whole ≡ true → IsWithin part whole
tested part [] e = at_front part [] e
tested part (w ∷ whole) e = by (tested part whole) (is_front part (w ∷ whole)) refl e
  where
    by : (is_within part whole ≡ true → IsWithin part whole) → (b : Bool) → is_front part (w ∷ whole) ≡ b → (b || is_within part whole) ≡ true → IsWithin part (w ∷ whole)
    by later true is h = at_front part (w ∷ whole) is
    by later false is h = one_on w part whole (later h)

begins : (part whole : List ℕ) → is_front part whole ≡ true → is_within part whole ≡ true
begins part [] e = e
begins part (w ∷ whole) e = ap (λ b. b || is_within part whole) e

stands : (front part back : List ℕ) → is_within part (front ++ (part ++ back)) ≡ true
stands [] part back = begins part (part ++ back) (back_front part back)
stands (w ∷ front) part back =
    ap (λ b. is_front part (w ∷ (front ++ (part ++ back))) || b) (stands front part back)
    ∙ or_true (is_front part (w ∷ (front ++ (part ++ back))))

pub within_is_tested : WithinIsTested
within_is_tested part whole = (tested part whole, λ is. ap (is_within part) is.is ∙ stands is.front part is.back)

-- a test with the same answers is the same
pub same_test : (b : Bool) (part whole : List ℕ) → (b ≡ true) ↔ IsWithin part whole → b ≡ is_within part whole
same_test true part whole h = sym ((within_is_tested part whole).1 (h.0 refl))
same_test false part whole h = by (is_within part whole) refl
  where
    by : (c : Bool) → is_within part whole ≡ c → false ≡ c
    by true e = h.1 ((within_is_tested part whole).0 e)
    by false e = refl
