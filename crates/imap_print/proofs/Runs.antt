-- The ranges of a set, as they are printed one after the other.
use Rattle.std.proofs.Common.{◌≡◌, ℕ, ◌+◌, ◌<◌, true, false, cond, eqb, List, [], ◌∷◌, ◌++◌, length, drop, get_or, drop-cons, add-one, map, refl, sym, ap, ◌∙◌, append_assoc}
use Rattle.imap_print.specs.Words.{before_each, joined}
use Rattle.imap_print.specs.Sets.{Range, runs_from, range_text}

abbrev pub ranges_text : List Range → List ℕ
ranges_text ranges = joined 44 (map range_text ranges)

-- there is a range after the comma
pub comma : (first last : ℕ) (numbers : List ℕ) → before_each 44 (map range_text (runs_from first last numbers)) ≡ 44 ∷ ranges_text (runs_from first last numbers)
comma first last [] = refl
comma first last (n ∷ numbers) =
    elim (eqb n (last + 1)) as (λ b. before_each 44 (map range_text (cond b (runs_from first n numbers) (record { first = first; last = last } ∷ runs_from n n numbers))) ≡ 44 ∷ ranges_text (cond b (runs_from first n numbers) (record { first = first; last = last } ∷ runs_from n n numbers))) [
      | true ↦ comma first n numbers
      | false ↦ refl
    ]

at_index : (first last : ℕ) (numbers : List ℕ) (i : ℕ) → i < length numbers → runs_from first last (drop i numbers) ≡ runs_from first last (get_or numbers i 0 ∷ drop (i + 1) numbers)
at_index first last numbers i h = ap (runs_from first last) (drop-cons numbers i 0 h) ∙ ap (λ (j : ℕ). runs_from first last (get_or numbers i 0 ∷ drop j numbers)) (sym (add-one i))

joins : (first last n : ℕ) (numbers : List ℕ) → true ≡ eqb n (last + 1) → runs_from first last (n ∷ numbers) ≡ runs_from first n numbers
joins first last n numbers e = rw (sym e) refl

parts : (first last n : ℕ) (numbers : List ℕ) → false ≡ eqb n (last + 1) → runs_from first last (n ∷ numbers) ≡ record { first = first; last = last } ∷ runs_from n n numbers
parts first last n numbers e = rw (sym e) refl

-- the next number goes on with the run
pub run_goes_on : (out whole : List ℕ) (first last : ℕ) (numbers : List ℕ) (i : ℕ) → i < length numbers → true ≡ eqb (get_or numbers i 0) (last + 1)
    → out ++ ranges_text (runs_from first last (drop i numbers)) ≡ whole → out ++ ranges_text (runs_from first (get_or numbers i 0) (drop (i + 1) numbers)) ≡ whole
run_goes_on out whole first last numbers i h e before =
    ap (λ (rs : List Range). out ++ ranges_text rs) (sym (at_index first last numbers i h ∙ joins first last (get_or numbers i 0) (drop (i + 1) numbers) e)) ∙ before

-- the next number begins another one
pub run_ends : (out ranged new whole : List ℕ) (first last : ℕ) (numbers : List ℕ) (i : ℕ) → i < length numbers → false ≡ eqb (get_or numbers i 0) (last + 1)
    → ranged ≡ out ++ range_text (record { first = first; last = last }) → new ≡ ranged ++ 44 ∷ []
    → out ++ ranges_text (runs_from first last (drop i numbers)) ≡ whole → new ++ ranges_text (runs_from (get_or numbers i 0) (get_or numbers i 0) (drop (i + 1) numbers)) ≡ whole
run_ends out ranged new whole first last numbers i h e r n before =
    let x = get_or numbers i 0 in
    let after = runs_from x x (drop (i + 1) numbers) in
    let text = range_text (record { first = first; last = last }) in
    ap (λ (t : List ℕ). t ++ ranges_text after) (n ∙ ap (λ (t : List ℕ). t ++ 44 ∷ []) r)
    ∙ append_assoc (out ++ text) (44 ∷ []) (ranges_text after)
    ∙ append_assoc out text (44 ∷ ranges_text after)
    ∙ ap (λ (t : List ℕ). out ++ (text ++ t)) (sym (comma x x (drop (i + 1) numbers)))
    ∙ ap (λ (rs : List Range). out ++ ranges_text rs) (sym (at_index first last numbers i h ∙ parts first last x (drop (i + 1) numbers) e)) ∙ before
