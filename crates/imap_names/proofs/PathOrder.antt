-- The order of two paths by their texts: `/` comes before every other octet.
use Rattle.std.proofs.Common.{◌≡◌, ◌≢◌, ℕ, Bool, true, false, cond, not, ◌<◌, List, [], ◌∷◌, ◌++◌, length, drop, Ordering, Less, Equal, Greater, refl, sym, ap, ◌∙◌, eqb-true, drop-cons, arith}
use Rattle.std.specs.Ordering.{ordering_then, nat_cmp, bool_cmp}
use Rattle.std.specs.Cmp.{tied_itself, nat_cmp_total}
use Rattle.std.specs.Cmp.Lexicographic.{slice_cmp}
use Rattle.std.specs.FinMap.{nat_cmp-IsAntisymmetric}
use Rattle.std.specs.List.{onto_first}
use Rattle.imap_names.specs.Text.{is_delimiter, components_of}
use Rattle.imap_names.specs.Order.{octet_cmp, path_cmp, path_run_cmp, end_cmp}
use Rattle.imap_names.proofs.Parts.{HasFirst, components_of-first}

then_assoc : (r s t : Ordering) → ordering_then (ordering_then r s) t ≡ ordering_then r (ordering_then s t)
then_assoc Less s t = refl
then_assoc Equal s t = refl
then_assoc Greater s t = refl

same_octet : (c d : ℕ) → octet_cmp c d ≡ Equal → c ≡ d
same_octet c d e = by (bool_cmp (not (is_delimiter c)) (not (is_delimiter d))) e
  where
    by : (r : Ordering) → ordering_then r (nat_cmp c d) ≡ Equal → c ≡ d
    by Less h = cc
    by Equal h = nat_cmp-IsAntisymmetric c d h
    by Greater h = cc

bool_cmp-itself : (b : Bool) → bool_cmp b b ≡ Equal
bool_cmp-itself true = refl
bool_cmp-itself false = refl

octet_cmp-itself : (c : ℕ) → octet_cmp c c ≡ Equal
octet_cmp-itself c = ap (λ r. ordering_then r (nat_cmp c c)) (bool_cmp-itself (not (is_delimiter c))) ∙ tied_itself nat_cmp_total c

delimiters_tie : (c d : ℕ) → is_delimiter c ≡ true → is_delimiter d ≡ true → nat_cmp c d ≡ Equal
delimiters_tie c d e f = (λ i. nat_cmp (eqb-true c 47 e i) (eqb-true d 47 f i))

-- ---- one octet more, for an order of lists of components that compares them one by one

module _ (P : List (List ℕ) → List (List ℕ) → Ordering)
    (both : (x : List ℕ) (xs : List (List ℕ)) (y : List ℕ) (ys : List (List ℕ)) → P (x ∷ xs) (y ∷ ys) ≡ ordering_then (slice_cmp nat_cmp x y) (P xs ys))
    (fewer : (y : List ℕ) (ys : List (List ℕ)) → P [] (y ∷ ys) ≡ Less) where
  -- x ∷ xs and y ∷ ys are the components of what follows the octets
  more_octets : (c d : ℕ) (x : List ℕ) (xs : List (List ℕ)) (y : List ℕ) (ys : List (List ℕ)) → P (cond (is_delimiter c) ([] ∷ x ∷ xs) (onto_first c (x ∷ xs))) (cond (is_delimiter d) ([] ∷ y ∷ ys) (onto_first d (y ∷ ys))) ≡ ordering_then (octet_cmp c d) (P (x ∷ xs) (y ∷ ys))
  more_octets c d x xs y ys = by (is_delimiter c) refl (is_delimiter d) refl
    where
      by : (b : Bool) → is_delimiter c ≡ b → (e : Bool) → is_delimiter d ≡ e → P (cond b ([] ∷ x ∷ xs) (onto_first c (x ∷ xs))) (cond e ([] ∷ y ∷ ys) (onto_first d (y ∷ ys))) ≡ ordering_then (ordering_then (bool_cmp (not b) (not e)) (nat_cmp c d)) (P (x ∷ xs) (y ∷ ys))
      by true p true q = both [] (x ∷ xs) [] (y ∷ ys) ∙ ap (λ r. ordering_then r (P (x ∷ xs) (y ∷ ys))) (sym (delimiters_tie c d p q))
      by true p false q = both [] (x ∷ xs) (d ∷ y) ys
      by false p true q = both (c ∷ x) xs [] (y ∷ ys)
      by false p false q =
          both (c ∷ x) xs (d ∷ y) ys ∙ then_assoc (nat_cmp c d) (slice_cmp nat_cmp x y) (P xs ys)
          ∙ ap (ordering_then (nat_cmp c d)) (sym (both x xs y ys))

  pub components-more : (c : ℕ) (cs : List ℕ) (d : ℕ) (ds : List ℕ) → P (components_of (c ∷ cs)) (components_of (d ∷ ds)) ≡ ordering_then (octet_cmp c d) (P (components_of cs) (components_of ds))
  components-more c cs d ds =
      let h : HasFirst (components_of cs) = components_of-first cs in
      let k : HasFirst (components_of ds) = components_of-first ds in
      (λ i. P (cond (is_delimiter c) ([] ∷ h.are i) (onto_first c (h.are i))) (cond (is_delimiter d) ([] ∷ k.are i) (onto_first d (k.are i))))
      ∙ more_octets c d h.first h.more k.first k.more
      ∙ (λ i. ordering_then (octet_cmp c d) (P (sym h.are i) (sym k.are i)))

  -- the empty text comes first
  pub components-none : (d : ℕ) (ds : List ℕ) → P (components_of []) (components_of (d ∷ ds)) ≡ Less
  components-none d ds = by (is_delimiter d) (components_of-first ds)
    where
      by : (b : Bool) → HasFirst (components_of ds) → P ([] ∷ []) (cond b ([] ∷ components_of ds) (onto_first d (components_of ds))) ≡ Less
      by true k = both [] [] [] (components_of ds) ∙ ap (P []) k.are ∙ fewer k.first k.more
      by false k = ap (λ z. P ([] ∷ []) (onto_first d z)) k.are ∙ both [] [] (d ∷ k.first) k.more

-- ---- the order

pub path_cmp-texts : (a b : List ℕ) → path_cmp (components_of a) (components_of b) ≡ slice_cmp octet_cmp a b
path_cmp-texts [] [] = refl
path_cmp-texts [] (d ∷ ds) = components-none path_cmp (λ x xs y ys. refl) (λ y ys. refl) d ds
path_cmp-texts (c ∷ cs) [] = by (is_delimiter c) (components_of-first cs)
  where
    by : (b : Bool) → HasFirst (components_of cs) → path_cmp (cond b ([] ∷ components_of cs) (onto_first c (components_of cs))) ([] ∷ []) ≡ Greater
    by true h = ap (λ z. path_cmp z []) h.are
    by false h = ap (λ z. path_cmp (onto_first c z) ([] ∷ [])) h.are
path_cmp-texts (c ∷ cs) (d ∷ ds) =
    components-more path_cmp (λ x xs y ys. refl) (λ y ys. refl) c cs d ds ∙ ap (ordering_then (octet_cmp c d)) (path_cmp-texts cs ds)

-- ---- where a text stands to those of a run

abbrev text_run_cmp : List ℕ → List ℕ → Ordering
text_run_cmp cs [] = end_cmp cs
text_run_cmp [] (d ∷ ds) = Less
text_run_cmp (c ∷ cs) (d ∷ ds) = ordering_then (octet_cmp c d) (text_run_cmp cs ds)

path_run_cmp-texts : (a top : List ℕ) → path_run_cmp (components_of a) (components_of top) ≡ text_run_cmp a top
path_run_cmp-texts [] [] = refl
path_run_cmp-texts [] (d ∷ ds) = components-none path_run_cmp (λ x xs y ys. refl) (λ y ys. refl) d ds
path_run_cmp-texts (c ∷ cs) [] = by (is_delimiter c) (components_of-first cs)
  where
    by : (b : Bool) → HasFirst (components_of cs) → path_run_cmp (cond b ([] ∷ components_of cs) (onto_first c (components_of cs))) ([] ∷ []) ≡ cond b Equal Greater
    by true h = refl
    by false h = ap (λ z. path_run_cmp (onto_first c z) ([] ∷ [])) h.are
path_run_cmp-texts (c ∷ cs) (d ∷ ds) =
    components-more path_run_cmp (λ x xs y ys. refl) (λ y ys. refl) c cs d ds ∙ ap (ordering_then (octet_cmp c d)) (path_run_cmp-texts cs ds)

-- a text that begins with that of the top
text_run_cmp-front : (top rest : List ℕ) → text_run_cmp (top ++ rest) top ≡ end_cmp rest
text_run_cmp-front [] rest = refl
text_run_cmp-front (d ∷ top) rest =
    ap (λ r. ordering_then r (text_run_cmp (top ++ rest) top)) (octet_cmp-itself d) ∙ text_run_cmp-front top rest

pub run_by_end : (top rest : List ℕ) → path_run_cmp (components_of (top ++ rest)) (components_of top) ≡ end_cmp rest
run_by_end top rest = path_run_cmp-texts (top ++ rest) top ∙ text_run_cmp-front top rest

-- and one that doesn't
text_run_cmp-apart : (a top : List ℕ) → ((rest : List ℕ) → a ≢ top ++ rest) → text_run_cmp a top ≡ slice_cmp octet_cmp a top
text_run_cmp-apart [] [] never = absurd (never [] refl)
text_run_cmp-apart [] (d ∷ ds) never = refl
text_run_cmp-apart (c ∷ cs) [] never = absurd (never (c ∷ cs) refl)
text_run_cmp-apart (c ∷ cs) (d ∷ ds) never =
    elim (octet_cmp c d) as (λ r. octet_cmp c d ≡ r → ordering_then r (text_run_cmp cs ds) ≡ ordering_then r (slice_cmp octet_cmp cs ds)) [
      | Less ↦ λ p. refl
      | Equal ↦ λ p. text_run_cmp-apart cs ds (λ rest e. never rest (λ i. same_octet c d p i ∷ e i))
      | Greater ↦ λ p. refl
    ] refl

pub run_by_order : (a top : List ℕ) → ((rest : List ℕ) → a ≢ top ++ rest) → path_run_cmp (components_of a) (components_of top) ≡ path_cmp (components_of a) (components_of top)
run_by_order a top never = path_run_cmp-texts a top ∙ text_run_cmp-apart a top never ∙ sym (path_cmp-texts a top)

-- a text that goes on after the other has ended
pub text_goes_on : (a b : List ℕ) (i : ℕ) → i < length a → length b < 1 → Greater ≡ slice_cmp octet_cmp (drop i a) b
text_goes_on a [] i within ended = ap (λ z. slice_cmp octet_cmp z []) (sym (drop-cons a i 0 within))
text_goes_on a (d ∷ ds) i within ended = absurd (omega (arith, ended))
