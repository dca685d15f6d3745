-- The order of names is total, and a name with all below it is one run in it.
use Rattle.std.proofs.Common.{◌≡◌, ℕ, ◌-◌, ◌<◌, ◌≤◌, true, List, [], ◌∷◌, ◌++◌, reverse, length, Some, Ordering, Less, Equal, Greater, refl, sym, ap, ◌∙◌, arith}
use Rattle.std.specs.Prelude.{◌↔◌, nat_lt}
use Rattle.std.specs.Ordering.{nat_cmp, ordering_then, ordering_index, ordering_reverse, is_eq}
use Rattle.std.specs.Cmp.{IsTotalOrder, alike_right, tied_itself, on_total}
use Rattle.std.specs.Cmp.Lexicographic.{slice_cmp, lists_total, nat_list_cmp_total}
use Rattle.std.specs.FinMap.{IsAntisymmetric, slice_cmp-IsAntisymmetric, nat_cmp-IsAntisymmetric}
use Rattle.std.proofs.lemmas.Bool.{and_parts, and_from, ltb-true, lt-ltb}
use Rattle.std.proofs.lemmas.List.{reverse-append, reverse-reverse, take_at, length-append}
use Rattle.imap_names.specs.Name.{Name, name_of, IsAbove, superior}
use Rattle.imap_names.specs.Order.{path_cmp, name_cmp, front_cmp, path_run_cmp, run_cmp, is_within, is_below, moved}

pub path_total : IsTotalOrder path_cmp
path_total = lists_total nat_list_cmp_total

pub name_total : IsTotalOrder name_cmp
name_total = on_total reverse path_total

reversed_same : {A : Type 0} (xs ys : List A) → reverse xs ≡ reverse ys → xs ≡ ys
reversed_same xs ys e = sym (reverse-reverse xs) ∙ ap reverse e ∙ reverse-reverse ys

pub component_antisymmetric : IsAntisymmetric (slice_cmp nat_cmp)
component_antisymmetric = slice_cmp-IsAntisymmetric nat_cmp-IsAntisymmetric

-- only a name ties with itself
pub name_antisymmetric : IsAntisymmetric name_cmp
name_antisymmetric m n e = reversed_same m n (slice_cmp-IsAntisymmetric component_antisymmetric (reverse m) (reverse n) e)

-- ---- lists that begin with another

no_more : (r : Ordering) → 2 < ordering_index r → ⊥
no_more Less h = omega (arith, h)
no_more Equal h = omega (arith, h)
no_more Greater h = omega (arith, h)

module _ {K : Type 0} {R : K → K → Ordering} (o : IsTotalOrder R) where
  turned : (x y : K) (r : Ordering) → R x y ≡ r → R y x ≡ ordering_reverse r
  turned x y r e = o.antisymm y x ∙ ap ordering_reverse e

  -- lists that stand in different places to a run are in the order of these places
  front_apart : (top xs ys : List K) → ordering_index (front_cmp R xs top) < ordering_index (front_cmp R ys top) → slice_cmp R xs ys ≡ Less
  front_apart [] xs ys h = absurd (omega (arith, h))
  front_apart (t ∷ top) [] [] h = absurd (omega (arith, h))
  front_apart (t ∷ top) [] (y ∷ ys) h = refl
  front_apart (t ∷ top) (x ∷ xs) [] h = absurd (omega (arith, h))
  front_apart (t ∷ top) (x ∷ xs) (y ∷ ys) h =
      elim (R x t) as (λ r. R x t ≡ r → ordering_index (ordering_then r (front_cmp R xs top)) < ordering_index (front_cmp R (y ∷ ys) (t ∷ top)) → slice_cmp R (x ∷ xs) (y ∷ ys) ≡ Less) [
        | Less ↦ λ p q. before p (R y t) refl q
        | Equal ↦ λ p q. among (front_apart top xs ys) p (R y t) refl q
        | Greater ↦ λ p q. absurd (no_more (front_cmp R (y ∷ ys) (t ∷ top)) q)
      ] refl h
    where
      at_once : R x y ≡ Less → slice_cmp R (x ∷ xs) (y ∷ ys) ≡ Less
      at_once e = ap (λ r. ordering_then r (slice_cmp R xs ys)) e

      before : R x t ≡ Less → (r : Ordering) → R y t ≡ r → 0 < ordering_index (ordering_then r (front_cmp R ys top)) → slice_cmp R (x ∷ xs) (y ∷ ys) ≡ Less
      before p Less q k = absurd (omega (arith, k))
      before p Equal q k = at_once (alike_right o y t x q ∙ p)
      before p Greater q k = at_once (o.trans x t y p (turned y t Greater q))

      among : (ordering_index (front_cmp R xs top) < ordering_index (front_cmp R ys top) → slice_cmp R xs ys ≡ Less) → R x t ≡ Equal → (r : Ordering) → R y t ≡ r → ordering_index (front_cmp R xs top) < ordering_index (ordering_then r (front_cmp R ys top)) → slice_cmp R (x ∷ xs) (y ∷ ys) ≡ Less
      among deeper p Less q k = absurd (omega (arith, k))
      among deeper p Equal q k = ap (λ r. ordering_then r (slice_cmp R xs ys)) (alike_right o y t x q ∙ p) ∙ deeper k
      among deeper p Greater q k = at_once (o.congr x t y p ∙ turned y t Greater q)

  front_cmp-prefix : (top rest : List K) → front_cmp R (top ++ rest) top ≡ Equal
  front_cmp-prefix [] rest = refl
  front_cmp-prefix (t ∷ top) rest = ap (λ r. ordering_then r (front_cmp R (top ++ rest) top)) (tied_itself o t) ∙ front_cmp-prefix top rest

  prefix_from_front : IsAntisymmetric R → (top xs : List K) → front_cmp R xs top ≡ Equal → (rest : List K) × (xs ≡ top ++ rest)
  prefix_from_front same [] xs e = (xs, refl)
  prefix_from_front same (t ∷ top) [] e = absurd (omega (arith, ap ordering_index e))
  prefix_from_front same (t ∷ top) (x ∷ xs) e =
      elim (R x t) as (λ r. R x t ≡ r → ordering_then r (front_cmp R xs top) ≡ Equal → (rest : List K) × (x ∷ xs ≡ t ∷ top ++ rest)) [
        | Less ↦ λ p q. absurd (omega (arith, ap ordering_index q))
        | Equal ↦ λ p q. let (rest, is) = prefix_from_front same top xs q in (rest, λ i. same x t p i ∷ is i)
        | Greater ↦ λ p q. absurd (omega (arith, ap ordering_index q))
      ] refl e

  slice_cmp-prefix : (front xs ys : List K) → slice_cmp R (front ++ xs) (front ++ ys) ≡ slice_cmp R xs ys
  slice_cmp-prefix [] xs ys = refl
  slice_cmp-prefix (f ∷ front) xs ys = ap (λ r. ordering_then r (slice_cmp R (front ++ xs) (front ++ ys))) (tied_itself o f) ∙ slice_cmp-prefix front xs ys

-- ---- runs of names

-- names that stand in different places to a run are in the order of these places
pub run_apart : (top a b : Name) → ordering_index (run_cmp a top) < ordering_index (run_cmp b top) → name_cmp a b ≡ Less
run_apart top a b h = front_apart nat_list_cmp_total (reverse top) (reverse a) (reverse b) h

not_both : (r : Ordering) → r ≡ Less → ordering_reverse r ≡ Less → ⊥
not_both Less e f = omega (arith, ap ordering_index f)
not_both Equal e f = omega (arith, ap ordering_index e)
not_both Greater e f = omega (arith, ap ordering_index e)

not_above : (m n : ℕ) → (n < m → ⊥) → m ≤ n
not_above m n apart = omega (arith, apart)

-- along the order names stand before a run, then in it, then after it
pub run_rises : (top a b : Name) → name_cmp a b ≡ Less → ordering_index (run_cmp a top) ≤ ordering_index (run_cmp b top)
run_rises top a b e =
    not_above (ordering_index (run_cmp a top)) (ordering_index (run_cmp b top))
    (λ h. not_both (name_cmp a b) e (sym (name_total.antisymm b a) ∙ run_apart top b a h))

pub run_below : (top between : Name) → run_cmp (between ++ top) top ≡ Equal
run_below top between = ap (λ path. path_run_cmp path (reverse top)) (reverse-append between top) ∙ front_cmp-prefix nat_list_cmp_total (reverse top) (reverse between)

pub below_from_run : (top name : Name) → run_cmp name top ≡ Equal → (between : Name) × (name ≡ between ++ top)
below_from_run top name e =
    let (rest, is) = prefix_from_front nat_list_cmp_total component_antisymmetric (reverse top) (reverse name) e in
    (reverse rest, sym (reverse-reverse name) ∙ ap reverse is ∙ reverse-append (reverse top) rest ∙ ap (λ t. reverse rest ++ t) (reverse-reverse top))

pub tied : (r : Ordering) → is_eq r ≡ true → r ≡ Equal
tied Less e = cc
tied Equal e = refl
tied Greater e = cc

pub within_below : (top between : Name) → is_within top (between ++ top) ≡ true
within_below top between = ap is_eq (run_below top between)

pub below_from_within : (top name : Name) → is_within top name ≡ true → (between : Name) × (name ≡ between ++ top)
below_from_within top name e = below_from_run top name (tied _ e)

-- ---- names below a name

longer : (part : List ℕ) (between top : Name) → length top < length (part ∷ between ++ top)
longer part between top = omega (arith, length-append (part ∷ between) top)

pub below_from_IsAbove : (top name : Name) → IsAbove top name → is_below top name ≡ true
below_from_IsAbove top name above =
    and_from _ _ (ap (is_within top) above.2 ∙ within_below top (above.0 ∷ above.1))
    (ap (λ n. nat_lt (length top) (length n)) above.2 ∙ lt-ltb _ _ (longer above.0 above.1 top))

no_longer : (top : Name) → length top < length top → ⊥
no_longer top h = omega (arith, h)

IsAbove-longer : (top name between : Name) → name ≡ between ++ top → length top < length name → IsAbove top name
IsAbove-longer top name [] is long = absurd (no_longer top (omega (arith, long, ap length is)))
IsAbove-longer top name (part ∷ between) is long = (part, between, is)

pub IsAbove_from_below : (top name : Name) → is_below top name ≡ true → IsAbove top name
IsAbove_from_below top name e =
    let parts = and_parts (is_within top name) (nat_lt (length top) (length name)) e in
    let (between, is) = below_from_within top name parts.0 in
    IsAbove-longer top name between is (ltb-true (length top) (length name) parts.1)

pub is_below-IsAbove : (top name : Name) → (is_below top name ≡ true) ↔ IsAbove top name
is_below-IsAbove top name = (IsAbove_from_below top name, below_from_IsAbove top name)

pub superior-IsAbove : (name above : Name) → superior name ≡ Some above → IsAbove above name
superior-IsAbove [] above e = cc
superior-IsAbove (root ∷ []) above e = cc
superior-IsAbove (outermost ∷ root ∷ []) above e = cc
superior-IsAbove (deepest ∷ next ∷ part ∷ more) above e =
    let same : next ∷ part ∷ more ≡ above = cc in (deepest, [], ap (λ n. deepest ∷ n) same)

-- two names above which the same name stands are in the order of what is below it
pub name_cmp-above : (top a b : Name) → name_cmp (a ++ top) (b ++ top) ≡ name_cmp a b
name_cmp-above top a b = (λ i. path_cmp (reverse-append a top i) (reverse-append b top i)) ∙ slice_cmp-prefix nat_list_cmp_total (reverse top) (reverse a) (reverse b)

-- ---- names that move together

pub moved_below : (old new between : Name) → moved old new (between ++ old) ≡ between ++ new
moved_below old new between =
    let n : length between ≡ length (between ++ old) - length old = omega (arith, length-append between old) in
    ap (λ front. front ++ new) (take_at between old _ n)

-- they stay in their order
pub moved_cmp : (old new a b : Name) → run_cmp a old ≡ Equal → run_cmp b old ≡ Equal → name_cmp (moved old new a) (moved old new b) ≡ name_cmp a b
moved_cmp old new a b ea eb =
    let (x, ax) = below_from_run old a ea in
    let (y, by) = below_from_run old b eb in
    (λ i. name_cmp (moved old new (ax i)) (moved old new (by i)))
    ∙ (λ i. name_cmp (moved_below old new x i) (moved_below old new y i))
    ∙ name_cmp-above new x y ∙ sym (name_cmp-above old x y)
    ∙ (λ i. name_cmp (sym ax i) (sym by i))

pub moved_within : (old new a : Name) → run_cmp a old ≡ Equal → run_cmp (moved old new a) new ≡ Equal
moved_within old new a e =
    let (x, is) = below_from_run old a e in
    (λ i. run_cmp (moved old new (is i)) new) ∙ ap (λ n. run_cmp n new) (moved_below old new x) ∙ run_below new x

-- ---- names by their root and their components

reversed-name_of : (root : List ℕ) (parts : List (List ℕ)) → reverse (name_of root parts) ≡ root ∷ parts
reversed-name_of root parts = reverse-append (reverse parts) (root ∷ []) ∙ ap (λ z. root ∷ z) (reverse-reverse parts)

pub name_cmp-name_of : (r s : List ℕ) (xs ys : List (List ℕ)) → name_cmp (name_of r xs) (name_of s ys) ≡ ordering_then (slice_cmp nat_cmp r s) (path_cmp xs ys)
name_cmp-name_of r s xs ys = λ i. path_cmp (reversed-name_of r xs i) (reversed-name_of s ys i)

pub run_cmp-name_of : (r s : List ℕ) (xs ys : List (List ℕ)) → run_cmp (name_of r xs) (name_of s ys) ≡ ordering_then (slice_cmp nat_cmp r s) (path_run_cmp xs ys)
run_cmp-name_of r s xs ys = λ i. path_run_cmp (reversed-name_of r xs i) (reversed-name_of s ys i)
