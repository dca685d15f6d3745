-- Names at and below a name, and what they become when they move with it.
use Rattle.std.proofs.Common.{◌≡◌, ◌≢◌, ℕ, ◌<◌, ◌≤◌, true, List, [], ◌∷◌, ◌++◌, drop, length, ◌⊎◌, inl, inr, Some, refl, sym, ap, subst, ◌∙◌, arith}
use Rattle.std.specs.Prelude.{option_map}
use Rattle.std.proofs.lemmas.List.{length-append}
use Rattle.imap_names.specs.Name.{Name, root_of, superior}
use Rattle.imap_names.specs.Order.{is_within, moved}
use Rattle.imap_names.proofs.OrderLaws.{within_below, below_from_within, moved_below}
use Rattle.imap_names.proofs.AboveLaws.{root_of-above}

-- ---- names at and below a name

pub within_itself : (top : Name) → is_within top top ≡ true
within_itself top = within_below top []

pub within_deeper : (top : Name) (deepest : List ℕ) (q : Name) → is_within top q ≡ true → is_within top (deepest ∷ q) ≡ true
within_deeper top deepest q e =
    let (x, is) = below_from_within top q e in
    ap (λ n. is_within top (deepest ∷ n)) is ∙ within_below top (deepest ∷ x)

pub within_cases : (top : Name) (deepest : List ℕ) (q : Name) → is_within top (deepest ∷ q) ≡ true → (deepest ∷ q ≡ top) ⊎ (is_within top q ≡ true)
within_cases top deepest q e = let (x, is) = below_from_within top (deepest ∷ q) e in by x is
  where
    by : (x : Name) → deepest ∷ q ≡ x ++ top → (deepest ∷ q ≡ top) ⊎ (is_within top q ≡ true)
    by [] is = inl is
    by (part ∷ x) is = inr (ap (λ n. is_within top (drop 1 n)) is ∙ within_below top x)

pub within_no_shorter : (top q : Name) → is_within top q ≡ true → length top ≤ length q
within_no_shorter top q e = let (x, is) = below_from_within top q e in omega (arith, ap length is ∙ length-append x top)

-- names that each stand at or below the other are one
pub within_each_other : (a b : Name) → is_within a b ≡ true → is_within b a ≡ true → a ≡ b
within_each_other a b e f = let (x, is) = below_from_within a b e in by x is
  where
    by : (x : Name) → b ≡ x ++ a → a ≡ b
    by [] is = sym is
    by (part ∷ x) is =
        absurd (omega (arith, ap length is ∙ length-append (part ∷ x) a, within_no_shorter b a f))

pub within_trans : (a b c : Name) → is_within a b ≡ true → is_within b c ≡ true → is_within a c ≡ true
within_trans a b c e f =
    let (y, is) = below_from_within b c f in
    ap (is_within a) is ∙ by y
  where
    by : (y : Name) → is_within a (y ++ b) ≡ true
    by [] = e
    by (part ∷ y) = within_deeper a part (y ++ b) (by y)

some_parts : (name : Name) → 0 < length name → name ≢ []
some_parts name h e = omega (arith, h, ap length e)

-- they lie in one tree
pub root_of-within : (top q : Name) → 0 < length top → is_within top q ≡ true → root_of q ≡ root_of top
root_of-within top q h e =
    let (x, is) = below_from_within top q e in
    ap root_of is ∙ root_of-above x top (some_parts top h)

-- ---- what they become

pub moved_itself : (old new : Name) → moved old new old ≡ new
moved_itself old new = moved_below old new []

pub moved_within : (old new q : Name) → is_within old q ≡ true → is_within new (moved old new q) ≡ true
moved_within old new q e =
    let (x, is) = below_from_within old q e in
    ap (λ n. is_within new (moved old new n)) is ∙ ap (is_within new) (moved_below old new x) ∙ within_below new x

pub there_and_back : (old new q : Name) → is_within old q ≡ true → moved new old (moved old new q) ≡ q
there_and_back old new q e =
    let (x, is) = below_from_within old q e in
    ap (λ n. moved new old (moved old new n)) is ∙ ap (moved new old) (moved_below old new x) ∙ moved_below new old x ∙ sym is

pub moved_injective : (old new a b : Name) → is_within old a ≡ true → is_within old b ≡ true → moved old new a ≡ moved old new b → a ≡ b
moved_injective old new a b ea eb same = sym (there_and_back old new a ea) ∙ ap (moved new old) same ∙ there_and_back old new b eb

pub moved_deeper : (old new : Name) (deepest : List ℕ) (q : Name) → is_within old q ≡ true → moved old new (deepest ∷ q) ≡ deepest ∷ moved old new q
moved_deeper old new deepest q e =
    let (x, is) = below_from_within old q e in
    ap (λ n. moved old new (deepest ∷ n)) is ∙ moved_below old new (deepest ∷ x)
    ∙ ap (λ n. deepest ∷ n) (sym (ap (moved old new) is ∙ moved_below old new x))

pub root_of-moved : (old new q : Name) → 0 < length new → is_within old q ≡ true → root_of (moved old new q) ≡ root_of new
root_of-moved old new q h e = root_of-within new (moved old new q) h (moved_within old new q e)

-- ---- their superiors

pub superior_deeper : (deepest : List ℕ) (name : Name) → 1 < length name → superior (deepest ∷ name) ≡ Some name
superior_deeper deepest [] h = absurd (omega (arith, h))
superior_deeper deepest (root ∷ []) h = absurd (omega (arith, h))
superior_deeper deepest (above ∷ next ∷ more) h = refl

-- a name with a superior is that and one part more
pub record HasSuperior (name above : Name) : Type 0 where
  pub deepest : List ℕ
  pub is : name ≡ deepest ∷ above
  pub parts : 1 < length above

pub superior_is_tail : (name above : Name) → superior name ≡ Some above → HasSuperior name above
superior_is_tail [] above e = cc
superior_is_tail (root ∷ []) above e = cc
superior_is_tail (outermost ∷ root ∷ []) above e = cc
superior_is_tail (deepest ∷ part ∷ next ∷ more) above e =
    let same : part ∷ next ∷ more ≡ above = cc in
    record { deepest = deepest; is = ap (λ n. deepest ∷ n) same; parts = subst (λ n. 1 < length n) same (omega arith) }

-- a name below `old`, and its superior, before and after they move
pub record MovesWithSuperior (old new q : Name) : Type 0 where
  pub above : Name
  pub before : superior q ≡ Some above
  pub within : is_within old above ≡ true
  pub after : superior (moved old new q) ≡ Some (moved old new above)

pub moves_with_superior : (old new q : Name) → 1 < length old → 1 < length new → is_within old q ≡ true → q ≢ old → MovesWithSuperior old new q
moves_with_superior old new [] h k e other = absurd (omega (arith, h, within_no_shorter old [] e))
moves_with_superior old new (deepest ∷ q) h k e other = by (within_cases old deepest q e)
  where
    by : (deepest ∷ q ≡ old) ⊎ (is_within old q ≡ true) → MovesWithSuperior old new (deepest ∷ q)
    by (inl same) = absurd (other same)
    by (inr rest) = record {
      above = q;
      before = superior_deeper deepest q (omega (arith, h, within_no_shorter old q rest));
      within = rest;
      after = ap superior (moved_deeper old new deepest q rest)
          ∙ superior_deeper deepest (moved old new q) (omega (arith, k, within_no_shorter new (moved old new q) (moved_within old new q rest)));
    }

pub superior_moved : (old new q : Name) → 1 < length old → 1 < length new → is_within old q ≡ true → q ≢ old → superior (moved old new q) ≡ option_map (moved old new) (superior q)
superior_moved old new q h k e other =
    let m = moves_with_superior old new q h k e other in
    m.after ∙ ap (option_map (moved old new)) (sym m.before)
