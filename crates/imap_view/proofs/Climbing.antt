-- What is made with a name, by what is made with its superior.
use Rattle.std.proofs.Common.{◌≡◌, Bool, true, false, cond, ◌&&◌, ◌||◌, List, [], ◌∷◌, ◌++◌, Option, Some, None, refl, ap, ◌∙◌}
use Rattle.std.specs.Prelude.{nat_lt, unwrap_or}
use Rattle.std.proofs.lemmas.List.Folds.{list_all-append}
use Rattle.imap_names.specs.Name.{Name, superior}
use Rattle.imap_world.specs.World.{epoch, max_validity}
use Rattle.imap_view.specs.Seen.{is_root}
use Rattle.imap_view.specs.TreeAfter.{is_known, missing_in, validities_left}
use Rattle.imap_view.specs.View.{View}

pub and_true : (b : Bool) → (b && true) ≡ b
and_true true = refl
and_true false = refl

pub and_false : (b : Bool) → (b && false) ≡ false
and_false true = refl
and_false false = refl

module _ (view : View) where
  abbrev pub is_left : Name → Bool
  is_left name = nat_lt (epoch view.epochs name) max_validity

  one_more : (known : Bool) (outer : List Name) (name : Name) → validities_left view (cond known [] (outer ++ name ∷ [])) ≡ (known || (validities_left view outer && is_left name))
  one_more true outer name = refl
  one_more false outer name = list_all-append is_left outer (name ∷ []) ∙ ap (λ b. validities_left view outer && b) (and_true (is_left name))

  pub left_below : (name above : Name) → superior name ≡ Some above
      → validities_left view (missing_in view name) ≡ (is_known view name || (validities_left view (missing_in view above) && is_left name))
  left_below [] above is = absurd (cc is)
  left_below (root ∷ []) above is = absurd (cc is)
  left_below (outermost ∷ root ∷ []) above is = absurd (cc is)
  left_below (deepest ∷ first ∷ next ∷ more) above is =
      one_more (is_known view (deepest ∷ first ∷ next ∷ more)) (missing_in view (first ∷ next ∷ more)) (deepest ∷ first ∷ next ∷ more)
      ∙ ap (λ (o : Option Name). is_known view (deepest ∷ first ∷ next ∷ more) || (validities_left view (missing_in view (unwrap_or o above)) && is_left (deepest ∷ first ∷ next ∷ more))) is

  pub left_first : (name : Name) → is_root name ≡ false → superior name ≡ None
      → validities_left view (missing_in view name) ≡ (is_known view name || (true && is_left name))
  left_first [] below is = absurd (cc below)
  left_first (root ∷ []) below is = absurd (cc below)
  left_first (outermost ∷ root ∷ []) below is = one_more (is_known view (outermost ∷ root ∷ [])) [] (outermost ∷ root ∷ [])
  left_first (deepest ∷ first ∷ next ∷ more) below is = absurd (cc is)
