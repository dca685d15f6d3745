-- The names of numbers, once one was put.
use Rattle.std.proofs.Common.{◌≡◌, ℕ, ◌<◌, Bool, true, false, cond, List, [], ◌∷◌, ◌++◌, length, set, ltb, eqb, Option, Some, None, refl, sym, ap, ◌∙◌, arith}
use Rattle.std.proofs.lemmas.Bool.{eqb-true, eqb-false, ltb-true, ltb-false}
use Rattle.std.proofs.lemmas.List.{get_or-set_other, get_or-set_same, get_or_append_left, get_or_past, get_or_push, length-append}
use Rattle.imap_names.specs.Name.{Name}
use Rattle.imap_identifier_index.specs.Names.{name_at}

pub put_at : (names : List (Option Name)) (place : ℕ) (name : Option Name) → place < length names → (k : ℕ) → name_at (set names place name) k ≡ cond (eqb k place) name (name_at names k)
put_at names place name lt k = by (eqb k place) refl
  where
    by : (b : Bool) → eqb k place ≡ b → name_at (set names place name) k ≡ cond b name (name_at names k)
    by true e = ap (name_at (set names place name)) (eqb-true k place e) ∙ get_or-set_same names place name None lt
    by false e = get_or-set_other names place k name None (eqb-false k place e)

pub pushed_at : (names : List (Option Name)) (name : Name) (n : ℕ) → n ≡ length names → (k : ℕ) → name_at (names ++ Some name ∷ []) k ≡ cond (eqb k n) (Some name) (name_at names k)
pushed_at names name n is k = by (eqb k n) refl (ltb k n) refl
  where
    by : (b : Bool) → eqb k n ≡ b → (c : Bool) → ltb k n ≡ c → name_at (names ++ Some name ∷ []) k ≡ cond b (Some name) (name_at names k)
    by true e c f = get_or_push names (Some name) None k (sym is ∙ sym (eqb-true k n e))
    by false e true f = get_or_append_left names (Some name ∷ []) None k (let l : k < n = ltb-true k n f in omega (arith, l, is))
    by false e false f = at (ltb n k) refl
      where
        at : (d : Bool) → ltb n k ≡ d → name_at (names ++ Some name ∷ []) k ≡ name_at names k
        at true g =
            let past : n < k = ltb-true n k g in
            get_or_past (names ++ Some name ∷ []) k None (omega (arith, past, is, length-append names (Some name ∷ []))) ∙ sym (get_or_past names k None (omega (arith, past, is)))
        at false g = absurd (eqb-false k n e (omega (arith, ltb-false n k g, ltb-false k n f)))

pub none_past : (names : List (Option Name)) (n : ℕ) → n ≡ length names → name_at names n ≡ None
none_past names n is = get_or_past names n None (omega (arith, is))
