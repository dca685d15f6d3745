-- What a turn of a part of a list makes of the whole.
use Rattle.std.proofs.Common.{◌≡◌, ℕ, ◌+◌, ◌-◌, ◌<◌, ◌≤◌, List, [], ◌∷◌, ◌++◌, length, take, drop, get_or, set, refl, sym, ap, ◌∙◌, arith, append-nil}
use Rattle.std.proofs.lemmas.List.{length_push, length-set, drop-drop, drop-take, drop_all, take_all, length-drop}
use borrow.Rule.Slice.PartMut.{mid_of, put_mid}
use Rattle.imap_names.specs.Name.{Name}
use Rattle.imap_name_map.specs.Renaming.{with_names}

module _ {X : Type 0} where
  part_to_end : (xs : List X) (a : ℕ) → a ≤ length xs → mid_of a (length xs - a) xs ≡ drop a xs
  part_to_end xs a h = take_all (length xs - a) (drop a xs) (let e = length-drop a xs in omega (arith, e))

  whole : (xs ys : List X) (a : ℕ) → a ≤ length xs → put_mid a (length xs - a) xs ys ≡ take a xs ++ ys
  whole xs ys a h = ap (λ l. take a xs ++ (ys ++ l)) (drop_all (length xs - a) (drop a xs) (let e = length-drop a xs in omega (arith, e))) ∙ ap (λ l. take a xs ++ l) (append-nil ys)

  later : (xs : List X) (a b : ℕ) → a ≤ b → drop (b - a) (drop a xs) ≡ drop b xs
  later xs a b h = drop-drop (b - a) a xs ∙ ap (λ n. drop n xs) (let e : a + (b - a) ≡ b = omega (arith, h) in e)

  between : (xs : List X) (a b : ℕ) → a ≤ b → take (b - a) (drop a xs) ≡ drop a (take b xs)
  between xs a b h = sym (drop-take a (b - a) xs) ∙ ap (λ n. drop a (take n xs)) (let e : a + (b - a) ≡ b = omega (arith, h) in e)

  pub turned_left : (xs ys : List X) (a b : ℕ) → a ≤ b → b ≤ length xs
      → ys ≡ drop (b - a) (mid_of a (length xs - a) xs) ++ take (b - a) (mid_of a (length xs - a) xs)
      → put_mid a (length xs - a) xs ys ≡ take a xs ++ (drop b xs ++ drop a (take b xs))
  turned_left xs ys a b h w is =
      whole xs ys a (omega (arith, h, w))
      ∙ ap (λ l. take a xs ++ l) (is ∙ ap (λ l. drop (b - a) l ++ take (b - a) l) (part_to_end xs a (omega (arith, h, w))) ∙ (λ i. later xs a b h i ++ between xs a b h i))

  pub turned_right : (xs ys : List X) (a n : ℕ) → a + n ≤ length xs
      → ys ≡ drop (length (mid_of a (length xs - a) xs) - n) (mid_of a (length xs - a) xs) ++ take (length (mid_of a (length xs - a) xs) - n) (mid_of a (length xs - a) xs)
      → put_mid a (length xs - a) xs ys ≡ take a xs ++ (drop (length xs - n) xs ++ drop a (take (length xs - n) xs))
  turned_right xs ys a n h is =
      let size : length (drop a xs) - n ≡ (length xs - n) - a = (let e = length-drop a xs in omega (arith, e, h)) in
      let le : a ≤ length xs - n = omega (arith, h) in
      whole xs ys a (omega (arith, h))
      ∙ ap (λ l. take a xs ++ l) (is ∙ ap (λ l. drop (length l - n) l ++ take (length l - n) l) (part_to_end xs a (omega (arith, h)))
      ∙ ap (λ m. drop m (drop a xs) ++ take m (drop a xs)) size ∙ (λ i. later xs a (length xs - n) le i ++ between xs a (length xs - n) le i))

  -- one name more from the end
  pub names_more : (names : List Name) (name : Name) (es : List (Name × X)) (d : Name × X) → length names < length es → with_names names (set es (length names) (name, (get_or es (length names) d).1)) ≡ with_names (names ++ name ∷ []) es
  names_more [] name [] d h = absurd (omega (arith, h))
  names_more [] name (e ∷ es) d h = refl
  names_more (n ∷ names) name [] d h = absurd (omega (arith, h))
  names_more (n ∷ names) name (e ∷ es) d h = ap (λ l. (n, e.1) ∷ l) (names_more names name es d (omega (arith, h)))

  pub record IsPopped (es : List (Name × X)) (names rest : List Name) (name : Name) (x : Name × X) (at : ℕ) : Type 0 where
    pub made : with_names rest (set es at (name, (get_or es at x).1)) ≡ with_names names es
    pub fit : length rest ≤ length (set es at (name, (get_or es at x).1))
    pub same : length (set es at (name, (get_or es at x).1)) ≡ length es

  pub popped : (es : List (Name × X)) (names rest : List Name) (name : Name) (x : Name × X) (at : ℕ) → names ≡ rest ++ name ∷ [] → length names ≤ length es → at ≡ length rest → IsPopped es names rest name x at
  popped es names rest name x at is fits there =
      let n = ap length is ∙ length_push rest name in
      let within : length rest < length es = omega (arith, n, fits) in
      record {
        made = (λ i. with_names rest (set es (there i) (name, (get_or es (there i) x).1))) ∙ names_more rest name es x within ∙ ap (λ l. with_names l es) (sym is);
        fit = (let l = length-set es at (name, (get_or es at x).1) in omega (arith, l, within));
        same = length-set es at (name, (get_or es at x).1);
      }
