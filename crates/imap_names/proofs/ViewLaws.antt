-- The parts of a name, by the texts of its root and its path.
use Rattle.std.proofs.Common.{◌≡◌, ◌≢◌, ℕ, ◌+◌, Bool, true, false, cond, not, List, [], ◌∷◌, ◌++◌, length, reverse, Some, None, sym, ap, ◌∙◌, arith}
use Rattle.std.specs.Prelude.{◌↔◌, ◌&&◌, codes, nat_eq, bytes_eq}
use Rattle.std.specs.List.{starts_with}
use Rattle.std.proofs.lemmas.List.{append_cancel_left, length-append, length-reverse}
use Rattle.std.proofs.lemmas.Slice.Eq.{bytes_eq-Decides}
use Rattle.imap_names.specs.Name.{Name, name_of, root_of, path_of, owner, is_empty, is_inbox, IsAbove}
use Rattle.imap_names.specs.Text.{components_of}
use Rattle.imap_names.proofs.NameLaws.{root_of-name_of}
use Rattle.imap_names.proofs.Parts.{path_of-text, name_of-text}
use Rattle.imap_names.proofs.AboveLaws.{IsAbove-joined, joined-IsAbove, goes_on}

-- the name m is the path p below the root r
module _ (r p : List ℕ) (m : Name) (e : name_of r (components_of p) ≡ m) where
  pub root_is : root_of m ≡ r
  root_is = ap root_of (sym e) ∙ root_of-name_of r (components_of p)

  pub path_is : path_of m ≡ p
  path_is = ap path_of (sym e) ∙ path_of-text r p

  pub length_is : length m ≡ length (components_of p) + 1
  length_is = omega (arith, ap length (sym e), length-append (reverse (components_of p)) (r ∷ []), length-reverse (components_of p))

  pub owner_is : (b : Bool) → b ≡ is_empty r → cond b None (Some r) ≡ owner m
  owner_is b h = (λ i. cond (h i) None (Some r)) ∙ ap (λ z. cond (is_empty z) None (Some z)) (sym root_is)

  pub inbox_is : (b : Bool) → b ≡ is_empty r → (c : Bool) → c ≡ bytes_eq p (codes "INBOX") → (not b && c) ≡ is_inbox m
  inbox_is b h c k = (λ i. not (h i) && k i) ∙ (λ i. not (is_empty (sym root_is i)) && bytes_eq (sym path_is i) (codes "INBOX"))

  -- and n is the path q below the root s
  module _ (s q : List ℕ) (n : Name) (d : name_of s (components_of q) ≡ n) where
    -- they are equal if root and path are
    pub same_texts : (a : Bool) → a ≡ bytes_eq r s → (b : Bool) → b ≡ bytes_eq p q → (cond a b false ≡ true) ↔ (m ≡ n)
    same_texts a h b k = (forth a h b k, back)
      where
        forth : (a : Bool) → a ≡ bytes_eq r s → (b : Bool) → b ≡ bytes_eq p q → cond a b false ≡ true → m ≡ n
        forth true h b k t =
            let root : r ≡ s = (bytes_eq-Decides r s).0 (sym h) in
            let path : p ≡ q = (bytes_eq-Decides p q).0 (sym k ∙ t) in
            sym e ∙ (λ i. name_of (root i) (components_of (path i))) ∙ d
        forth false h b k t = cc

        back : m ≡ n → cond a b false ≡ true
        back same =
            let texts = name_of-text r s p q (e ∙ same ∙ sym d) in
            (λ i. cond (h i) (k i) false)
            ∙ (λ i. cond ((bytes_eq-Decides r s).1 texts.0 i) (bytes_eq p q) false) ∙ (bytes_eq-Decides p q).1 texts.1

    -- m is above n if they have one root and n's path goes on after a delimiter
    above_from : r ≡ s → (rest : List ℕ) → q ≡ p ++ 47 ∷ rest → IsAbove m n
    above_from root rest path =
        let above : IsAbove (name_of r (components_of p)) (name_of r (components_of (p ++ 47 ∷ rest))) = IsAbove-joined r p rest in (
          above.0,
          above.1,
          sym d ∙ ap (λ z. name_of z (components_of q)) (sym root) ∙ ap (λ z. name_of r (components_of z)) path ∙ above.2
              ∙ ap (λ z. above.0 ∷ above.1 ++ z) e,
        )

    above_to : IsAbove m n → (r ≡ s) × ((rest : List ℕ) × (q ≡ p ++ 47 ∷ rest))
    above_to above = joined-IsAbove r s p q (above.0, above.1, d ∙ above.2 ∙ ap (λ z. above.0 ∷ above.1 ++ z) (sym e))

    pub above_answer : r ≡ s → (rest : List ℕ) → q ≡ p ++ rest → (b : Bool) → b ≡ starts_with nat_eq rest (codes "/") → (b ≡ true) ↔ IsAbove m n
    above_answer root rest path b h =
        let answer = goes_on rest b h in (
          λ t. let slash = answer.0 t in above_from root slash.0 (path ∙ ap (λ z. p ++ z) slash.1),
          λ above.
              let paths = (above_to above).1 in
              answer.1 (paths.0, append_cancel_left p rest (47 ∷ paths.0) (sym path ∙ paths.1)),
        )

    pub above_never : ((rest : List ℕ) → q ≢ p ++ rest) → ¬ (IsAbove m n)
    above_never never above = let parts = (above_to above).1 in never (47 ∷ parts.0) parts.1
