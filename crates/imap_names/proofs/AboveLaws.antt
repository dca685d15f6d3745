-- Superiors, by their paths.
use Rattle.std.proofs.Common.{◌≡◌, ◌≢◌, ℕ, ◌+◌, ◌<◌, Bool, true, List, [], ◌∷◌, ◌++◌, length, drop, reverse, refl, sym, ap, ◌∙◌, append_assoc, arith}
use Rattle.std.specs.Prelude.{◌↔◌, codes, nat_eq}
use Rattle.std.specs.List.{join_with_byte, starts_with}
use Rattle.std.proofs.lemmas.List.{reverse-append, reverse-reverse, length-append}
use Rattle.imap_names.specs.Name.{Name, name_of, root_of, IsAbove}
use Rattle.imap_names.specs.Text.{components_of}
use Rattle.imap_names.proofs.PrefixLaws.{begins}
use Rattle.imap_names.proofs.NameLaws.{name_of-same}
use Rattle.imap_names.proofs.Parts.{HasFirst, components_of-first, components_of-joined, join-append, join-components_of}

push_first : (xs : List (List ℕ)) (y : List ℕ) → HasFirst (xs ++ y ∷ [])
push_first [] y = record { first = y; more = []; are = refl }
push_first (x ∷ xs) y = record { first = x; more = xs ++ y ∷ []; are = refl }

pub reverse_first : (xs : List (List ℕ)) → HasFirst xs → HasFirst (reverse xs)
reverse_first xs h =
    let last : HasFirst (reverse h.more ++ h.first ∷ []) = push_first (reverse h.more) h.first in
    record { first = last.first; more = last.more; are = ap reverse h.are ∙ reverse-append (h.first ∷ []) h.more ∙ last.are }

pub IsAbove-joined : (root path rest : List ℕ) → IsAbove (name_of root (components_of path)) (name_of root (components_of (path ++ 47 ∷ rest)))
IsAbove-joined root path rest =
    let below : HasFirst (reverse (components_of rest)) = reverse_first (components_of rest) (components_of-first rest) in (
      below.first,
      below.more,
      ap (name_of root) (components_of-joined path rest)
          ∙ ap (λ z. z ++ root ∷ []) (reverse-append (components_of path) (components_of rest))
          ∙ append_assoc (reverse (components_of rest)) (reverse (components_of path)) (root ∷ [])
          ∙ ap (λ z. z ++ (reverse (components_of path) ++ root ∷ [])) below.are,
    )

pub join-two : (xs ys : List (List ℕ)) → HasFirst xs → HasFirst ys → join_with_byte 47 (xs ++ ys) ≡ join_with_byte 47 xs ++ 47 ∷ join_with_byte 47 ys
join-two xs ys h k =
    ap (λ z. join_with_byte 47 (z ++ ys)) h.are
    ∙ ap (λ z. join_with_byte 47 ((h.first ∷ h.more) ++ z)) k.are
    ∙ join-append h.first h.more k.first k.more
    ∙ ap (λ z. join_with_byte 47 z ++ 47 ∷ join_with_byte 47 (k.first ∷ k.more)) (sym h.are)
    ∙ ap (λ z. join_with_byte 47 xs ++ 47 ∷ join_with_byte 47 z) (sym k.are)

pub joined-IsAbove : (r s path text : List ℕ) → IsAbove (name_of r (components_of path)) (name_of s (components_of text)) → (r ≡ s) × ((rest : List ℕ) × (text ≡ path ++ 47 ∷ rest))
joined-IsAbove r s path text above =
    let front : List (List ℕ) = above.0 ∷ above.1 in
    let whole : name_of s (components_of text) ≡ name_of r (components_of path ++ reverse front) =
    above.2
    ∙ sym (append_assoc front (reverse (components_of path)) (r ∷ []))
    ∙ ap (λ z. (z ++ reverse (components_of path)) ++ r ∷ []) (sym (reverse-reverse front))
    ∙ ap (λ z. z ++ r ∷ []) (sym (reverse-append (components_of path) (reverse front))) in
    let parts = name_of-same s r (components_of text) (components_of path ++ reverse front) whole in
    let below : HasFirst (reverse front) = reverse_first front (record { first = above.0; more = above.1; are = refl }) in (
      sym parts.0,
      (
        join_with_byte 47 (reverse front),
        sym (join-components_of text) ∙ ap (join_with_byte 47) parts.1
            ∙ join-two (components_of path) (reverse front) (components_of-first path) below
            ∙ ap (λ z. z ++ 47 ∷ join_with_byte 47 (reverse front)) (join-components_of path),
      ),
    )

-- what follows a front begins with a delimiter
pub goes_on : (rest : List ℕ) (r : Bool) → r ≡ starts_with nat_eq rest (codes "/") → (r ≡ true) ↔ ((more : List ℕ) × (rest ≡ 47 ∷ more))
goes_on rest r h = (
  λ t. (drop 1 rest, begins rest (codes "/") (sym h ∙ t)),
  λ (more, e). h ∙ ap (λ z. starts_with nat_eq z (codes "/")) e,
)

-- ---- superiors, by their components

pub root_of-above : (front : List (List ℕ)) (name : Name) → name ≢ [] → root_of (front ++ name) ≡ root_of name
root_of-above [] name some = refl
root_of-above (part ∷ front) [] some = absurd (some refl)
root_of-above (part ∷ []) (deepest ∷ name) some = refl
root_of-above (part ∷ next ∷ front) (deepest ∷ name) some = root_of-above (next ∷ front) (deepest ∷ name) some

pub IsAbove-trans : (a b c : Name) → IsAbove a b → IsAbove b c → IsAbove a c
IsAbove-trans a b c h k =
    (k.0, k.1 ++ h.0 ∷ h.1, k.2 ∙ ap (λ z. k.0 ∷ k.1 ++ z) h.2 ∙ ap (λ z. k.0 ∷ z) (sym (append_assoc k.1 (h.0 ∷ h.1) a)))

pub IsAbove-length : (a b : Name) → IsAbove a b → length a < length b
IsAbove-length a b h =
    let n : length b ≡ length (h.0 ∷ h.1 ++ a) = ap length h.2 in
    let m : length (h.0 ∷ h.1 ++ a) ≡ length (h.0 ∷ h.1) + length a = length-append (h.0 ∷ h.1) a in
    omega (arith, n, m)

-- no name is above itself
pub IsAbove-self : (a : Name) → ¬ (IsAbove a a)
IsAbove-self a h = let l : length a < length a = IsAbove-length a a h in omega arith
