-- Look-ups in maps by name, and the parts of a name.
use Rattle.std.proofs.Common.{◌≡◌, ◌≢◌, ℕ, Bool, true, cond, List, [], ◌∷◌, ◌++◌, reverse, Some, None, refl, sym, ap, ◌∙◌}
use Rattle.std.proofs.lemmas.List.{reverse-append, reverse-reverse}
use Rattle.std.specs.Cmp.{tied_itself}
use Rattle.std.specs.Ordering.{eq_by_cmp, is_eq}
use Rattle.std.specs.FinMap as map
use Rattle.std.specs.FinMap.{find, get-insert, get-remove, get-retain_keys, get-from_entries, from_entries_push, same_map}
use Rattle.imap_names.specs.Name.{Name, name_of, root_of, components}
use Rattle.imap_names.specs.Order.{Names, name_cmp}
use Rattle.imap_names.proofs.OrderLaws.{name_total, name_antisymmetric, tied}

abbrev pub is_name_at : Name → Name → Bool
is_name_at = eq_by_cmp name_cmp

pub equal_names : (m n : Name) → is_name_at m n ≡ true → m ≡ n
equal_names m n e = name_antisymmetric m n (tied _ e)

pub is_name_at-same : (m : Name) → is_name_at m m ≡ true
is_name_at-same m = ap is_eq (tied_itself name_total m)

-- ---- maps by name

pub same_names : {X : Type 0} (m n : Names X) → ((q : Name) → map.get m q ≡ map.get n q) → m ≡ n
same_names m n h = same_map name_total name_antisymmetric m n h

pub get_put : {X : Type 0} (m : Names X) (k : Name) (x : X) (q : Name) → map.get (map.insert m k x) q ≡ cond (is_name_at q k) (Some x) (map.get m q)
get_put m k x q = get-insert name_total m k x q

pub get_without : {X : Type 0} (m : Names X) (k q : Name) → map.get (map.remove m k) q ≡ cond (is_name_at q k) None (map.get m q)
get_without m k q = get-remove name_total m k q

pub get_where : {X : Type 0} (m : Names X) (p : Name → Bool) (q : Name) → map.get (map.retain_keys m p) q ≡ cond (p q) (map.get m q) None
get_where m p q = get-retain_keys m p q (λ x t. ap p (sym (name_antisymmetric q x t)))

pub get_listed : {X : Type 0} (es : List (Name × X)) (q : Name) → map.get (map.from_entries {R = name_cmp} es) q ≡ find name_cmp q es
get_listed es q = get-from_entries name_total es q

pub from_entries_push_name : {X : Type 0} (es : List (Name × X)) (k : Name) (x : X) → find name_cmp k es ≡ None → map.from_entries {R = name_cmp} (es ++ (k, x) ∷ []) ≡ map.insert (map.from_entries es) k x
from_entries_push_name es k x absent = from_entries_push name_total name_antisymmetric es k x absent

-- ---- the parts of a name

pub root_of-push : (front : Name) (root : List ℕ) → root_of (front ++ root ∷ []) ≡ root
root_of-push [] root = refl
root_of-push (c ∷ []) root = refl
root_of-push (c ∷ d ∷ more) root = root_of-push (d ∷ more) root

pub root_of-name_of : (root : List ℕ) (parts : List (List ℕ)) → root_of (name_of root parts) ≡ root
root_of-name_of root parts = root_of-push (reverse parts) root

pub components-push : (front : Name) (root : List ℕ) → components (front ++ root ∷ []) ≡ reverse front
components-push [] root = refl
components-push (c ∷ []) root = refl
components-push (c ∷ d ∷ more) root =
    ap (λ parts. parts ++ c ∷ []) (components-push (d ∷ more) root) ∙ sym (reverse-append (c ∷ []) (d ∷ more))

pub components-name_of : (root : List ℕ) (parts : List (List ℕ)) → components (name_of root parts) ≡ parts
components-name_of root parts = components-push (reverse parts) root ∙ reverse-reverse parts

-- a name is its components below its root
pub name_of-parts : (name : Name) → name ≢ [] → name_of (root_of name) (components name) ≡ name
name_of-parts [] some = absurd (some refl)
name_of-parts (root ∷ []) some = refl
name_of-parts (deepest ∷ above ∷ more) some =
    ap (λ front. front ++ root_of (above ∷ more) ∷ []) (reverse-append (components (above ∷ more)) (deepest ∷ []))
    ∙ ap (λ rest. deepest ∷ rest) (name_of-parts (above ∷ more) (λ e. cc))

-- two names with one root and one list of components are one
pub name_of-same : (r s : List ℕ) (xs ys : List (List ℕ)) → name_of r xs ≡ name_of s ys → (r ≡ s) × (xs ≡ ys)
name_of-same r s xs ys e =
    (sym (root_of-name_of r xs) ∙ ap root_of e ∙ root_of-name_of s ys, sym (components-name_of r xs) ∙ ap components e ∙ components-name_of s ys)
