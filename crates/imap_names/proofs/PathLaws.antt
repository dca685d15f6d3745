-- From a path by the rules to a name.
use Rattle.std.proofs.Common.{◌≡◌, ℕ, ◌≤◌, Bool, true, false, cond, List, [], ◌∷◌, length, refl, sym, ap, ◌∙◌, subst, arith, Option, Some, None}
use Rattle.std.specs.Prelude.{chars, nat_lt}
use Rattle.std.specs.Str.{is_utf8}
use Rattle.std.specs.List.{list_any}
use Rattle.std.proofs.lemmas.Bool.{ltb-false, ltb-true, lt-ltb}
use Rattle.unicode_normalization.specs.Forms.{is_nfc}
use Rattle.imap_names.specs.declared.error.NameError.{NameError}
use Rattle.imap_names.specs.Name.{Name, name_of, root_of, components, path_of, is_empty}
use Rattle.imap_names.specs.Text.{components_of, has_control}
use Rattle.imap_names.specs.Valid.{max_path_octets, max_depth, is_reserved, with_inbox, is_root, IsName}
use Rattle.imap_names.specs.Reading.{path_fault}
use Rattle.imap_names.proofs.NameLaws.{root_of-name_of, components-name_of, name_of-parts}
use Rattle.imap_names.proofs.Parts.{path_of-text}

-- the path breaks no rule of the tree
pub record KeepsRules (root path : List ℕ) : Type 0 where
  pub unreserved : is_reserved root (components_of path) ≡ false
  pub filled : list_any is_empty (components_of path) ≡ false
  pub short : length path ≤ max_path_octets
  pub shallow : length (components_of path) ≤ max_depth

-- and it is NFC text without controls
pub record IsText (path : List ℕ) : Type 0 where
  pub utf8 : is_utf8 path ≡ true
  pub nfc : is_nfc (chars path) ≡ true
  pub printable : has_control path ≡ false

pub IsName-from : (root path : List ℕ) → is_root root ≡ true → KeepsRules root path → IsText path → with_inbox (components_of path) ≡ components_of path → IsName (name_of root (components_of path))
IsName-from root path tree rules text inbox =
    let r : root_of (name_of root (components_of path)) ≡ root = root_of-name_of root (components_of path) in
    let c : components (name_of root (components_of path)) ≡ components_of path = components-name_of root (components_of path) in
    let p : path_of (name_of root (components_of path)) ≡ path = path_of-text root path in
    record {
      tree = ap is_root r ∙ tree;
      parted = ap components_of p ∙ sym c;
      filled = ap (list_any is_empty) c ∙ rules.filled;
      shallow = subst (λ (z : List (List ℕ)). length z ≤ max_depth) (sym c) rules.shallow;
      short = subst (λ (z : List ℕ). length z ≤ max_path_octets) (sym p) rules.short;
      utf8 = ap is_utf8 p ∙ text.utf8;
      nfc = ap (λ z. is_nfc (chars z)) p ∙ text.nfc;
      printable = ap has_control p ∙ text.printable;
      unreserved = ap (λ z. is_reserved z (components (name_of root (components_of path)))) r ∙ ap (is_reserved root) c ∙ rules.unreserved;
      inbox = ap with_inbox c ∙ inbox ∙ sym c;
    }

-- one test of the rules
passed : (b : Bool) (error : NameError) (rest : Option NameError) → cond b (Some error) rest ≡ None → (b ≡ false) × (rest ≡ None)
passed true error rest h = cc
passed false error rest h = (refl, h)

pub path_fault-none : (root path : List ℕ) → path_fault root path ≡ None → KeepsRules root path
path_fault-none root path h =
    let a = passed (is_reserved root (components_of path)) _ _ h in
    let b = passed (list_any is_empty (components_of path)) _ _ a.1 in
    let c = passed (nat_lt max_path_octets (length path)) _ _ b.1 in
    let d = passed (nat_lt max_depth (length (components_of path))) _ _ c.1 in
    record {
      unreserved = a.0;
      filled = b.0;
      short = ltb-false max_path_octets (length path) c.0;
      shallow = ltb-false max_depth (length (components_of path)) d.0;
    }

-- ---- the parts of a name

-- it has a root and a component
pub has_component : (name : Name) → IsName name → nat_lt 1 (length name) ≡ true
has_component [] valid = let clash : [] ∷ [] ≡ [] = valid.parted in cc
has_component (root ∷ []) valid = let clash : [] ∷ [] ≡ [] = valid.parted in cc
has_component (part ∷ root ∷ more) valid = lt-ltb 1 (length (part ∷ root ∷ more)) (omega arith)

-- it is its path below its root
pub name_of-valid : (name : Name) (root path : List ℕ) → IsName name → root ≡ root_of name → path ≡ path_of name → name_of root (components_of path) ≡ name
name_of-valid name root path valid r p =
    (λ i. name_of (r i) (components_of (p i)))
    ∙ ap (name_of (root_of name)) valid.parted
    ∙ name_of-parts name (λ e. let long = ltb-true 1 (length name) (has_component name valid) in omega (arith, long, ap length e))
