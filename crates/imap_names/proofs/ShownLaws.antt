-- What is shown reads back.
use Rattle.std.proofs.Common.{◌≡◌, ◌≢◌, ℕ, ◌≤◌, true, false, not, List, [], ◌∷◌, ◌++◌, length, refl, sym, ap, ◌∙◌, subst, inl, inr, arith, Option, Ok, None, Some}
use Rattle.std.specs.Prelude.{◌||◌, ◌&&◌, codes, bytes_eq}
use Rattle.std.specs.Str.{is_utf8}
use Rattle.std.specs.List.{list_any}
use Rattle.std.proofs.lemmas.Bool.{cases_Bool, cond-true, cond-false, or_from, le-ltb, eqb-true}
use Rattle.std.proofs.lemmas.Slice.Eq.{bytes_eq-Decides}
use Rattle.imap_names.specs.declared.read.Namespace.{Namespace}
use Rattle.imap_names.specs.declared.read.Namespace.TheVariants.{Personal, OtherUsers, Shared}
use Rattle.imap_names.specs.Name.{Name, name_of, root_of, components, path_of, is_empty}
use Rattle.imap_nfc.specs.Nfc.{composed}
use Rattle.imap_names.specs.Text.{components_of, has_control}
use Rattle.imap_names.specs.UserName.{is_user_name}
use Rattle.imap_names.specs.Reading.{NameParts, parts_of, root_at, path_fault, unless_fault, name_in, name_at, in_tree, read_by, name_read}
use Rattle.imap_names.specs.Showing.{shown}
use Rattle.imap_names.specs.Valid.{max_path_octets, max_depth, is_prefix_word, is_reserved, with_inbox, is_root, IsName}
use Rattle.imap_names.proofs.NameLaws.{name_of-parts}
use Rattle.imap_names.proofs.Parts.{HasFirst, components_of-first}
use Rattle.imap_names.proofs.PrefixLaws.{parts_of-personal, other_parts-user}
use Rattle.imap_nfc.proofs.Nfc.{composed-nfc}
use Rattle.imap_names.proofs.Composed.{composed-empty, has_control-empty, is_utf8-front, is_utf8-append, ascii_by_test}
use Rattle.imap_names.proofs.UserLaws.{UserNameFacts, user_name_facts, has_control-user, undelimited-user}

-- ---- a valid name has no fault

pub name_some : (name : Name) → IsName name → name ≢ []
name_some [] valid e = let clash : [] ∷ [] ≡ [] = valid.parted in cc
name_some (c ∷ cs) valid e = cc

path_fault-valid : (name : Name) → IsName name → path_fault (root_of name) (path_of name) ≡ None
path_fault-valid name valid =
    let parts : components_of (path_of name) ≡ components name = valid.parted in
    cond-false _ _ _ (ap (is_reserved (root_of name)) parts ∙ valid.unreserved)
    ∙ cond-false _ _ _ (ap (list_any is_empty) parts ∙ valid.filled)
    ∙ cond-false _ _ _ (le-ltb max_path_octets (length (path_of name)) valid.short)
    ∙ cond-false _ _ _ (le-ltb max_depth (length (components_of (path_of name))) (subst (λ p. length p ≤ max_depth) (sym parts) valid.shallow))

pub name_in-valid : (name : Name) → IsName name → name_in (root_of name) (path_of name) ≡ Ok name
name_in-valid name valid =
    let parts : components_of (path_of name) ≡ components name = valid.parted in
    ap (λ fault. unless_fault fault (name_of (root_of name) (with_inbox (components_of (path_of name))))) (path_fault-valid name valid)
    ∙ ap (λ p. Ok (name_of (root_of name) (with_inbox p))) parts
    ∙ ap (λ p. Ok (name_of (root_of name) p)) valid.inbox
    ∙ ap Ok (name_of-parts name (name_some name valid))

-- a text whose owner and path are in NFC, in a tree that may be named
name_at-valid : (own : Option (List ℕ)) (namespace : Namespace) (owner path : List ℕ) (root : List ℕ) → has_control owner ≡ false → has_control path ≡ false → root_at own namespace owner ≡ Ok root → name_at own namespace owner path ≡ name_in root path
name_at-valid own namespace owner path root h k at =
    cond-false _ _ _ (or_from _ _ h k) ∙ ap (λ r. in_tree r path) at

read_parts : (own : Option (List ℕ)) (text : List ℕ) (parts : NameParts) (name : Name) → IsName name → is_utf8 text ≡ true → parts_of text ≡ parts → composed parts.owner ≡ parts.owner → has_control parts.owner ≡ false → parts.path ≡ path_of name → root_at own parts.namespace parts.owner ≡ Ok (root_of name) → read_by own text ≡ Ok name
unfolding read_by
read_parts own text parts name valid utf8 at same printable path root =
    cond-true _ _ _ utf8
    ∙ ap (λ p. name_at own p.namespace (composed p.owner) (composed p.path)) at
    ∙ ap (λ o. name_at own parts.namespace o (composed parts.path)) same
    ∙ ap (λ p. name_at own parts.namespace parts.owner p) (ap composed path ∙ composed-nfc (path_of name) valid.utf8 valid.nfc)
    ∙ name_at-valid own parts.namespace parts.owner (path_of name) (root_of name) printable valid.printable root
    ∙ name_in-valid name valid

-- ---- the three namespaces

reads_shared : (user : List ℕ) (name : Name) → IsName name → root_of name ≡ [] → name_read user (codes "Shared/" ++ path_of name) ≡ Ok name
reads_shared user name valid shared =
    read_parts (Some user) _ (record { namespace = Shared; owner = []; path = path_of name }) name valid
    (is_utf8-front (codes "Shared/") (path_of name) (ascii_by_test (codes "Shared/") refl) valid.utf8) refl composed-empty has_control-empty refl (ap Ok (sym shared))

reads_own : (name : Name) → IsName name → is_empty (root_of name) ≡ false → name_read (root_of name) (path_of name) ≡ Ok name
reads_own name valid owned =
    let parts : HasFirst (components_of (path_of name)) = components_of-first (path_of name) in
    let free : is_prefix_word parts.first ≡ false =
    sym (ap (λ b. not b && is_prefix_word parts.first) owned)
    ∙ ap (is_reserved (root_of name)) (sym parts.are ∙ valid.parted) ∙ valid.unreserved in
    read_parts (Some (root_of name)) _ (record { namespace = Personal; owner = []; path = path_of name }) name valid
    valid.utf8 (parts_of-personal (path_of name) parts.first parts.more parts.are free) composed-empty has_control-empty refl refl

reads_other : (user : List ℕ) (name : Name) → IsName name → is_user_name (root_of name) ≡ true → bytes_eq (root_of name) user ≡ false → name_read user (codes "Other Users/" ++ (root_of name ++ 47 ∷ path_of name)) ≡ Ok name
reads_other user name valid owned other =
    let facts : UserNameFacts (root_of name) = user_name_facts (root_of name) owned in
    read_parts (Some user) _ (record { namespace = OtherUsers; owner = root_of name; path = path_of name }) name valid
    (is_utf8-front (codes "Other Users/") _ (ascii_by_test (codes "Other Users/") refl)
    (is_utf8-append (root_of name) (47 ∷ path_of name) facts.utf8
    (is_utf8-front (47 ∷ []) (path_of name) (ascii_by_test (47 ∷ []) refl) valid.utf8)))
    (other_parts-user (root_of name) (path_of name) (undelimited-user (root_of name) owned))
    (composed-nfc (root_of name) facts.utf8 facts.nfc)
    (has_control-user (root_of name) owned)
    refl
    (cond-false _ _ _ (or_from _ _ other (ap not owned)))

pub empty_is : (text : List ℕ) → is_empty text ≡ true → text ≡ []
empty_is [] h = refl
empty_is (c ∷ cs) h = let none : length (c ∷ cs) ≡ 0 = eqb-true (length (c ∷ cs)) 0 h in absurd (omega arith)

pub owned_root : (root : List ℕ) → is_root root ≡ true → is_empty root ≡ false → is_user_name root ≡ true
owned_root root h owned = sym (ap (λ b. b || is_user_name root) owned) ∙ h

pub shown_reads_back : (user : List ℕ) (name : List (List ℕ)) → IsName name → name_read user (shown user name) ≡ Ok name
shown_reads_back user name valid =
    elim (cases_Bool (is_empty (root_of name))) [
      | inl shared ↦ ap (name_read user) (cond-true _ _ _ shared) ∙ reads_shared user name valid (empty_is (root_of name) shared)
      | inr owned ↦
          ap (name_read user) (cond-false _ _ _ owned)
          ∙ elim (cases_Bool (bytes_eq (root_of name) user)) [
            | inl own ↦
                ap (name_read user) (cond-true _ _ _ own)
                ∙ ap (λ u. name_read u (path_of name)) (sym ((bytes_eq-Decides (root_of name) user).0 own))
                ∙ reads_own name valid owned
            | inr other ↦
                ap (name_read user) (cond-false _ _ _ other)
                ∙ reads_other user name valid (owned_root (root_of name) valid.tree owned) other
          ]
    ]

-- ---- the text, by the root and the path of the name

module _ (user : List ℕ) (name : Name) (root path : List ℕ) (r : root_of name ≡ root) (p : path_of name ≡ path) where
  pub shown-shared : is_empty root ≡ true → shown user name ≡ codes "Shared/" ++ path
  shown-shared shared = cond-true _ _ _ (ap is_empty r ∙ shared) ∙ ap (λ z. codes "Shared/" ++ z) p

  pub shown-own : is_empty root ≡ false → bytes_eq root user ≡ true → shown user name ≡ path
  shown-own owned own =
      cond-false _ _ _ (ap is_empty r ∙ owned) ∙ cond-true _ _ _ (ap (λ z. bytes_eq z user) r ∙ own) ∙ p

  pub shown-other : is_empty root ≡ false → bytes_eq root user ≡ false → shown user name ≡ codes "Other Users/" ++ (root ++ 47 ∷ path)
  shown-other owned other =
      cond-false _ _ _ (ap is_empty r ∙ owned) ∙ cond-false _ _ _ (ap (λ z. bytes_eq z user) r ∙ other)
      ∙ ap (λ z. codes "Other Users/" ++ (z ++ 47 ∷ path_of name)) r ∙ ap (λ z. codes "Other Users/" ++ (root ++ 47 ∷ z)) p

-- two names that are shown alike are one
pub shown-same : (user : List ℕ) (m n : Name) → IsName m → IsName n → shown user m ≡ shown user n → m ≡ n
shown-same user m n p q e =
    let same : Ok m ≡ Ok n = sym (shown_reads_back user m p) ∙ ap (name_read user) e ∙ shown_reads_back user n q in cc
