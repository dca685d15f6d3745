-- What names a mailbox in full reads back.
use Rattle.std.proofs.Common.{◌≡◌, ◌≢◌, ℕ, Bool, true, false, cond, not, List, [], ◌∷◌, ◌++◌, drop, length, Result, Ok, Err, Some, None, refl, sym, ap, subst, ◌∙◌, true≢false, arith}
use Rattle.std.specs.Prelude.{◌||◌, bytes_eq, codes}
use Rattle.std.specs.Str.{is_utf8}
use Rattle.std.proofs.lemmas.Bool.{false_from_ne_true}
use Rattle.std.proofs.lemmas.Slice.Eq.{bytes_eq-Decides}
use Rattle.imap_names.specs.declared.error.NameError.{NameError}
use Rattle.imap_names.specs.declared.error.NameError.TheVariants.{Control, Reserved}
use Rattle.imap_names.specs.Name.{Name, is_empty, path_of, root_of}
use Rattle.imap_names.specs.Reading.{NameParts, full_name_read, in_tree, parts_of, read_by, root_at}
use Rattle.imap_names.specs.Showing.{shown}
use Rattle.imap_nfc.specs.Nfc.{composed}
use Rattle.imap_names.specs.Text.{has_control}
use Rattle.imap_names.specs.UserName.{is_user_name}
use Rattle.imap_names.specs.Valid.{IsName}
use Rattle.imap_nfc.proofs.Nfc.{composed-nfc}
use Rattle.imap_names.proofs.PrefixLaws.{other_parts-user}
use Rattle.imap_names.proofs.ShownLaws.{owned_root, shown_reads_back}
use Rattle.imap_names.proofs.UserLaws.{UserNameFacts, undelimited-user, user_name_facts}
use Rattle.imap_records.specs.Columns.{tree_text}

-- ---- the text that names a mailbox in full

one_or_more : (r : List ℕ) → codes "u/" ++ r ≡ codes "s" → ⊥
one_or_more r e = omega (arith, ap length e)

more_than_one : (r : List ℕ) → codes "s" ≡ codes "u/" ++ r → ⊥
more_than_one r e = omega (arith, ap length e)

shared_by : (root path : List ℕ) (b : Bool) → is_empty root ≡ b → cond b (codes "s") (codes "u/" ++ root) ≡ codes "s" → is_empty root ≡ true
shared_by root path true hb e = hb
shared_by root path false hb e = absurd (one_or_more root e)

pub shown_shared : (name : Name) → tree_text name ≡ codes "s" → shown [] name ≡ codes "Shared/" ++ path_of name
shown_shared name e =
    ap (λ b. cond b (codes "Shared/" ++ path_of name) (cond (bytes_eq (root_of name) []) (path_of name) (codes "Other Users/" ++ (root_of name ++ 47 ∷ path_of name))))
    (shared_by (root_of name) (path_of name) (is_empty (root_of name)) refl e)

record IsOwned (root owner : List ℕ) : Type 0 where
  filled : is_empty root ≡ false
  same : root ≡ owner

owned_by : (root owner : List ℕ) (b : Bool) → is_empty root ≡ b → cond b (codes "s") (codes "u/" ++ root) ≡ codes "u/" ++ owner → IsOwned root owner
owned_by root owner true hb e = absurd (more_than_one owner e)
owned_by root owner false hb e = record { filled = hb; same = ap (drop 2) e }

not_none : (root : List ℕ) → is_empty root ≡ false → bytes_eq root [] ≡ false
not_none root filled = false_from_ne_true (bytes_eq root []) (λ e. true≢false (sym (ap is_empty ((bytes_eq-Decides root []).0 e)) ∙ filled))

pub shown_other : (name : Name) (owner : List ℕ) → tree_text name ≡ codes "u/" ++ owner → shown [] name ≡ codes "Other Users/" ++ (owner ++ 47 ∷ path_of name)
shown_other name owner e =
    let o = owned_by (root_of name) owner (is_empty (root_of name)) refl e in
    (λ i. cond (o.filled i) (codes "Shared/" ++ path_of name) (cond (not_none (root_of name) o.filled i) (path_of name) (codes "Other Users/" ++ (root_of name ++ 47 ∷ path_of name))))
    ∙ ap (λ r. codes "Other Users/" ++ (r ++ 47 ∷ path_of name)) o.same

pub no_tree : (tree : List ℕ) → tree ≢ codes "s" → ((owner : List ℕ) → tree ≢ codes "u/" ++ owner) → (name : Name) → tree_text name ≡ tree → ⊥
no_tree tree shared owned name e = by (is_empty (root_of name)) e
  where
    by : (b : Bool) → cond b (codes "s") (codes "u/" ++ root_of name) ≡ tree → ⊥
    by true h = shared (sym h)
    by false h = owned (root_of name) (sym h)

-- ---- it reads back

-- for a reader without a tree as for one whose tree it isn't
reads_alike : (text : List ℕ) → root_at None (parts_of text).namespace (composed (parts_of text).owner) ≡ root_at (Some []) (parts_of text).namespace (composed (parts_of text).owner)
    → read_by None text ≡ read_by (Some []) text
unfolding read_by
reads_alike text same =
    ap (λ r. cond (is_utf8 text) (cond (has_control (composed (parts_of text).owner) || has_control (composed (parts_of text).path)) (Err Control) (in_tree r (composed (parts_of text).path))) (Err Control)) same

alike_shared : (path : List ℕ) → read_by None (codes "Shared/" ++ path) ≡ read_by (Some []) (codes "Shared/" ++ path)
alike_shared path = reads_alike (codes "Shared/" ++ path) refl

alike_other : (root path : List ℕ) → is_user_name root ≡ true → is_empty root ≡ false → read_by None (codes "Other Users/" ++ (root ++ 47 ∷ path)) ≡ read_by (Some []) (codes "Other Users/" ++ (root ++ 47 ∷ path))
alike_other root path user filled =
    let facts : UserNameFacts root = user_name_facts root user in
    let parts = other_parts-user root path (undelimited-user root user) in
    reads_alike (codes "Other Users/" ++ (root ++ 47 ∷ path))
    (ap (λ (p : NameParts). root_at None p.namespace (composed p.owner)) parts
    ∙ ap (λ b. cond (b || not (is_user_name (composed root))) (Err Reserved) (Ok (composed root))) (sym (ap (λ r. bytes_eq r []) (composed-nfc root facts.utf8 facts.nfc) ∙ not_none root filled))
    ∙ sym (ap (λ (p : NameParts). root_at (Some []) p.namespace (composed p.owner)) parts))

pub full_reads_back : (name : Name) → IsName name → full_name_read (shown [] name) ≡ Ok name
full_reads_back name valid = alike (is_empty (root_of name)) refl ∙ shown_reads_back [] name valid
  where
    alike : (b : Bool) → is_empty (root_of name) ≡ b → read_by None (shown [] name) ≡ read_by (Some []) (shown [] name)
    alike true e =
        let text : shown [] name ≡ codes "Shared/" ++ path_of name =
        ap (λ b. cond b (codes "Shared/" ++ path_of name) (cond (bytes_eq (root_of name) []) (path_of name) (codes "Other Users/" ++ (root_of name ++ 47 ∷ path_of name)))) e in
        subst (λ t. read_by None t ≡ read_by (Some []) t) (sym text) (alike_shared (path_of name))
    alike false e =
        let text : shown [] name ≡ codes "Other Users/" ++ (root_of name ++ 47 ∷ path_of name) =
        (λ i. cond (e i) (codes "Shared/" ++ path_of name) (cond (not_none (root_of name) e i) (path_of name) (codes "Other Users/" ++ (root_of name ++ 47 ∷ path_of name)))) in
        subst (λ t. read_by None t ≡ read_by (Some []) t) (sym text) (alike_other (root_of name) (path_of name) (owned_root (root_of name) valid.tree e) e)

-- ---- what is read

abbrev name_or : Name → Result Name NameError → Name
name_or other (Ok name) = name
name_or other (Err error) = other

pub if_read : (text : List ℕ) (name other : Name) → full_name_read text ≡ Ok name → IsName other → text ≡ shown [] other → other ≡ name
if_read text name other read valid is = ap (name_or other) (sym (full_reads_back other valid) ∙ ap full_name_read (sym is) ∙ read)

pub never_fails : (text : List ℕ) (error : NameError) (other : Name) → full_name_read text ≡ Err error → IsName other → text ≡ shown [] other → ⊥
never_fails text error other read valid is = cc (sym (full_reads_back other valid) ∙ ap full_name_read (sym is) ∙ read)
