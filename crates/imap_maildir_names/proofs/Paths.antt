-- The path of a folder, part by part.
use Rattle.std.proofs.Common.{◌≡◌, ◌∙◌, ap, sym, ℕ, true, cond, List, ◌∷◌, ◌++◌, append_assoc, flat_map}
use Rattle.std.specs.Prelude.{codes}
use Rattle.imap_names.specs.Name.{Name, components, path_of, root_of}
use Rattle.imap_names.specs.Text.{components_of}
use Rattle.imap_names.specs.UserName.{is_user_name}
use Rattle.imap_names.specs.Valid.{IsName}
use Rattle.imap_names.proofs.UserLaws.{is_empty-user}
use Rattle.imap_maildir_names.specs.Folders.{folder_path, tree_path}
use Rattle.imap_maildir_names.specs.Levels.{level_path}

pub user_path : (old mid new given owner : List ℕ) → is_user_name owner ≡ true → mid ≡ old ++ codes "/Other Users"
    → new ≡ mid ++ level_path given → given ≡ owner → new ≡ old ++ 47 ∷ tree_path owner
user_path old mid new given owner user e f g =
    f ∙ ap (λ l. l ++ level_path given) e ∙ append_assoc old (codes "/Other Users") (level_path given)
    ∙ ap (λ l. old ++ (codes "/Other Users" ++ level_path l)) g
    ∙ ap (λ b. old ++ 47 ∷ cond b (codes "Shared") (codes "Other Users" ++ level_path owner)) (sym (is_empty-user owner user))

pub whole_path : (below first mid new path root : List ℕ) (name : Name) → IsName name → first ≡ below
    → mid ≡ first ++ 47 ∷ tree_path root → root ≡ root_of name
    → new ≡ mid ++ flat_map level_path (components_of path) → path ≡ path_of name
    → new ≡ below ++ 47 ∷ folder_path name
whole_path below first mid new path root name valid e f r g p =
    let last : flat_map level_path (components_of path) ≡ flat_map level_path (components name) =
    ap (λ l. flat_map level_path (components_of l)) p ∙ ap (λ l. flat_map level_path l) valid.parted in
    g ∙ ap (λ l. mid ++ l) last ∙ ap (λ l. l ++ flat_map level_path (components name)) f
    ∙ append_assoc first (47 ∷ tree_path root) (flat_map level_path (components name))
    ∙ ap (λ l. first ++ 47 ∷ (tree_path l ++ flat_map level_path (components name))) r
    ∙ ap (λ l. l ++ 47 ∷ folder_path name) e
