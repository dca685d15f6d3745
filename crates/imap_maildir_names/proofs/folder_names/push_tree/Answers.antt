use Rattle.std.proofs.Common.{◌∙◌, ap, sym, ◌++◌, ◌∷◌, string_bytes}
use Rattle.imap_names.specs.Tree.{root_of_tree}
use Rattle.imap_maildir_names.specs.Folders.{tree_path}
use Rattle.imap_maildir_names.proofs.Paths.{user_path}
use Rattle.imap_maildir_names.proofs.folder_names.push_tree.Goals as goal

pub returns-in_ok-push_level-in-User : goal.returns-in_ok-push_level-in-User
returns-in_ok-push_level-in-User c =
    user_path _ _ _ _ _ c.as_str.ensures.valid c.in_ok-push_str-in-User.ensures.bytes c.in_ok-push_level-in-User.ensures c.as_str.ensures.text
    ∙ ap (λ r. string_bytes c.args.path.now ++ 47 ∷ tree_path r) (sym (ap root_of_tree c.in-User.is))
