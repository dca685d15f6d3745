use Rattle.imap_maildir_names.proofs.Paths.{whole_path}
use Rattle.imap_maildir_names.proofs.folder_names.mailbox_folder.Goals as goal

pub returns : goal.returns
returns c =
    whole_path c.args.below.now _ _ _ _ _ c.args.name.now c.tree.ensures.valid c.in_ok-path.ensures.ok c.in_ok-push_tree.ensures c.tree.ensures.root c.in_ok-push_levels.ensures c.path.ensures.path
