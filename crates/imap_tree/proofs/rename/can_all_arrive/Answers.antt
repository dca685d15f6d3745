use Rattle.imap_names.proofs.MovedLaws.{within_itself}
use Rattle.imap_tree.proofs.rename.can_all_arrive.Goals as goal

pub can_arrive-requires : goal.can_arrive-requires
can_arrive-requires c = within_itself c.args.old.now
