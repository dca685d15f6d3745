use Rattle.imap_changes.proofs.Gone.{all_deleted, only_deleted}
use Rattle.imap_changes.proofs.laws.deleted_messages_are_expunged.Goals as goal

pub returns-clause-only : goal.returns-clause-only
returns-clause-only c = only_deleted

pub returns-clause-all : goal.returns-clause-all
returns-clause-all c = all_deleted
