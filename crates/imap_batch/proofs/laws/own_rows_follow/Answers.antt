use Rattle.imap_batch.proofs.OwnRows.{own_rows_follow}
use Rattle.imap_batch.proofs.laws.own_rows_follow.Goals as goal

pub returns : goal.returns
returns c = own_rows_follow
