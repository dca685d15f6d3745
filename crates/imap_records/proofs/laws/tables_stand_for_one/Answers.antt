use Rattle.imap_records.proofs.OneWorld.{stand_for_one}
use Rattle.imap_records.proofs.laws.tables_stand_for_one.Goals as goal

pub returns : goal.returns
returns c = stand_for_one
