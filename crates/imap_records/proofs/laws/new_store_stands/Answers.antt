use Rattle.imap_records.proofs.NewStore.{new_stores_stand}
use Rattle.imap_records.proofs.laws.new_store_stands.Goals as goal

pub returns : goal.returns
returns c = new_stores_stand
