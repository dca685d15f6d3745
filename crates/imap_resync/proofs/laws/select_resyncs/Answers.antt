use Rattle.imap_resync.proofs.Following.{select_resyncs}
use Rattle.imap_resync.proofs.laws.select_resyncs.Goals as goal

pub returns : goal.returns
returns c = select_resyncs
