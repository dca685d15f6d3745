use Rattle.imap_world.proofs.Histories.{all_stay_kept}
use Rattle.imap_world.proofs.laws.messages_stay_kept.Goals as goal

pub returns : goal.returns
returns c = all_stay_kept
