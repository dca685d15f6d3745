use Rattle.imap_serve.proofs.Scenes.{breaks_off}
use Rattle.imap_serve.proofs.exchange.take_frame.Goals as goal

pub returns-in-Err-clause-err : goal.returns-in-Err-clause-err
returns-in-Err-clause-err g c = breaks_off _ _ _ _
