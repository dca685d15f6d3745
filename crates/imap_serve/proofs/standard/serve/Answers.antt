use Rattle.imap_serve.proofs.Plain.{serves_same, gives_up_same}
use Rattle.imap_serve.proofs.standard.serve.Goals as goal

pub returns-in-Ok-clause-ended : goal.returns-in-Ok-clause-ended
returns-in-Ok-clause-ended g c = serves_same _ _ _ _ _ _ _ _ _ _ _ _ _ _ c.in-Ok.ensures.ended

pub returns-in-Err-clause-broke : goal.returns-in-Err-clause-broke
returns-in-Err-clause-broke g c = gives_up_same _ _ _ _ _ _ _ _ _ _ _ _ _ _ c.in-Err.ensures.broke
