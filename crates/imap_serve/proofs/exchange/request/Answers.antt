use Rattle.imap_serve.proofs.Scenes.{no_poll}
use Rattle.imap_serve.proofs.exchange.request.Goals as goal

pub make-requires-clause-polls : goal.make-requires-clause-polls
make-requires-clause-polls g c κs within = no_poll c.args.request c.args.flow.idles c.requires.polls
