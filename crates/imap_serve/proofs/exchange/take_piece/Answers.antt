use Rattle.std.proofs.Common.{◌∙◌, Err, ap}
use Rattle.imap_serve.proofs.Scenes.{breaks_off, nothing_framed, stays_hung_up}
use Rattle.imap_serve.proofs.exchange.take_piece.Goals as goal

pub returns-in-Err-Memory-clause-err : goal.returns-in-Err-Memory-clause-err
returns-in-Err-Memory-clause-err g c = breaks_off _ _ _ _

-- ---- after a hangup

pub returns-in-Err-Closed-clause-ok : goal.returns-in-Err-Closed-clause-ok
returns-in-Err-Closed-clause-ok g c = nothing_framed _ _ _ c.args.framer.now c.args.piece.now (c.feed.ensures.closed.0 (c.in-Err-Closed.is ∙ ap Err c.in-Err-Closed.field-0-is))

pub returns-in-Err-Closed-clause-next : goal.returns-in-Err-Closed-clause-next
returns-in-Err-Closed-clause-next g c = c.in-Err-Closed.ensures.err ∙ stays_hung_up c.args.framer.now c.args.piece.now (c.feed.ensures.closed.0 (c.in-Err-Closed.is ∙ ap Err c.in-Err-Closed.field-0-is))
