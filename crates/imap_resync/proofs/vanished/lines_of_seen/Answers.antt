use Rattle.std.proofs.lemmas.Result.{IfOk-weaker}
use Rattle.imap_view.specs.Seen.{shown}
use Rattle.imap_resync.proofs.Vanishing.{shown_vanished}
use Rattle.imap_resync.proofs.vanished.lines_of_seen.Goals as goal

pub returns-in-Some-clause-lines : goal.returns-in-Some-clause-lines
returns-in-Some-clause-lines c =
    IfOk-weaker c.lines_of_gone.result _ _
    (λ lines h. shown_vanished c.args.since c.args.uids.now (shown c.args.seen.now).messages.content c.in-Some.gone c.in-Some.ensures.gone c.in-Some.ensures.valid lines.items h)
    c.lines_of_gone.ensures.lines
