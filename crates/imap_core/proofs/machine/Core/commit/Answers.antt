use Rattle.std.proofs.Common.{sym, ◌∙◌, rules}
use Rattle.imap_core.proofs.Preparing.{next_is}
use Rattle.imap_core.proofs.machine.Core.commit.Goals as goal

pub returns-clause-step : goal.returns-clause-step
returns-clause-step c =
    let (step, found) = c.requires.current in
    let state = c.args.self.now.state in
    (step, sym found.who, found.replies, (search rules) ∙ next_is state step c.args.prepared.who c.args.prepared.change c.args.prepared.session found.who found.session found.change)
