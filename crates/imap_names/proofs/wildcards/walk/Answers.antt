use Rattle.imap_names.proofs.Walks.{runs_reach}
use Rattle.imap_names.proofs.wildcards.walk.Goals as goal

pub returns-in-AtAny : goal.returns-in-AtAny
returns-in-AtAny c = runs_reach c.args.pattern.now c.args.text.now c.in-AtAny.n c.in-AtAny.ensures
