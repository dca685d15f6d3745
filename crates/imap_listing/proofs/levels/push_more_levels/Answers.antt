use Rattle.imap_listing.proofs.Hierarchy.{no_more_levels}
use Rattle.imap_listing.proofs.levels.push_more_levels.Goals as goal

pub returns-then-are_siblings : goal.returns-then-are_siblings
returns-then-are_siblings c =
    no_more_levels c.args.levels.now.items c.args.before.now c.args.name.now c.requires.before (c.are_siblings.ensures c.if-are_siblings.true)
