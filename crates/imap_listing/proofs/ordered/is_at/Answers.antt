use Rattle.std.proofs.Common.{sym, ◌∙◌}
use Rattle.imap_listing.proofs.Order.{item_is_there}
use Rattle.imap_listing.proofs.ordered.is_at.Goals as goal

pub returns-in-Some : goal.returns-in-Some
returns-in-Some c = λ t.
    item_is_there c.args.names.now c.args.name.now c.args.place c.get.result c.in-Some.other c.in-Some.is c.get.ensures.lookup (sym c.eq.ensures ∙ t)
