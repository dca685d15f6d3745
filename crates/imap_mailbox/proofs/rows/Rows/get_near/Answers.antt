use Rattle.imap_mailbox.specs.Lent.{own_lent}
use Rattle.imap_mailbox.proofs.Lending.{place_lent}
use Rattle.imap_mailbox.proofs.rows.Rows.get_near.Goals as goal

pub own_row_near-requires : goal.own_row_near-requires
own_row_near-requires c =
    place_lent c.self.inside.messages.now.items (own_lent c.self.inside.own) c.args.self.now c.args.place c.index-message.result.now c.self.invariant.0 c.self.view_is c.requires c.index-message.ensures

pub plain_row-requires : goal.plain_row-requires
plain_row-requires c =
    place_lent c.self.inside.messages.now.items (own_lent c.self.inside.own) c.args.self.now c.args.place c.index-message.result.now c.self.invariant.0 c.self.view_is c.requires c.index-message.ensures
