use Rattle.std.proofs.Common.{◌∙◌, ap}
use Rattle.imap_mailbox.specs.Summary.{uids_in}
use Rattle.imap_mailbox.specs.Lent.{own_lent, place_in, row_uids}
use Rattle.imap_mailbox.proofs.Lending.{uids_lent}
use Rattle.imap_mailbox.proofs.rows.Rows.place_of.Goals as goal

pub returns : goal.returns
returns c =
    c.find_message.ensures ∙ ap (λ ms. place_in c.args.uid (uids_in ms)) c.deref.ensures.value
    ∙ ap (place_in c.args.uid) (uids_lent (own_lent c.self.inside.own) c.self.inside.messages.now.items) ∙ ap (λ rows. place_in c.args.uid (row_uids rows)) c.self.view_is
