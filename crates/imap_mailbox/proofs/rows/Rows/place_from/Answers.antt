use Rattle.std.proofs.Common.{◌∙◌, ltb, ap}
use Rattle.std.specs.List.{prefix_len}
use Rattle.imap_mailbox.specs.declared.message.Message.{Message}
use Rattle.imap_mailbox.specs.Rows.{Row}
use Rattle.imap_mailbox.specs.Lent.{own_lent}
use Rattle.imap_mailbox.proofs.Lending.{lower_lent}
use Rattle.imap_mailbox.proofs.rows.Rows.place_from.Goals as goal

pub returns-clause-place : goal.returns-clause-place
returns-clause-place c =
    c.count_lower.ensures.count ∙ ap (prefix_len (λ (m : Message). ltb m.uid c.args.uid)) c.deref.ensures.value
    ∙ lower_lent c.args.uid (own_lent c.self.inside.own) c.self.inside.messages.now.items ∙ ap (prefix_len (λ (r : Row). ltb r.uid c.args.uid)) c.self.view_is
