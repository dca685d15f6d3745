use Rattle.std.proofs.Common.{◌∙◌, ap}
use Rattle.std.specs.Prelude.{min}
use Rattle.imap_mailbox.specs.Lent.{own_lent}
use Rattle.imap_mailbox.specs.Status.{size_in, max_size}
use Rattle.imap_mailbox.proofs.Summing.{size_shown}
use Rattle.imap_mailbox.proofs.rows.Rows.size.Goals as goal

pub returns : goal.returns
returns c =
    c.self.invariant.3.size ∙ ap (min max_size) (size_shown (own_lent c.self.inside.own) c.self.inside.messages.now.items) ∙ ap (λ rows. min max_size (size_in rows)) c.self.view_is
