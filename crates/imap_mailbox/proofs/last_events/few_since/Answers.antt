use Rattle.std.proofs.Common.{ap, ◌∙◌}
use Rattle.imap_mailbox.specs.Rows.{is_among}
use Rattle.imap_mailbox.proofs.Recently.{noted_since}
use Rattle.imap_mailbox.proofs.last_events.few_since.Goals as goal

pub returns : goal.returns
returns c = λ m recent past.
    ap (is_among m.uid) c.in_ok-uids.ensures.1 ∙ noted_since c.args.recent.now m c.args.place recent c.in_ok-uids.ensures.0 past
