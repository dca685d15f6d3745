use Rattle.imap_mailbox.proofs.FirstOf.{if_some_weaker, plain_late}
use Rattle.imap_mailbox.proofs.last_events.last_uids.Goals as goal

pub returns : goal.returns
returns c =
    if_some_weaker c.few_since.result _ _
    (λ uids found m recent above. found m recent (plain_late c.args.number c.saturating_sub.result m c.saturating_sub.ensures above)) c.few_since.ensures
