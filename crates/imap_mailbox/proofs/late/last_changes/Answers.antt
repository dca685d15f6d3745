use Rattle.imap_mailbox.proofs.FirstOf.{if_some_weaker}
use Rattle.imap_mailbox.proofs.late.last_changes.Goals as goal

pub returns : goal.returns
returns c =
    if_some_weaker c.since.result _ _ (λ uids found uid above. found c.args.number uid c.in_ok-first.ensures.1 above) c.since.ensures
