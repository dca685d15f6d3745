use Rattle.std.proofs.Common.{arith}
use Rattle.imap_mailbox.proofs.FirstOf.{if_some_weaker, shared_late}
use Rattle.imap_mailbox.proofs.last_events.last_own_uids.Goals as goal

pub returns : goal.returns
returns c =
    if_some_weaker c.few_since.result _ _
    (λ uids found m recent early above. found m recent (shared_late c.args.number c.saturating_sub.result c.args.own.now.own m (omega (arith, c.saturating_sub.ensures, c.len.ensures)) early above)) c.few_since.ensures
