use Rattle.std.proofs.Common.{refl}
use Rattle.imap_mailbox.proofs.FirstOf.{first_of_none, first_with_more}
use Rattle.imap_mailbox.proofs.last_events.first_of_uids.Goals as goal

pub loop-uid-init : goal.loop-uid-init
loop-uid-init c = first_of_none c.args.number c.args.start c.args.end c.args.rows.now _ c.requires.order (λ uid. refl)

pub loop-uid-preserved : goal.loop-uid-preserved
loop-uid-preserved c =
    first_with_more c.args.number c.args.start c.args.end c.loop-uid.first c.first_with-first.result c.loop-uid.uid-index c.args.rows.now c.args.uids.now c.loop-uid-test.true
    c.loop-uid.invariant c.first_with-first.ensures
