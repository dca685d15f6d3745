use Rattle.imap_print.specs.Pieces.{octets_of}
use Rattle.imap_rev1.proofs.Asking.{asked_more, item_at}
use Rattle.imap_rev1.proofs.labels.push_all_asked.Goals as goal

pub loop-asked-preserved : goal.loop-asked-preserved
loop-asked-preserved c =
    let at = c.loop-asked in
    asked_more (octets_of c.args.out.now) c.args.begun c.args.bodies.now at.rest.now c.rest_after-rest.result.now c.args.all.now at.asked-index c.asked-item.result (octets_of at.out) (octets_of c.push_asked.new.out) at.begun c.in_ok-begun.begun
    (item_at c.args.all.now at.asked-index c.asked-item.result c.loop-asked-test.true c.asked-item.is) c.rest_after-rest.ensures at.invariant c.in_ok-begun.ensures
