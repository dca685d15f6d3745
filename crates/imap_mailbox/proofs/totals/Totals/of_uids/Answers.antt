use Rattle.std.proofs.Common.{◌≡◌, refl, arith}
use Rattle.imap_mailbox.specs.Expunging.{without_all}
use Rattle.imap_mailbox.proofs.Summing.{one_further, so_far_none, all_further}
use Rattle.imap_mailbox.proofs.totals.Totals.of_uids.Goals as goal

pub loop-uid-init : goal.loop-uid-init
loop-uid-init c =
    let none : c.none-totals.result.deleted ≡ 0 = c.none-totals.ensures.deleted in record {
      far = so_far_none (without_all c.args.uids.now c.args.messages.now) (without_all c.args.uids.now c.args.messages.now) c.none-totals.result refl c.none-totals.ensures;
      most = omega (arith, none);
    }

pub loop-uid-preserved : goal.loop-uid-preserved
loop-uid-preserved c =
    let more = c.add_if_there.ensures.most in record {
      far = one_further c.requires.uids.0 c.requires.uids.1 c.args.uids.now c.args.messages.now (without_all c.args.uids.now c.args.messages.now) c.loop-uid.uid-index c.loop-uid.totals c.add_if_there.new.self
          c.requires.uids.2 c.loop-uid-test.true c.add_if_there.ensures c.loop-uid.invariant.far;
      most = omega (arith, more, c.loop-uid.invariant.most);
    }

pub returns : goal.returns
returns c =
    all_further (without_all c.args.uids.now c.args.messages.now) c.args.uids.now c.args.messages.now c.loop-uid.uid-index c.loop-uid.totals c.loop-uid-test.false c.loop-uid.invariant.far
