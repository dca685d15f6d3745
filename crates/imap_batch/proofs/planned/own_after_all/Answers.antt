use Rattle.std.proofs.Common.{arith}
use Rattle.imap_batch.proofs.Planning.{own_counted}
use Rattle.imap_batch.proofs.planned.own_after_all.Goals as goal

pub returns-clause-own : goal.returns-clause-own
returns-clause-own c =
    omega (arith, own_counted c.args.own c.args.added.now c.requires, c.added_seen_count.ensures.count, c.saturating_add.ensures, c.min.ensures, c.ranges.own.fits)
