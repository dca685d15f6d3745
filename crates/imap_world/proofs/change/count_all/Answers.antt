use Rattle.std.proofs.Common.{arith}
use Rattle.imap_world.proofs.Room.{counts_of-take}
use Rattle.imap_world.proofs.change.count_all.Goals as goal

pub loop-write-preserved : goal.loop-write-preserved
loop-write-preserved c =
    omega (arith, counts_of-take c.args.writes.now c.loop-write.write-index c.write-item.result c.loop-write-test.true c.write-item.is)
