use Rattle.imap_world.specs.Stored.{world_of}
use Rattle.imap_core.specs.Opening.{admission_of, with_users}
use Rattle.imap_core.proofs.Admitted.{admitted_on}
use Rattle.imap_core.proofs.opening.Opening.admit_all.Goals as goal

pub loop-user-preserved : goal.loop-user-preserved
loop-user-preserved c =
    let world = world_of c.args.world.now in
    admitted_on world c.args.users.now c.loop-user.user-index c.user-item.result (admission_of c.loop-user.self) (admission_of c.admit.new.self)
    (with_users world c.args.users.now (admission_of c.args.self.now)) c.loop-user-test.true c.user-item.is c.in_ok-admit.ensures c.loop-user.invariant
