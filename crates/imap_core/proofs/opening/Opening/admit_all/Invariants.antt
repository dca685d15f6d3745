use Rattle.std.proofs.Common.{◌≡◌, drop}
use Rattle.imap_world.specs.Stored.{world_of}
use Rattle.imap_core.specs.Opening.{admission_of, with_users}
use Rattle.imap_core.proofs.opening.Opening.admit_all.Given as goal

abbrev pub invariant-loop-user : goal.invariant-loop-user
invariant-loop-user l =
    with_users (world_of l.world) (drop l.user-index l.users) (admission_of l.self) ≡ with_users (world_of l.world) l.users (admission_of l.fn.self)
