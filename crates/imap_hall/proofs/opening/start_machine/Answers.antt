use Rattle.std.proofs.Common.{List, sym, ap, subst}
use Rattle.imap_world.specs.declared.change.Write.{Write}
use Rattle.imap_world.specs.Ready.{IsCurrent}
use Rattle.imap_world.specs.Stored.{world_of}
use Rattle.imap_hall.proofs.Stepped.{started}
use Rattle.imap_hall.proofs.opening.start_machine.Goals as goal

pub returns-clause-current : goal.returns-clause-current
returns-clause-current c =
    subst (λ (change : List Write). IsCurrent change (world_of c.args.world)) (sym (ap (λ rest. rest.1) c.in_ok-base.ensures.rest))
    (started (world_of c.args.world) c.args.administrator c.args.users.now c.in_ok-core.change c.in_ok-core.ensures.change)
