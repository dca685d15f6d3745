use Rattle.std.proofs.Common.{subst}
use Rattle.std.specs.Prelude.{option_copied, option_map}
use Rattle.imap_session.specs.State.{state_of}
use Rattle.imap_world.specs.Stored.{world_of}
use Rattle.imap_core.specs.Pending.{AreFound}
use Rattle.imap_core.proofs.Preparing.{silent_may}
use Rattle.imap_core.proofs.notices.with_notices.Goals as goal

pub returns-in-Whole-clause-told : goal.returns-in-Whole-clause-told
returns-in-Whole-clause-told c =
    let planned = c.args.planned.now in
    let own = option_map state_of (option_copied c.args.session) in
    silent_may own c.in-Whole.outcome.session
    (subst (AreFound planned.site.now planned.user.now (world_of planned.world.now) planned.change.now own) c.in-Whole.is c.requires)
