use Rattle.std.proofs.Common.{ap, ◌∙◌}
use Rattle.std.specs.FinMap as map
use Rattle.imap_world.specs.Stored.{Stored, filled_sets, names_in}
use Rattle.imap_world.specs.World.{set_of}
use Rattle.imap_world.proofs.Sets.{names_in_filled}
use Rattle.imap_world.proofs.world.World.subscriptions.Goals as goal

pub returns : goal.returns
returns c =
    ap names_in c.get.ensures ∙ names_in_filled c.self.inside.subscriptions c.args.user.now
    ∙ ap (λ (s : Stored). set_of (map.get (filled_sets s.subscriptions) c.args.user.now)) c.self.view_is
