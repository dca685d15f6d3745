use Rattle.std.proofs.Common.{sym, ap, ◌∙◌}
use Rattle.imap_world.specs.Stored.{world_of}
use Rattle.imap_view.specs.View.{View}
use Rattle.imap_view.proofs.Views.{user_of}
use Rattle.imap_view.proofs.view.View.user.Goals as goal

pub returns : goal.returns
returns c =
    sym (user_of c.self.inside.site.now c.self.inside.user.now (world_of c.self.inside.world.now))
    ∙ ap (λ (v : View). v.user) c.self.view_is
