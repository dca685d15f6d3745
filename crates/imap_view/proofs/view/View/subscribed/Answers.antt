use Rattle.std.proofs.Common.{sym, ap, ◌∙◌}
use Rattle.imap_world.specs.Stored.{world_of}
use Rattle.imap_world.specs.World.{subscribed_by}
use Rattle.imap_view.specs.View.{View}
use Rattle.imap_view.proofs.Views.{subscribed_of}
use Rattle.imap_view.proofs.view.View.subscribed.Goals as goal

pub returns : goal.returns
returns c =
    let world = world_of c.self.inside.world.now in
    c.subscriptions.ensures ∙ ap (subscribed_by world) c.as_str.ensures.text
    ∙ sym (subscribed_of c.self.inside.site.now c.self.inside.user.now world) ∙ ap (λ (v : View). v.subscribed) c.self.view_is
