use Rattle.std.proofs.Common.{Some, sym, ap, ◌∙◌}
use Rattle.imap_world.specs.Stored.{world_of}
use Rattle.imap_world.specs.World.{epoch}
use Rattle.imap_view.specs.View.{if_true}
use Rattle.imap_view.proofs.Views.{epoch_at}
use Rattle.imap_view.proofs.view.View.epoch.Goals as goal

pub returns-then-may_know_name : goal.returns-then-may_know_name
returns-then-may_know_name c =
    let world = world_of c.self.inside.world.now in
    ap Some c.epoch.ensures
    ∙ sym (epoch_at c.self.inside.site.now c.self.inside.user.now world c.args.self.now c.self.view_is c.args.name.now
    ∙ ap (λ b. if_true b (epoch world.epochs c.args.name.now)) (sym c.may_know_name.ensures ∙ c.if-may_know_name.true))
