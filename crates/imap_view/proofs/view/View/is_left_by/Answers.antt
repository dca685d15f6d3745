use Rattle.std.proofs.Common.{not, ◌||◌, sym, ap, ◌∙◌}
use Rattle.std.specs.Prelude.{nat_lt}
use Rattle.imap_world.specs.Stored.{world_of}
use Rattle.imap_world.specs.World.{epoch, max_validity}
use Rattle.imap_view.specs.View.{View, may_know_name_in}
use Rattle.imap_view.proofs.Unknown.{left_by, validity_known}
use Rattle.imap_view.proofs.view.View.is_left_by.Goals as goal

pub returns-then-not-may_know : goal.returns-then-not-may_know
returns-then-not-may_know c =
    let world = world_of c.self.inside.world.now in
    ap not c.if-not-may_know.true
    ∙ ap (λ b. not b || nat_lt (epoch world.epochs c.args.name.now) max_validity) (sym c.if-not-may_know.true ∙ c.requires ∙ ap (λ (v : View). may_know_name_in v c.args.name.now) (sym c.self.view_is))
    ∙ validity_known c.self.inside.site.now c.self.inside.user.now world c.args.name.now
    ∙ ap (λ (v : View). nat_lt (epoch v.epochs c.args.name.now) max_validity) c.self.view_is

pub returns-else-not-may_know : goal.returns-else-not-may_know
returns-else-not-may_know c =
    let world = world_of c.self.inside.world.now in
    c.is_some.ensures ∙ left_by c.next_validity.result (epoch world.epochs c.args.name.now) c.next_validity.ensures
    ∙ ap (λ b. not b || nat_lt (epoch world.epochs c.args.name.now) max_validity) (sym c.if-not-may_know.false ∙ c.requires ∙ ap (λ (v : View). may_know_name_in v c.args.name.now) (sym c.self.view_is))
    ∙ validity_known c.self.inside.site.now c.self.inside.user.now world c.args.name.now
    ∙ ap (λ (v : View). nat_lt (epoch v.epochs c.args.name.now) max_validity) c.self.view_is
