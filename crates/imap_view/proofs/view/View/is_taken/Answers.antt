use Rattle.std.proofs.Common.{◌≡◌, ◌&&◌, rules, sym, ap, ◌∙◌}
use Rattle.std.specs.FinMap as map
use Rattle.imap_world.specs.Stored.{world_of}
use Rattle.imap_view.specs.View.{may_know_name_in}
use Rattle.imap_view.proofs.Views.{taken_at}
use Rattle.imap_view.proofs.view.View.is_taken.Goals as goal

pub returns-then-is_some : goal.returns-then-is_some
returns-then-is_some c =
    let there : c.is_some.result ≡ map.contains_key (world_of c.self.inside.world.now).mailboxes c.args.name.now = search rules in
    c.may_know_name.ensures ∙ ap (λ b. b && may_know_name_in c.args.self.now c.args.name.now) (sym c.if-is_some.true ∙ there)
    ∙ sym (taken_at c.self.inside.site.now c.self.inside.user.now (world_of c.self.inside.world.now) c.args.self.now c.self.view_is c.args.name.now)

pub returns-else-is_some : goal.returns-else-is_some
returns-else-is_some c =
    let there : c.is_some.result ≡ map.contains_key (world_of c.self.inside.world.now).mailboxes c.args.name.now = search rules in
    c.if-is_some.false ∙ ap (λ b. b && may_know_name_in c.args.self.now c.args.name.now) (sym c.if-is_some.false ∙ there)
    ∙ sym (taken_at c.self.inside.site.now c.self.inside.user.now (world_of c.self.inside.world.now) c.args.self.now c.self.view_is c.args.name.now)
