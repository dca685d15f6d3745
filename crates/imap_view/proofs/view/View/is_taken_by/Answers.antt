use Rattle.std.proofs.Common.{◌≡◌, ◌&&◌, rules, sym, ap, ◌∙◌}
use Rattle.std.specs.FinMap as map
use Rattle.imap_world.specs.Stored.{world_of}
use Rattle.imap_view.proofs.Climbing.{and_false, and_true}
use Rattle.imap_view.proofs.Views.{taken_at}
use Rattle.imap_view.proofs.view.View.is_taken_by.Goals as goal

pub returns-then-may_know : goal.returns-then-may_know
returns-then-may_know c =
    let world = world_of c.self.inside.world.now in
    let name = c.args.name.now in
    let there : c.is_some.result ≡ map.contains_key world.mailboxes name = search rules in
    there ∙ sym (and_true (map.contains_key world.mailboxes name))
    ∙ ap (λ b. map.contains_key world.mailboxes name && b) (sym c.if-may_know.true ∙ c.requires)
    ∙ sym (taken_at c.self.inside.site.now c.self.inside.user.now world c.args.self.now c.self.view_is name)

pub returns-else-may_know : goal.returns-else-may_know
returns-else-may_know c =
    let world = world_of c.self.inside.world.now in
    let name = c.args.name.now in
    c.if-may_know.false ∙ sym (and_false (map.contains_key world.mailboxes name))
    ∙ ap (λ b. map.contains_key world.mailboxes name && b) (sym c.if-may_know.false ∙ c.requires)
    ∙ sym (taken_at c.self.inside.site.now c.self.inside.user.now world c.args.self.now c.self.view_is name)
