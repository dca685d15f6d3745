use Rattle.std.proofs.Common.{sym, ap, ◌∙◌}
use Rattle.imap_names.proofs.ShownLaws.{empty_is}
use Rattle.imap_world.specs.Stored.{world_of}
use Rattle.imap_view.specs.Seen.{owner_by_root, owner_of}
use Rattle.imap_view.specs.View.{View}
use Rattle.imap_view.proofs.Views.{site_of}
use Rattle.imap_view.proofs.view.View.owner.Goals as goal

pub returns-in-Some-2 : goal.returns-in-Some-2
returns-in-Some-2 c =
    let site = c.self.inside.site.now in
    let world = world_of c.self.inside.world.now in
    let empty = empty_is c.as_str.result.now (sym c.is_empty.ensures ∙ c.if-not-is_empty.false) in
    ap (owner_by_root site) (sym (c.in-Some.ensures ∙ sym c.as_str.ensures.text ∙ empty))
    ∙ ap (λ a. owner_of a c.args.name.now) (sym (site_of site c.self.inside.user.now world))
    ∙ ap (λ (v : View). owner_of v.site c.args.name.now) c.self.view_is

pub returns-in-None : goal.returns-in-None
returns-in-None c =
    let site = c.self.inside.site.now in
    let world = world_of c.self.inside.world.now in
    ap (owner_by_root site) (sym c.in-None.ensures)
    ∙ ap (λ a. owner_of a c.args.name.now) (sym (site_of site c.self.inside.user.now world))
    ∙ ap (λ (v : View). owner_of v.site c.args.name.now) c.self.view_is
