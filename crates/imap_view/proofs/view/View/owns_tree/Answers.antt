use Rattle.std.proofs.Common.{sym, ap, ◌∙◌}
use Rattle.std.specs.Str.{bytes_eq}
use Rattle.imap_names.specs.Name.{root_of}
use Rattle.imap_world.specs.Stored.{world_of}
use Rattle.imap_view.specs.Seen.{owner_by_root}
use Rattle.imap_view.specs.View.{View, is_own_root}
use Rattle.imap_view.proofs.Views.{site_of, user_of}
use Rattle.imap_view.proofs.view.View.owns_tree.Goals as goal

pub returns-clause-own : goal.returns-clause-own
returns-clause-own c =
    let site = c.self.inside.site.now in
    let user = c.self.inside.user.now in
    let world = world_of c.self.inside.world.now in
    let root = root_of c.args.name.now in
    c.eq.ensures ∙ (λ i. bytes_eq ((c.owner_by_root.ensures ∙ ap (owner_by_root site) c.root.ensures.root) i) (c.as_str.ensures.text i))
    ∙ (λ i. is_own_root (sym (site_of site user world) i) (sym (user_of site user world) i) root)
    ∙ ap (λ (v : View). is_own_root v.site v.user root) c.self.view_is
