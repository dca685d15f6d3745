use Rattle.std.proofs.Common.{ap, ◌∙◌}
use Rattle.std.specs.Arc.{arc_str_bytes}
use Rattle.imap_names.specs.Tree.{root_of_tree}
use Rattle.imap_names.proofs.ViewLaws.{root_is}
use Rattle.imap_names.proofs.name.Name.owner.Goals as goal

pub returns-in-User : goal.returns-in-User
returns-in-User c =
    root_is (root_of_tree c.self.inside.tree) (arc_str_bytes c.self.inside.path) c.args.self.now c.self.view_is ∙ ap root_of_tree c.in-User.is

pub returns-in-Shared : goal.returns-in-Shared
returns-in-Shared c =
    root_is (root_of_tree c.self.inside.tree) (arc_str_bytes c.self.inside.path) c.args.self.now c.self.view_is ∙ ap root_of_tree c.in-Shared.is
