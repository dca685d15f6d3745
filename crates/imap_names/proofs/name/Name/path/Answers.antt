use Rattle.std.proofs.Common.{◌∙◌, sym}
use Rattle.std.specs.Arc.{arc_str_bytes}
use Rattle.imap_names.specs.Tree.{root_of_tree}
use Rattle.imap_names.proofs.ViewLaws.{path_is}
use Rattle.imap_names.proofs.name.Name.path.Goals as goal

pub returns-clause-path : goal.returns-clause-path
returns-clause-path c =
    c.as_str.ensures.value ∙ sym (path_is (root_of_tree c.self.inside.tree) (arc_str_bytes c.self.inside.path) c.args.self.now c.self.view_is)
