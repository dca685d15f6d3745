use Rattle.std.proofs.Common.{sym}
use Rattle.std.specs.Arc.{arc_str_bytes}
use Rattle.imap_names.specs.Tree.{root_of_tree}
use Rattle.imap_names.proofs.ViewLaws.{root_is}
use Rattle.imap_names.proofs.name.Name.tree.Goals as goal

pub returns-clause-root : goal.returns-clause-root
returns-clause-root c = sym (root_is (root_of_tree c.self.inside.tree) (arc_str_bytes c.self.inside.path) c.args.self.now c.self.view_is)
