use Rattle.std.proofs.Common.{ap, sym, ◌∙◌}
use Rattle.imap_names.specs.Text.{components_of}
use Rattle.imap_names.specs.Valid.{is_root}
use Rattle.imap_names.proofs.NameLaws.{root_of-name_of}
use Rattle.imap_names.proofs.name_ref.NameRef.to_name.Goals as goal

pub at_root-requires : goal.at_root-requires
at_root-requires c = ap is_root (sym (root_of-name_of c.self.inside.root.now (components_of c.self.inside.path.now))) ∙ c.self.invariant.tree
