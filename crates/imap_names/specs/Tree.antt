-- The root of a tree, and the names in it.
use Rattle.std.specs.Prelude.{ℕ, List}
use Rattle.imap_names.specs.declared.name.Tree.{Tree}
use Rattle.imap_names.specs.declared.name.Tree.TheVariants.{User, Shared}
use Rattle.imap_names.specs.Name.{Name, name_of, shared_root}
use Rattle.imap_names.specs.Text.{components_of}

abbrev pub root_of_tree : Tree → List ℕ
root_of_tree (User owner) = owner
root_of_tree Shared = shared_root

-- the name with the path in the tree
abbrev pub name_below : Tree → List ℕ → Name
name_below tree path = name_of (root_of_tree tree) (components_of path)
