use Rattle.std.proofs.Common.{true, false}
use Rattle.imap_names.proofs.ViewLaws.{owner_is}
use Rattle.imap_names.proofs.name_ref.NameRef.owner.Goals as goal

pub returns-then-is_empty : goal.returns-then-is_empty
returns-then-is_empty c = owner_is c.self.inside.root.now c.self.inside.path.now c.args.self.now c.self.view_is true c.if-is_empty.ensures

pub returns-else-is_empty : goal.returns-else-is_empty
returns-else-is_empty c = owner_is c.self.inside.root.now c.self.inside.path.now c.args.self.now c.self.view_is false c.if-is_empty.ensures
