use Rattle.std.proofs.Common.{sym}
use Rattle.imap_names.proofs.ViewLaws.{root_is}
use Rattle.imap_names.proofs.name_ref.NameRef.root.Goals as goal

pub returns-clause-root : goal.returns-clause-root
returns-clause-root c = sym (root_is c.self.inside.root.now c.self.inside.path.now c.args.self.now c.self.view_is)
