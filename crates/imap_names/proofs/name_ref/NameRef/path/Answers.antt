use Rattle.std.proofs.Common.{sym}
use Rattle.imap_names.proofs.ViewLaws.{path_is}
use Rattle.imap_names.proofs.name_ref.NameRef.path.Goals as goal

pub returns-clause-path : goal.returns-clause-path
returns-clause-path c = sym (path_is c.self.inside.root.now c.self.inside.path.now c.args.self.now c.self.view_is)
