use Rattle.std.proofs.Common.{◌+◌, ◌∙◌, ap, sym}
use Rattle.imap_names.proofs.ViewLaws.{length_is}
use Rattle.imap_names.proofs.name_ref.NameRef.depth.Goals as goal

pub returns : goal.returns
returns c = ap (λ n. n + 1) c.depth.ensures ∙ sym (length_is c.self.inside.root.now c.self.inside.path.now c.args.self.now c.self.view_is)
