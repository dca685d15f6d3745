use Rattle.std.proofs.Common.{false, true, not, ap, ◌∙◌, refl}
use Rattle.std.specs.Prelude.{codes, bytes_eq}
use Rattle.imap_names.proofs.ViewLaws.{inbox_is}
use Rattle.imap_names.proofs.name_ref.NameRef.is_inbox.Goals as goal

pub returns-then-not-is_empty : goal.returns-then-not-is_empty
returns-then-not-is_empty c =
    inbox_is c.self.inside.root.now c.self.inside.path.now c.args.self.now c.self.view_is false c.if-not-is_empty.ensures c.eq.result c.eq.ensures

pub returns-else-not-is_empty : goal.returns-else-not-is_empty
returns-else-not-is_empty c =
    ap not c.if-not-is_empty.false
    ∙ inbox_is c.self.inside.root.now c.self.inside.path.now c.args.self.now c.self.view_is true c.if-not-is_empty.ensures (bytes_eq c.self.inside.path.now (codes "INBOX")) refl
