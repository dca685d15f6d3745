use Rattle.std.proofs.Common.{subst, sym}
use Rattle.std.specs.Global.{Global as Memory}
use Rattle.std.specs.Prelude.{Vec}
use Rattle.imap_tables.specs.declared.stored.StoredMailbox.{StoredMailbox}
use Rattle.imap_restore.specs.Parts.{AreIdsApart}
use Rattle.imap_restore.proofs.InOrder.{has_parts, have_groups, parts_for}
use Rattle.imap_restore.proofs.Restored.{if_ok}
use Rattle.imap_restore.proofs.parts.read_parts.Goals as goal

pub read_grouped-requires-clause-groups : goal.read_grouped-requires-clause-groups
read_grouped-requires-clause-groups c = have_groups c.args.tables c.in-Ok.tables c.in-Ok.ensures

pub read_grouped-requires-clause-apart : goal.read_grouped-requires-clause-apart
read_grouped-requires-clause-apart c = subst (λ (v : Vec StoredMailbox Memory). AreIdsApart v.items) (sym c.in-Ok.ensures.mailboxes) c.requires

pub returns-in-Ok-clause-ok : goal.returns-in-Ok-clause-ok
returns-in-Ok-clause-ok c = if_ok c.read_grouped.result (λ parts h. parts_for c.args.tables c.in-Ok.tables c.in-Ok.ensures parts h) c.read_grouped.ensures.ok

pub returns-in-Ok-clause-bad : goal.returns-in-Ok-clause-bad
returns-in-Ok-clause-bad c is h = c.read_grouped.ensures.bad is (has_parts c.args.tables c.in-Ok.tables c.in-Ok.ensures h)
