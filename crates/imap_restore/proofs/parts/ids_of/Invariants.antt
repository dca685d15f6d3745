use Rattle.std.proofs.Common.{◌≡◌, ◌++◌, drop, map}
use Rattle.imap_tables.specs.declared.stored.StoredMailbox.{StoredMailbox}
use Rattle.imap_restore.proofs.parts.ids_of.Given as goal

abbrev pub invariant-mailboxes : goal.invariant-mailboxes
invariant-mailboxes l = l.ids.items ++ map (λ (it : StoredMailbox). it.id) (drop l.mailbox-index l.mailboxes) ≡ map (λ (it : StoredMailbox). it.id) l.mailboxes
