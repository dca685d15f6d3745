use Rattle.std.proofs.Common.{◌≡◌, length, reverse}
use Rattle.std.specs.List.{AllByRecursion}
use Rattle.imap_tables.specs.declared.stored.StoredMessage.{StoredMessage}
use Rattle.imap_restore.specs.Parts.{AreInGroups, HasMailboxOf, IsMailboxOf}
use Rattle.imap_restore.specs.declared.parts.MailboxWithOwn.{MailboxWithOwn}
use Rattle.imap_restore.proofs.Taken.{AreStillThere}
use Rattle.imap_restore.proofs.Zipped.{HasRead}
use Rattle.imap_restore.proofs.parts.read_mailboxes.Given as goal

abbrev pub invariant-mailboxes : goal.invariant-mailboxes
invariant-mailboxes l =
    record {
      read : HasRead (IsMailboxOf l.fn.rows) (reverse l.fn.mailboxes.items) (reverse l.mailboxes.items) l.read.items;
      has : AllByRecursion (HasMailboxOf l.fn.rows) (reverse l.fn.mailboxes.items) → AllByRecursion (HasMailboxOf l.fn.rows) (reverse l.mailboxes.items);
      groups : AreInGroups l.rows;
      entries : l.rows.entries ≡ l.fn.rows.entries;
      gone : l.rows.gone ≡ l.fn.rows.gone;
      messages : AreStillThere (λ (m : StoredMessage). m.mailbox) (λ (it : MailboxWithOwn). it.stored.id) l.fn.rows.messages.items l.mailboxes.items l.rows.messages.items;
    }

abbrev pub decreases-mailboxes : goal.decreases-mailboxes
decreases-mailboxes l = length l.mailboxes.items
