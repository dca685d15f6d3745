use Rattle.std.proofs.Common.{length, reverse}
use Rattle.std.specs.List.{AllByRecursion}
use Rattle.imap_tables.specs.declared.stored.StoredMailbox.{StoredMailbox}
use Rattle.imap_tables.specs.declared.stored.StoredSeenFlag.{StoredSeenFlag}
use Rattle.imap_restore.specs.Parts.{HasOwn, IsWithOwn}
use Rattle.imap_restore.proofs.Taken.{AreStillThere}
use Rattle.imap_restore.proofs.Zipped.{HasRead}
use Rattle.imap_restore.proofs.parts.with_own.Given as goal

abbrev pub invariant-mailboxes : goal.invariant-mailboxes
invariant-mailboxes l =
    record {
      read : HasRead (IsWithOwn l.fn.marks.items) (reverse l.fn.mailboxes.items) (reverse l.mailboxes.items) l.all.items;
      has : AllByRecursion (HasOwn l.fn.marks.items) (reverse l.fn.mailboxes.items) → AllByRecursion (HasOwn l.fn.marks.items) (reverse l.mailboxes.items);
      marks : AreStillThere (λ (mark : StoredSeenFlag). mark.mailbox) (λ (s : StoredMailbox). s.id) l.fn.marks.items l.mailboxes.items l.marks.items;
    }

abbrev pub decreases-mailboxes : goal.decreases-mailboxes
decreases-mailboxes l = length l.mailboxes.items
