use Rattle.std.proofs.Common.{◌≡◌, ◌≤◌, ◌∷◌, ◌∙◌, arith, length, reverse, subst, sym}
use Rattle.std.specs.List.{AllZip}
use Rattle.imap_message_tables.proofs.Ends.{none_left, turned}
use Rattle.imap_tables.proofs.Zipped.{first_holds, rest_holds}
use Rattle.imap_tables.specs.declared.stored.StoredMessage.{StoredMessage}
use Rattle.imap_restore.specs.Parts.{HasMailboxOf, IsMailboxOf}
use Rattle.imap_restore.specs.declared.parts.MailboxWithOwn.{MailboxWithOwn}
use Rattle.imap_restore.proofs.Backwards.{all_reverse, zip_back}
use Rattle.imap_restore.proofs.Taken.{groups_left, has_mailbox_left, mailbox_of_all, still_next, still_of}
use Rattle.imap_stored_values.proofs.Words.{same_fault}
use Rattle.imap_restore.proofs.Zipped.{HasRead, read_end, read_next}
use Rattle.imap_restore.proofs.parts.read_mailboxes.Goals as goal

pub returns-in-Err-clause-bad : goal.returns-in-Err-clause-bad
returns-in-Err-clause-bad c is all =
    let rows = c.args.rows.now in
    let left = c.mailboxes.rows in
    let boxes = c.mailboxes.mailboxes.items in
    let rest = c.pop.new.self.items in
    let x = c.in-Some.mailbox in
    let e = c.in-Some.ensures.items in
    let same = still_of (λ (m : StoredMessage). m.mailbox) (λ (it : MailboxWithOwn). it.stored.id) rows.messages.items boxes rest x left.messages.items e c.mailboxes.invariant.messages in
    let has = first_holds (HasMailboxOf rows) (reverse boxes) (reverse rest) x (turned boxes rest x e) (c.mailboxes.invariant.has (all_reverse (HasMailboxOf rows) c.args.mailboxes.items all)) in
    c.read_mailbox.ensures.bad (c.in-Err.is ∙ same_fault c.in-Err.error is) (has_mailbox_left rows left x c.mailboxes.invariant.entries c.mailboxes.invariant.gone same has)

pub mailboxes-preserved : goal.mailboxes-preserved
mailboxes-preserved c =
    let rows = c.args.rows.now in
    let left = c.mailboxes.rows in
    let next = c.read_mailbox.new.rows in
    let boxes = c.mailboxes.mailboxes.items in
    let rest = c.pop.new.self.items in
    let x = c.in-Some.mailbox in
    let e = c.in-Some.ensures.items in
    let t : reverse boxes ≡ x ∷ reverse rest = turned boxes rest x e in
    let now = c.mailboxes.invariant in
    let same = still_of (λ (m : StoredMessage). m.mailbox) (λ (it : MailboxWithOwn). it.stored.id) rows.messages.items boxes rest x left.messages.items e now.messages in
    let leaves = c.in-Ok.ensures.left in
    let of : IsMailboxOf rows x c.in-Ok.row = mailbox_of_all rows left x now.entries now.gone same c.in-Ok.row c.in-Ok.ensures.ok in
    record {
      read = subst (HasRead (IsMailboxOf rows) (reverse c.args.mailboxes.items) (reverse rest)) (sym c.in-Ok-push.ensures.items)
          (read_next (IsMailboxOf rows) (reverse c.args.mailboxes.items) (reverse boxes) (reverse rest) x c.in-Ok.row c.mailboxes.read.items t of now.read);
      has = λ all. rest_holds (HasMailboxOf rows) (reverse boxes) (reverse rest) x t (now.has all);
      groups = groups_left x.stored.id left next now.groups leaves;
      entries = leaves.entries ∙ now.entries;
      gone = leaves.gone ∙ now.gone;
      messages = still_next (λ (m : StoredMessage). m.mailbox) (λ (it : MailboxWithOwn). it.stored.id) rows.messages.items boxes rest x left.messages.items next.messages.items e leaves.messages now.messages;
    }

pub returns-clause-ok : goal.returns-clause-ok
returns-clause-ok c =
    let at = c.mailboxes in
    let R = IsMailboxOf c.args.rows.now in
    let xs = c.args.mailboxes.items in
    let low : length at.mailboxes.items ≤ 0 = omega (arith, c.in_default.ensures.cases.0) in
    subst (AllZip R xs) (sym c.reverse.ensures.items)
    (zip_back R xs at.read.items (read_end R (reverse xs) (reverse at.mailboxes.items) at.read.items (none_left at.mailboxes.items low) at.invariant.read))
