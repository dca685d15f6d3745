use Rattle.std.proofs.Common.{◌≡◌, ◌≤◌, ◌∷◌, ◌∙◌, arith, length, of_z, refl, reverse, rules, subst, sym, to_z, w64}
use Rattle.std.specs.List.{AllZip}
use Rattle.imap_message_tables.proofs.Ends.{none_left, turned}
use Rattle.imap_tables.proofs.Zipped.{first_holds, rest_holds}
use Rattle.imap_tables.specs.declared.stored.StoredMailbox.{StoredMailbox}
use Rattle.imap_tables.specs.declared.stored.StoredSeenFlag.{StoredSeenFlag}
use Rattle.imap_restore.specs.Parts.{HasOwn, IsChangeFor, IsOwn, IsWithOwn, LeavesOthers, below}
use Rattle.imap_restore.specs.declared.parts.MailboxWithOwn.{MailboxWithOwn}
use Rattle.imap_restore.proofs.Backwards.{all_reverse, zip_back}
use Rattle.imap_restore.proofs.Taken.{still_next, still_of}
use Rattle.imap_stored_values.proofs.Words.{same_fault}
use Rattle.imap_restore.proofs.Zipped.{HasRead, read_end, read_next}
use Rattle.imap_restore.proofs.parts.with_own.Goals as goal

pub returns-in-Err-clause-bad : goal.returns-in-Err-clause-bad
returns-in-Err-clause-bad c is all =
    let marks = c.args.marks.items in
    let boxes = c.mailboxes.mailboxes.items in
    let rest = c.pop.new.self.items in
    let x = c.in-Some.mailbox in
    let e = c.in-Some.ensures.items in
    let same = still_of (λ (mark : StoredSeenFlag). mark.mailbox) (λ (s : StoredMailbox). s.id) marks boxes rest x c.mailboxes.marks.items e c.mailboxes.invariant.marks in
    let has = first_holds (HasOwn marks) (reverse boxes) (reverse rest) x (turned boxes rest x e) (c.mailboxes.invariant.has (all_reverse (HasOwn marks) c.args.mailboxes.items all)) in
    let z : AllZip IsChangeFor (below (λ (mark : StoredSeenFlag). mark.mailbox) x.id c.mailboxes.marks.items) has.0 = subst (λ l. AllZip IsChangeFor l has.0) (sym same) has.1 in
    c.take_below.ensures.bad (c.in-Err.is ∙ same_fault c.in-Err.error is) has.0 (search (rules, z))

pub mailboxes-preserved : goal.mailboxes-preserved
mailboxes-preserved c =
    let marks = c.args.marks.items in
    let boxes = c.mailboxes.mailboxes.items in
    let rest = c.pop.new.self.items in
    let x = c.in-Some.mailbox in
    let e = c.in-Some.ensures.items in
    let t : reverse boxes ≡ x ∷ reverse rest = turned boxes rest x e in
    let same = still_of (λ (mark : StoredSeenFlag). mark.mailbox) (λ (s : StoredMailbox). s.id) marks boxes rest x c.mailboxes.marks.items e c.mailboxes.invariant.marks in
    let one : MailboxWithOwn = record { stored = x; own = c.in-Ok.own } in
    let got : AllZip IsChangeFor (below (λ (mark : StoredSeenFlag). mark.mailbox) x.id c.mailboxes.marks.items) c.in-Ok.own.items = search rules in
    let at : to_z w64 (of_z w64 x.id) ≡ x.id = search rules in
    let leaves : LeavesOthers (λ (mark : StoredSeenFlag). mark.mailbox) x.id c.mailboxes.marks.items c.take_below.new.rows.items =
    subst (λ k. LeavesOthers (λ (mark : StoredSeenFlag). mark.mailbox) k c.mailboxes.marks.items c.take_below.new.rows.items) at c.in-Ok.ensures.left in
    let own : IsOwn marks x c.in-Ok.own.items = subst (λ l. AllZip IsChangeFor l c.in-Ok.own.items) same got in
    record {
      read = subst (HasRead (IsWithOwn marks) (reverse c.args.mailboxes.items) (reverse rest)) (sym c.in-Ok-push.ensures.items)
          (read_next (IsWithOwn marks) (reverse c.args.mailboxes.items) (reverse boxes) (reverse rest) x one c.mailboxes.all.items t (refl, own) c.mailboxes.invariant.read);
      has = λ all. rest_holds (HasOwn marks) (reverse boxes) (reverse rest) x t (c.mailboxes.invariant.has all);
      marks = still_next (λ (mark : StoredSeenFlag). mark.mailbox) (λ (s : StoredMailbox). s.id) marks boxes rest x c.mailboxes.marks.items c.take_below.new.rows.items e leaves c.mailboxes.invariant.marks;
    }

pub returns-clause-ok : goal.returns-clause-ok
returns-clause-ok c =
    let at = c.mailboxes in
    let R = IsWithOwn c.args.marks.items in
    let xs = c.args.mailboxes.items in
    let low : length at.mailboxes.items ≤ 0 = omega (arith, c.in_default.ensures.cases.0) in
    subst (AllZip R xs) (sym c.reverse.ensures.items)
    (zip_back R xs at.all.items (read_end R (reverse xs) (reverse at.mailboxes.items) at.all.items (none_left at.mailboxes.items low) at.invariant.read))
