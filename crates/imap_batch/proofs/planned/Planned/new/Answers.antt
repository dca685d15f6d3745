use Rattle.std.proofs.Common.{◌+◌, length, sym, ap, subst, ◌∙◌, ◌++◌, arith}
use Rattle.std.specs.Prelude.{nat_le}
use Rattle.std.proofs.lemmas.Bool.{and_parts}
use Rattle.imap_modseq.specs.Numbers.{max_events}
use Rattle.imap_mailbox.specs.Held.{summary_in}
use Rattle.imap_mailbox.specs.Own.{own_at}
use Rattle.imap_mailbox.specs.Order.{AreRowsInOrder}
use Rattle.imap_mailbox.specs.Summary.{AreRising, rows_of, uids_in}
use Rattle.imap_batch.specs.Batch.{are_known, event_count, has_uids, mark_uids}
use Rattle.imap_batch.specs.Planned.{own_after_all, rows_added, rows_left, rows_marked}
use Rattle.imap_batch.proofs.Kept.{events_left}
use Rattle.imap_batch.proofs.Planning.{planned_of}
use Rattle.imap_batch.proofs.Steps.{known_rising, uids_left}
use Rattle.imap_batch.proofs.planned.Planned.new.Goals as goal

pub first_left-place-requires-clause-expunged : goal.first_left-place-requires-clause-expunged
first_left-place-requires-clause-expunged c =
    let b = c.args.write.now.batch in
    let known = uids_in (summary_in c.args.mailbox.now).messages in
    subst AreRising (sym c.as_slice-expunged.ensures) (known_rising b.expunged known (and_parts (are_known 0 (mark_uids b.marks) known) (are_known 0 b.expunged known) c.requires.messages).1)

pub invariant_of-result : goal.invariant_of-result
invariant_of-result c =
    let b = c.args.write.now.batch in
    let s = summary_in c.args.mailbox.now in
    let known = uids_in c.args.mailbox.now.messages in
    let left = events_left b s c.requires.numbers in
    let added = ap length c.as_slice-added.ensures in
    let uids = (and_parts (has_uids (length b.added) s.next) (nat_le (s.shared + event_count b) max_events) c.requires.numbers).0 in
    record {
      marks = c.first_left-place.ensures.marks;
      starts = c.first_left-place.ensures.starts;
      order = (c.args.mailbox.now.next, subst (λ n. AreRowsInOrder c.args.mailbox.now.next n c.rows-rows.result) (sym c.highest.ensures.number) c.rows-rows.ensures.valid);
      expunged = subst AreRising (sym c.as_slice-expunged.ensures) (known_rising b.expunged known (and_parts (are_known 0 (mark_uids b.marks) known) (are_known 0 b.expunged known) c.requires.messages).1);
      added = record {
        shared = omega (arith, left, added, c.shared_len-shared.ensures.events);
        own = c.own_len-own.ensures.few;
        uids = λ lt. omega (arith, uids_left (length b.added) s.next uids (omega (arith, lt, added)), added, c.next_uid-uid.ensures.next);
      };
    }

pub returns : goal.returns
returns c =
    let b = c.args.write.now.batch in
    let s = summary_in c.args.mailbox.now in
    let user = c.as_str-user.ensures.text in
    let own = c.own_len-own.ensures.events ∙ ap (λ u. length (own_at s.own u).befores) user in
    let after = c.own_after_all.ensures.own ∙ λ i. own_after_all (own i) (c.as_slice-added.ensures i) in
    let rows = c.rows-rows.ensures.rows ∙ ap (rows_of s) user in
    ap (λ rows. rows ++ rows_added c.next_uid-uid.result c.shared_len-shared.result c.own_len-own.result c.as_slice-added.result.now) c.first_left-place.ensures.rows
    ∙ (λ i. rows_left (c.as_slice-expunged.ensures i)
    (rows_marked (c.shared_len-shared.ensures.events i + length (c.as_slice-added.ensures i)) (after i) (c.as_slice.ensures i) (rows i))
    ++ rows_added (c.next_uid-uid.ensures.next i) (c.shared_len-shared.ensures.events i) (own i) (c.as_slice-added.ensures i))
    ∙ planned_of b s c.requires.messages c.next_uid-uid.ensures.valid
