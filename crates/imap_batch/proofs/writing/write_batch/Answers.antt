use Rattle.std.proofs.Common.{length, sym, ap, subst, arith}
use Rattle.std.proofs.lemmas.Bool.{and_parts}
use Rattle.imap_mailbox.specs.Held.{summary_in}
use Rattle.imap_mailbox.specs.Summary.{Summary, AreRising, uids_in}
use Rattle.imap_batch.specs.Batch.{are_known, mark_uids, flag_count}
use Rattle.imap_batch.proofs.Kept.{events_left}
use Rattle.imap_batch.proofs.Steps.{all_added, known_rising, marks_fewer}
use Rattle.imap_batch.proofs.writing.write_batch.Goals as goal

pub mark_all-requires-clause-few : goal.mark_all-requires-clause-few
mark_all-requires-clause-few c =
    let b = c.args.write.batch in
    let s = summary_in c.args.mailbox.now in
    let first = all_added c.as_str.result.now c.into_vec.result.items s in
    omega (arith, events_left b s c.requires.may.numbers, first.shared, ap (λ (t : Summary). t.shared) c.add_all.ensures.contents, ap length c.into_vec.ensures, ap flag_count c.into_vec-2.ensures)

pub expunge_all_reserved-requires-clause-rising : goal.expunge_all_reserved-requires-clause-rising
expunge_all_reserved-requires-clause-rising c =
    let b = c.args.write.batch in
    let known = uids_in c.args.mailbox.now.messages in
    subst AreRising (sym c.as_slice.ensures) (known_rising b.expunged known (and_parts (are_known 0 (mark_uids b.marks) known) (are_known 0 b.expunged known) c.requires.may.messages).1)

pub expunge_all_reserved-requires-clause-few : goal.expunge_all_reserved-requires-clause-few
expunge_all_reserved-requires-clause-few c =
    let b = c.args.write.batch in
    let s = summary_in c.args.mailbox.now in
    let first = all_added c.as_str.result.now c.into_vec.result.items s in
    let second = marks_fewer c.as_str-2.result.now c.into_vec-2.result.items (summary_in c.add_all.new.mailbox) in
    omega (
      arith,
      events_left b s c.requires.may.numbers,
      first.shared,
      second.shared,
      ap (λ (t : Summary). t.shared) c.add_all.ensures.contents,
      ap (λ (t : Summary). t.shared) c.mark_all.ensures.contents,
      ap length c.into_vec.ensures,
      ap flag_count c.into_vec-2.ensures,
      ap length c.as_slice.ensures,
    )
