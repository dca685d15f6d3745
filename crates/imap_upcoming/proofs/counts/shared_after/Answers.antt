use Rattle.std.proofs.Common.{ap, length, ◌∙◌, arith}
use Rattle.imap_batch.proofs.Entering.{writes_are_entered}
use Rattle.imap_batch.proofs.Kept.{events_left}
use Rattle.imap_batch.specs.Batch.{flag_count}
use Rattle.imap_mailbox.specs.Held.{summary_in}
use Rattle.imap_upcoming.proofs.counts.shared_after.Goals as goal

pub returns : goal.returns
returns c =
    let s = summary_in c.args.mailbox.now in
    let entered = writes_are_entered s c.args.write.now c.requires in
    let left = events_left c.args.write.now.batch s c.requires.numbers in
    let flags = c.flag_count-flags.ensures.count ∙ ap flag_count c.as_slice-2.ensures in
    let added = ap length c.as_slice.ensures in
    let expunged = ap length c.as_slice-3.ensures in
    record {
      shared = omega (arith, entered.shared, flags, added, expunged, c.shared_len-shared.ensures.events);
      few = omega (arith, left, flags, added, expunged, c.shared_len-shared.ensures.events);
    }
