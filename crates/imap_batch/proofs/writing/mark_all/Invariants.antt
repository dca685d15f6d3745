use Rattle.std.proofs.Common.{◌≡◌, ◌+◌, ◌≤◌, true, length}
use Rattle.std.specs.List.{list_all}
use Rattle.imap_modseq.specs.Numbers.{max_events}
use Rattle.imap_mailbox.specs.Held.{summary_in, own_room}
use Rattle.imap_batch.specs.declared.batch.FlagUpdate.{FlagUpdate}
use Rattle.imap_batch.specs.Batch.{are_few, flag_count, mark_seen_count}
use Rattle.imap_batch.specs.Written.{with_marks}
use Rattle.imap_batch.proofs.writing.mark_all.Given as goal

abbrev pub invariant-loop-mark : goal.invariant-loop-mark
invariant-loop-mark l = record {
  done : with_marks l.user l.rest.items (summary_in l.mailbox) ≡ with_marks l.user l.fn.marks.items (summary_in l.fn.mailbox);
  seen_room : mark_seen_count l.rest.items ≤ own_room l.mailbox.own l.user;
  few : l.mailbox.shared + flag_count l.rest.items ≤ max_events;
  keywords : list_all (λ (k : FlagUpdate). are_few k.flags) l.rest.items ≡ true;
  expunge_room : l.mailbox.expunge_room ≡ l.fn.mailbox.expunge_room;
}

abbrev pub decreases-loop-mark : goal.decreases-loop-mark
decreases-loop-mark l = length l.rest.items
