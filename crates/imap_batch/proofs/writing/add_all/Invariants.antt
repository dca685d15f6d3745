use Rattle.std.proofs.Common.{◌≡◌, ◌+◌, ◌<◌, ◌≤◌, not, true, length}
use Rattle.std.specs.List.{list_all}
use Rattle.imap_modseq.specs.Numbers.{max_events}
use Rattle.imap_mailbox.specs.Flags.{has_too_many}
use Rattle.imap_mailbox.specs.Held.{summary_in, own_room}
use Rattle.imap_mailbox.specs.History.{end_uid}
use Rattle.imap_batch.specs.declared.batch.NewMessage.{NewMessage}
use Rattle.imap_batch.specs.Batch.{added_seen_count}
use Rattle.imap_batch.specs.Written.{with_added}
use Rattle.imap_batch.proofs.writing.add_all.Given as goal

abbrev pub invariant-loop-message : goal.invariant-loop-message
invariant-loop-message l = record {
  done : with_added l.user l.rest.items (summary_in l.mailbox) ≡ with_added l.user l.fn.added.items (summary_in l.fn.mailbox);
  room : length l.rest.items ≤ l.mailbox.add_room;
  seen_room : added_seen_count l.rest.items ≤ own_room l.mailbox.own l.user;
  uids : 0 < length l.rest.items → l.mailbox.next + length l.rest.items ≤ end_uid;
  few : l.mailbox.shared + length l.rest.items ≤ max_events;
  keywords : list_all (λ (m : NewMessage). not (has_too_many m.flags)) l.rest.items ≡ true;
  own_left : own_room l.fn.mailbox.own l.user + added_seen_count l.rest.items
      ≤ own_room l.mailbox.own l.user + added_seen_count l.fn.added.items;
  expunge_room : l.mailbox.expunge_room ≡ l.fn.mailbox.expunge_room;
}

abbrev pub decreases-loop-message : goal.decreases-loop-message
decreases-loop-message l = length l.rest.items
