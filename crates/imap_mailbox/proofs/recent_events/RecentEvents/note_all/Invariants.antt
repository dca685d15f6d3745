use Rattle.std.proofs.Common.{◌≡◌, ◌+◌}
use Rattle.imap_mailbox.specs.declared.message.Message.{Message}
use Rattle.imap_mailbox.specs.Recent.{IsRecent, end_of}
use Rattle.imap_mailbox.proofs.recent_events.RecentEvents.note_all.Given as goal

abbrev pub invariant-loop-message : goal.invariant-loop-message
invariant-loop-message l = record {
  ends : end_of l.self ≡ end_of l.fn.self + l.message-index;
  kept : (m : Message) → IsRecent l.fn.self m → IsRecent l.self m;
}
