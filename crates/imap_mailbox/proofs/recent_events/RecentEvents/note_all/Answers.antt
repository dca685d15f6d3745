use Rattle.std.proofs.Common.{arith}
use Rattle.imap_mailbox.proofs.Recently.{kept_message, one_more}
use Rattle.imap_mailbox.proofs.recent_events.RecentEvents.note_all.Goals as goal

pub note-requires : goal.note-requires
note-requires c = omega (arith, c.loop-message.invariant.ends, c.loop-message-test.true, c.requires)

pub loop-message-preserved : goal.loop-message-preserved
loop-message-preserved c = record {
  ends = omega (arith, c.loop-message.invariant.ends, one_more _ _ _ c.note.ensures);
  kept = λ m recent. kept_message _ _ _ c.note.ensures m (c.loop-message.invariant.kept m recent);
}
