use Rattle.imap_mailbox.proofs.Recently.{noted_after}
use Rattle.imap_mailbox.proofs.recent_events.RecentEvents.note.Goals as goal

pub returns : goal.returns
returns c =
    let kept = c.forget_if_full.ensures in
    let pushed = c.push_or_forget.ensures in
    noted_after c.args.self.now c.forget_if_full.new.self c.push_or_forget.new.self c.args.uid kept.first kept.within kept.few kept.uids pushed.first pushed.few pushed.uids
