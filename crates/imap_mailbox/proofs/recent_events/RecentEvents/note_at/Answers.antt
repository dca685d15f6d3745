use Rattle.imap_mailbox.proofs.Recently.{kept_event}
use Rattle.imap_mailbox.proofs.recent_events.RecentEvents.note_at.Goals as goal

pub returns-then-place-end-clause-kept : goal.returns-then-place-end-clause-kept
returns-then-place-end-clause-kept c = λ p u noted. kept_event _ _ _ c.note.ensures p u noted
