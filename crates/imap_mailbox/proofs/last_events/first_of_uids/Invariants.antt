use Rattle.std.proofs.Common.{take}
use Rattle.imap_mailbox.specs.Looked.{IsFirstOf}
use Rattle.imap_mailbox.specs.Rows.{is_among}
use Rattle.imap_mailbox.proofs.last_events.first_of_uids.Given as goal

abbrev pub invariant-loop-uid : goal.invariant-loop-uid
invariant-loop-uid l = IsFirstOf (λ uid. is_among uid (take l.uid-index l.uids)) l.number l.start l.end l.first l.rows
