use Rattle.sqlite.specs.Held.{state}
use Rattle.imap_message_tables.proofs.Calling.{made_so}
use Rattle.imap_message_tables.proofs.saving.make_change.Goals as goal

pub returns-in-AddMailbox-clause-call : goal.returns-in-AddMailbox-clause-call
returns-in-AddMailbox-clause-call g c = rw c.in-AddMailbox.is (rw (c.deref.ensures, c.deref-in-AddMailbox.ensures) at (made_so (state g.S.Store c.args.tx.now.conn.now) (state g.S.Store c.insert_mailbox.new.tx.conn.now) _ c.insert_mailbox.result c.made.result c.made.ensures c.insert_mailbox.ensures.call))

pub returns-in-MoveMailbox-clause-call : goal.returns-in-MoveMailbox-clause-call
returns-in-MoveMailbox-clause-call g c = rw c.in-MoveMailbox.is (rw (c.deref-in-MoveMailbox.ensures, c.deref-in-MoveMailbox-2.ensures, c.deref-in-MoveMailbox-3.ensures) at (made_so (state g.S.Store c.args.tx.now.conn.now) (state g.S.Store c.move_mailbox.new.tx.conn.now) _ c.move_mailbox.result c.made-in-MoveMailbox.result c.made-in-MoveMailbox.ensures c.move_mailbox.ensures.call))

pub returns-in-RemoveMailbox-clause-call : goal.returns-in-RemoveMailbox-clause-call
returns-in-RemoveMailbox-clause-call g c = rw c.in-RemoveMailbox.is (rw (c.deref-in-RemoveMailbox.ensures, c.deref-in-RemoveMailbox-2.ensures) at (made_so (state g.S.Store c.args.tx.now.conn.now) (state g.S.Store c.delete_mailbox.new.tx.conn.now) _ c.delete_mailbox.result c.made-in-RemoveMailbox.result c.made-in-RemoveMailbox.ensures c.delete_mailbox.ensures.call))

pub returns-in-PutEpoch-clause-call : goal.returns-in-PutEpoch-clause-call
returns-in-PutEpoch-clause-call g c = rw c.in-PutEpoch.is c.put_epoch.ensures.call

pub returns-in-RemoveSubscription-clause-call : goal.returns-in-RemoveSubscription-clause-call
returns-in-RemoveSubscription-clause-call g c = rw c.in-RemoveSubscription.is (rw (c.deref-in-RemoveSubscription.ensures, c.deref-in-RemoveSubscription-2.ensures, c.deref-in-RemoveSubscription-3.ensures) at (made_so (state g.S.Store c.args.tx.now.conn.now) (state g.S.Store c.delete_subscription.new.tx.conn.now) _ c.delete_subscription.result c.made-in-RemoveSubscription.result c.made-in-RemoveSubscription.ensures c.delete_subscription.ensures.call))

pub returns-in-AllowGaps-clause-call : goal.returns-in-AllowGaps-clause-call
returns-in-AllowGaps-clause-call g c = rw c.in-AllowGaps.is (made_so (state g.S.Store c.args.tx.now.conn.now) (state g.S.Store c.allow_gaps.new.tx.conn.now) _ c.allow_gaps.result c.made-in-AllowGaps.result c.made-in-AllowGaps.ensures c.allow_gaps.ensures.call)
