use Rattle.sqlite.specs.Held.{state}
use Rattle.imap_message_tables.proofs.Calling.{made_so}
use Rattle.imap_message_tables.proofs.saving.make_below.Goals as goal

pub returns-in-RemoveAcl-clause-call : goal.returns-in-RemoveAcl-clause-call
returns-in-RemoveAcl-clause-call g c = rw c.in-RemoveAcl.is (made_so (state g.S.Store c.args.tx.now.conn.now) (state g.S.Store c.delete_acl.new.tx.conn.now) _ c.delete_acl.result c.made.result c.made.ensures c.delete_acl.ensures.call)

pub returns-in-AddEntry-clause-call : goal.returns-in-AddEntry-clause-call
returns-in-AddEntry-clause-call g c = rw c.in-AddEntry.is (rw c.deref.ensures at (made_so (state g.S.Store c.args.tx.now.conn.now) (state g.S.Store c.insert_acl.new.tx.conn.now) _ c.insert_acl.result c.made-in-AddEntry.result c.made-in-AddEntry.ensures c.insert_acl.ensures.call))

pub returns-in-FlagMessage-clause-call : goal.returns-in-FlagMessage-clause-call
returns-in-FlagMessage-clause-call g c = rw c.in-FlagMessage.is c.flag_message.ensures.call

pub returns-in-RemoveMessage-clause-call : goal.returns-in-RemoveMessage-clause-call
returns-in-RemoveMessage-clause-call g c = rw c.in-RemoveMessage.is c.remove_message.ensures.call

pub returns-in-AddGone-clause-call : goal.returns-in-AddGone-clause-call
returns-in-AddGone-clause-call g c = rw c.in-AddGone.is (made_so (state g.S.Store c.args.tx.now.conn.now) (state g.S.Store c.insert_gone.new.tx.conn.now) _ c.insert_gone.result c.made-in-AddGone.result c.made-in-AddGone.ensures c.insert_gone.ensures.call)

pub returns-in-AddMark-clause-call : goal.returns-in-AddMark-clause-call
returns-in-AddMark-clause-call g c = rw c.in-AddMark.is (rw c.deref-in-AddMark.ensures at (made_so (state g.S.Store c.args.tx.now.conn.now) (state g.S.Store c.insert_mark.new.tx.conn.now) _ c.insert_mark.result c.made-in-AddMark.result c.made-in-AddMark.ensures c.insert_mark.ensures.call))

pub returns-in-RemoveMark-clause-call : goal.returns-in-RemoveMark-clause-call
returns-in-RemoveMark-clause-call g c = rw c.in-RemoveMark.is (rw c.deref-in-RemoveMark.ensures at (made_so (state g.S.Store c.args.tx.now.conn.now) (state g.S.Store c.delete_mark.new.tx.conn.now) _ c.delete_mark.result c.made-in-RemoveMark.result c.made-in-RemoveMark.ensures c.delete_mark.ensures.call))

pub returns-in-Count-clause-call : goal.returns-in-Count-clause-call
returns-in-Count-clause-call g c = rw c.in-Count.is (made_so (state g.S.Store c.args.tx.now.conn.now) (state g.S.Store c.count_mailbox.new.tx.conn.now) _ c.count_mailbox.result c.made-in-Count.result c.made-in-Count.ensures c.count_mailbox.ensures.call)
