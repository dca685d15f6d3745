use Rattle.imap_mailbox.specs.Summary.{gone_uids}
use Rattle.imap_mailbox.proofs.AllCounted.{gone_lists, gone_room}
use Rattle.imap_mailbox.proofs.counting.forget_gone.Goals as goal

pub returns-clause-lists : goal.returns-clause-lists
returns-clause-lists c = gone_lists c.args.own.now c.change_all.new.self (gone_uids c.args.gone.now) c.change_all.ensures.map

pub returns-clause-room : goal.returns-clause-room
returns-clause-room c = gone_room c.args.own.now c.change_all.new.self (gone_uids c.args.gone.now) c.change_all.ensures.map
