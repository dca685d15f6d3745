use Rattle.imap_mailbox.proofs.AllCounted.{count_lists, all_counted}
use Rattle.imap_mailbox.proofs.counting.count_all.Goals as goal

pub returns-clause-lists : goal.returns-clause-lists
returns-clause-lists c = count_lists c.args.own.now c.change_all.new.self c.args.messages.now c.change_all.ensures.map

pub returns-clause-counted : goal.returns-clause-counted
returns-clause-counted c = all_counted c.args.own.now c.change_all.new.self c.args.messages.now c.change_all.ensures.map
