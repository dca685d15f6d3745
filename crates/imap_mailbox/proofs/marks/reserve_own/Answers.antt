use Rattle.imap_mailbox.proofs.marks.reserve_own.Goals as goal

pub returns-clause-counted : goal.returns-clause-counted
returns-clause-counted c messages counted = c.reserve_list-2.ensures.counted messages (c.in_ok-add_list.ensures.counted messages counted)
