use Rattle.std.proofs.Common.{◌+◌, ◌++◌, length, sym, ap, ◌∙◌, arith}
use Rattle.imap_mailbox.specs.Summary.{uids_in}
use Rattle.imap_mailbox.specs.Expunging.{gone_at}
use Rattle.imap_mailbox.proofs.Finding.{among_found, among_nowhere}
use Rattle.imap_mailbox.proofs.ExpungedAll.{there_more, there_absent, there_pushed}
use Rattle.imap_mailbox.proofs.expunging.push_if_there.Goals as goal

pub returns-in-Some-clause-items : goal.returns-in-Some-clause-items
returns-in-Some-clause-items c = λ uids.
    there_pushed c.args.uid c.args.place uids c.args.messages.now c.args.gone.now.items c.push_reserved.new.self.items
    (among_found c.args.uid (uids_in c.args.messages.now) _ (sym c.find_message_near.ensures ∙ c.in-Some.is)) c.push_reserved.ensures.items

pub returns-in-Some-clause-next : goal.returns-in-Some-clause-next
returns-in-Some-clause-next c = λ uids.
    let more = ap length (there_more c.args.uid uids c.args.messages.now (among_found c.args.uid (uids_in c.args.messages.now) _ (sym c.find_message_near.ensures ∙ c.in-Some.is))) in
    omega (arith, more)

pub returns-in-None-clause-items : goal.returns-in-None-clause-items
returns-in-None-clause-items c = λ uids.
    ap (λ us. c.args.gone.now.items ++ gone_at c.args.place us) (sym (there_absent c.args.uid uids c.args.messages.now (among_nowhere c.args.uid (uids_in c.args.messages.now) (sym c.find_message_near.ensures ∙ c.in-None.is))))

pub returns-in-None-clause-next : goal.returns-in-None-clause-next
returns-in-None-clause-next c = λ uids.
    ap (λ us. c.args.place + length us) (sym (there_absent c.args.uid uids c.args.messages.now (among_nowhere c.args.uid (uids_in c.args.messages.now) (sym c.find_message_near.ensures ∙ c.in-None.is))))
