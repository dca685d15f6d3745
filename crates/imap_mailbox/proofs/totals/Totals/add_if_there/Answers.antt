use Rattle.std.proofs.Common.{◌∙◌, length, ap, sym, arith}
use Rattle.imap_mailbox.proofs.Summing.{with_found, with_none, within_messages}
use Rattle.imap_mailbox.proofs.totals.Totals.add_if_there.Goals as goal

pub offset_bounds-messages-place : goal.offset_bounds-messages-place
offset_bounds-messages-place c =
    let within = within_messages c.args.uid c.args.messages.now c.in-Some.place (sym c.find_message_near.ensures ∙ c.in-Some.is) in
    omega (arith, within)

pub bounds-messages-place : goal.bounds-messages-place
bounds-messages-place c = within_messages c.args.uid c.args.messages.now c.in-Some.place (sym c.find_message_near.ensures ∙ c.in-Some.is)

pub returns-in-Some : goal.returns-in-Some
returns-in-Some c =
    with_found c.args.uid c.requires.messages.0 c.requires.messages.1 c.args.messages.now c.in-Some.place _ c.index-messages-place.result c.args.self.now c.add.new.self
    c.requires.messages.2 (sym c.find_message_near.ensures ∙ c.in-Some.is) c.index-messages-place.is (ap length c.as_slice.ensures) c.add.ensures

pub returns-in-None : goal.returns-in-None
returns-in-None c = with_none c.args.uid c.args.messages.now c.args.self.now (sym c.find_message_near.ensures ∙ c.in-None.is)
