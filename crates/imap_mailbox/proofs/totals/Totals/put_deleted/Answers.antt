use Rattle.std.proofs.Common.{◌∙◌, ap, sym, arith}
use Rattle.imap_mailbox.specs.declared.message.Message.{Message}
use Rattle.imap_mailbox.proofs.Summing.{was_counted, moved_totals, unmoved_totals, within_messages}
use Rattle.imap_mailbox.proofs.totals.Totals.put_deleted.Goals as goal

pub offset_bounds-messages-place : goal.offset_bounds-messages-place
offset_bounds-messages-place c =
    let within = within_messages c.args.uid c.args.messages.now c.in-Some.place (sym c.find_message.ensures ∙ c.in-Some.is) in
    omega (arith, within)

pub bounds-messages-place : goal.bounds-messages-place
bounds-messages-place c = within_messages c.args.uid c.args.messages.now c.in-Some.place (sym c.find_message.ensures ∙ c.in-Some.is)

pub move_deleted-requires-clause-there : goal.move_deleted-requires-clause-there
move_deleted-requires-clause-there c =
    was_counted c.args.uid c.requires.messages.0 c.requires.messages.1 c.args.messages.now c.in-Some.place c.index-messages-place.result c.index-messages-place.result.flags.deleted c.args.deleted c.requires.messages.2
    (sym c.find_message.ensures ∙ c.in-Some.is) (ap (λ (m : Message). m.flags.deleted) c.index-messages-place.is) c.args.self.now c.requires.totals

pub returns-in-Some : goal.returns-in-Some
returns-in-Some c =
    moved_totals c.args.uid c.requires.messages.0 c.requires.messages.1 c.args.messages.now c.in-Some.place c.index-messages-place.result c.index-messages-place.result.flags.deleted c.args.deleted c.requires.messages.2
    (sym c.find_message.ensures ∙ c.in-Some.is) (ap (λ (m : Message). m.flags.deleted) c.index-messages-place.is) c.args.self.now c.requires.totals c.move_deleted.new.self c.move_deleted.ensures.deleted c.move_deleted.ensures.size

pub returns-in-None : goal.returns-in-None
returns-in-None c = λ flags p same. unmoved_totals c.args.uid c.args.messages.now c.args.self.now (sym c.find_message.ensures ∙ c.in-None.is) c.requires.totals flags p
