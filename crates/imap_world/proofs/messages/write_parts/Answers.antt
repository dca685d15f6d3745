use Rattle.imap_world.specs.Mailbox.{plain_all}
use Rattle.imap_world.proofs.Parts.{both_written, first_room, second_may, second_room}
use Rattle.imap_world.proofs.messages.write_parts.Goals as goal

pub write_part-requires-clause-room : goal.write_part-requires-clause-room
write_part-requires-clause-room c =
    let old = c.args.mailboxes.now.map in
    first_room old (plain_all old) c.args.part c.args.other c.requires.room c.requires.may

pub write_part-requires-in-Some-clause-room : goal.write_part-requires-in-Some-clause-room
write_part-requires-in-Some-clause-room c =
    second_room c.args.mailboxes.now.map c.write_part.new.mailboxes.map c.args.part c.in-Some.other c.write_part.ensures.others c.args.other c.in-Some.is c.requires.may c.requires.room

pub write_part-requires-in-Some-clause-may : goal.write_part-requires-in-Some-clause-may
write_part-requires-in-Some-clause-may c =
    second_may c.args.mailboxes.now.map c.write_part.new.mailboxes.map c.args.part c.in-Some.other c.write_part.ensures.others c.args.other c.in-Some.is c.requires.may

pub returns-in-Some-clause-mailboxes : goal.returns-in-Some-clause-mailboxes
returns-in-Some-clause-mailboxes c =
    both_written c.args.mailboxes.now.map c.write_part.new.mailboxes.map c.args.part c.in-Some.other c.write_part.ensures.others c.args.other c.in-Some.is c.requires.may
    c.write_part-in-Some.new.mailboxes.map c.write_part.ensures.mailboxes c.write_part-in-Some.ensures.mailboxes
