use Rattle.imap_world.proofs.Parts.{both_have}
use Rattle.imap_world.proofs.messages.make_room_for_parts.Goals as goal

pub returns-in-Some-clause-ok : goal.returns-in-Some-clause-ok
returns-in-Some-clause-ok c =
    both_have c.make_room_in.new.mailboxes.map c.make_room_in-in-Some.new.mailboxes.map c.args.part.now c.in-Some.other c.args.other.now c.in-Some.is c.as_ref.result c.as_ref-in-Some.result
    c.as_ref.ensures.name c.as_ref-in-Some.ensures.name c.make_room_in-in-Some.ensures.others c.in_ok-make_room_in.ensures.ok c.make_room_in-in-Some.result c.make_room_in-in-Some.ensures.ok
