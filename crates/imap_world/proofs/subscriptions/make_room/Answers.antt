use Rattle.imap_world.proofs.subscriptions.make_room.Goals as goal

pub returns-clause-room : goal.returns-clause-room
returns-clause-room c = λ user more h. c.reserve_names-2.ensures.room user more (c.in_ok-add_user.ensures.room user more h)
