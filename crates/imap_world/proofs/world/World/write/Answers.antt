use Rattle.std.proofs.Common.{refl, sym, subst}
use Rattle.imap_world.specs.Ready.{Leaves, count_of}
use Rattle.imap_world.specs.Stored.{Stored}
use Rattle.imap_world.proofs.Room.{put_set_leaves}
use Rattle.imap_world.proofs.world.World.write.Goals as goal

pub returns-in-Subscribe-clause-room : goal.returns-in-Subscribe-clause-room
returns-in-Subscribe-clause-room c =
    let old : Stored = record { mailboxes = c.self.inside.mailboxes; epochs = c.self.inside.epochs; subscriptions = c.self.inside.subscriptions } in
    let new : Stored = record old { subscriptions = c.add_name.new.subscriptions } in
    subst (λ w. Leaves (count_of w) c.args.self.now new) (sym c.in-Subscribe.is)
    (subst (λ s. Leaves 0 s new) c.self.view_is (put_set_leaves old new refl refl c.add_name.ensures.room))

pub returns-in-Unsubscribe-clause-room : goal.returns-in-Unsubscribe-clause-room
returns-in-Unsubscribe-clause-room c =
    let old : Stored = record { mailboxes = c.self-in-Unsubscribe.inside.mailboxes; epochs = c.self-in-Unsubscribe.inside.epochs; subscriptions = c.self-in-Unsubscribe.inside.subscriptions } in
    let new : Stored = record old { subscriptions = c.remove_name.new.subscriptions } in
    subst (λ w. Leaves (count_of w) c.args.self.now new) (sym c.in-Unsubscribe.is)
    (subst (λ s. Leaves 0 s new) c.self-in-Unsubscribe.view_is (put_set_leaves old new refl refl c.remove_name.ensures.room))
