use Rattle.std.proofs.Common.{ap, ◌∙◌}
use Rattle.imap_answer.specs.Alike.{view_after_asking}
use Rattle.imap_session.specs.State.{state_of}
use Rattle.imap_view.specs.View.{view_of}
use Rattle.imap_world.specs.Stored.{world_of}
use Rattle.imap_sessions.specs.Notices.{mailbox_left}
use Rattle.imap_sessions.proofs.MailboxLeft.{viewed_after}
use Rattle.imap_core.proofs.idling.idle_mailbox.Goals as goal

pub returns-clause-mailbox : goal.returns-clause-mailbox
returns-clause-mailbox c =
    let planned = c.args.planned.now in
    let own = state_of c.args.session.now in
    let view = view_of planned.site.now planned.user.now (world_of planned.world.now) in
    c.mailbox_left.ensures.mailbox
    ∙ ap (λ view. mailbox_left view own) (viewed_after planned.site.now planned.user.now (world_of planned.world.now) planned.change.now own c.requires.found ∙ ap (λ e. view_after_asking e view) c.requires.asked)
