use Rattle.std.proofs.Common.{cond, None, sym, ap, ◌∙◌}
use Rattle.imap_answer.specs.Alike.{view_after_asking}
use Rattle.imap_session.specs.State.{state_of}
use Rattle.imap_view.specs.View.{view_of}
use Rattle.imap_world.specs.Stored.{world_of}
use Rattle.imap_sessions.proofs.MailboxLeft.{viewed_after}
use Rattle.imap_sessions.proofs.notices.mailbox_after.Goals as goal
use Rattle.imap_sessions.specs.Notices.{is_bad, mailbox_left}

pub returns-clause-mailbox : goal.returns-clause-mailbox
returns-clause-mailbox c =
    let planned = c.args.planned.now in
    let own = state_of c.args.session.now in
    let answer = c.args.answer.now in
    let view = view_of planned.site.now planned.user.now (world_of planned.world.now) in
    c.mailbox_left.ensures.mailbox
    ∙ ap (λ view. mailbox_left view own) (viewed_after planned.site.now planned.user.now (world_of planned.world.now) planned.change.now own c.requires.found ∙ ap (λ e. view_after_asking e view) c.requires.asked)
    ∙ sym (ap (λ b. cond b None (mailbox_left (view_after_asking answer.effect view) own)) (ap is_bad (sym c.last.ensures) ∙ sym c.is_bad.ensures ∙ c.if-is_bad.false))
