use Rattle.std.proofs.Common.{◌∷◌, [], ◌++◌, ap, ◌∙◌}
use Rattle.imap_session.proofs.Comparing.{changed_line}
use Rattle.imap_session.proofs.plain_notices.push_changed.Goals as goal

pub returns : goal.returns
returns g c = λ row later is.
    c.in_ok-push.ensures.items
    ∙ ap (λ line. c.args.lines.now.items ++ (line ∷ [])) c.in_ok-line.ensures.line
    ∙ changed_line c.args.options.now c.args.up_to c.args.number row c.in_ok-message.message c.args.lines.now.items (c.in_ok-message.ensures row later is) c.if-message-up_to.false
