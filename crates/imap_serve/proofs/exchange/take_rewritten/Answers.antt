use Rattle.std.proofs.Common.{◌∙◌, sym}
use Rattle.imap_serve.proofs.Scenes.{breaks_off, frame_asked, rejected_asked, ready_all, ready_part, hangup_all, hangup_part}
use Rattle.imap_serve.proofs.exchange.take_rewritten.Goals as goal

-- ---- a command

pub request-requires-clause-fits : goal.request-requires-clause-fits
request-requires-clause-fits g c κs within = frame_asked g.D.Dialect.telling c.args.dialect.now c.args.by.now c.in-Ok.act c.in-Whole.octets (sym c.in-Whole.is ∙ c.requires) c.in-Ok.ensures.asks

pub returns-in-Whole-clause-err : goal.returns-in-Whole-clause-err
returns-in-Whole-clause-err g c = breaks_off _ _ _ _

-- ---- a command whose literal was refused

pub request-requires-in-Ok-act_of_rejected-clause-fits : goal.request-requires-in-Ok-act_of_rejected-clause-fits
request-requires-in-Ok-act_of_rejected-clause-fits g c κs within = rejected_asked g.D.Dialect.telling c.args.dialect.now c.args.by.now c.in-Ok-act_of_rejected.act c.in-Reject.tag (sym c.in-Reject.is ∙ c.requires) c.in-Ok-act_of_rejected.ensures

pub returns-in-Reject-clause-err : goal.returns-in-Reject-clause-err
returns-in-Reject-clause-err g c = breaks_off _ _ _ _

-- ---- a literal that is waited for

pub returns-in-Ok-reply-clause-ok : goal.returns-in-Ok-reply-clause-ok
returns-in-Ok-reply-clause-ok g c =
    ready_all _ _ _ _ _ c.args.dialect.now c.reply.new.dialect c.args.by.now (sym c.in-Continue.is ∙ c.requires) c.in-Ok-reply.ensures.moved c.in-Ok-reply.ensures.ok

pub returns-in-Continue-clause-err : goal.returns-in-Continue-clause-err
returns-in-Continue-clause-err g c =
    ready_part _ _ _ _ _ c.args.dialect.now c.reply.new.dialect c.args.by.now (sym c.in-Continue.is ∙ c.requires) c.in-Err-reply.ensures.err

-- ---- the end

pub returns-in-Ok-reply-2-clause-ok : goal.returns-in-Ok-reply-2-clause-ok
returns-in-Ok-reply-2-clause-ok g c =
    hangup_all _ _ _ _ _ c.args.dialect.now c.reply-in-Hangup.new.dialect c.args.by.now (sym c.in-Hangup.is ∙ c.requires) c.in-Ok-reply-2.ensures.ok

pub returns-clause-err : goal.returns-clause-err
returns-clause-err g c =
    hangup_part _ _ _ _ _ c.args.dialect.now c.reply-in-Hangup.new.dialect c.args.by.now (sym c.in-Hangup.is ∙ c.requires) c.in-Err-reply-2.ensures.err
