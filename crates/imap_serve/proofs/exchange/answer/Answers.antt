use Rattle.std.proofs.Common.{◌∙◌, ◌||◌, ap}
use Rattle.std.specs.Prelude.{option_copied}
use Rattle.imap_serve.specs.Events.{begin_idle}
use Rattle.imap_serve.proofs.Scenes.{made_all, made_part, not_made}
use Rattle.imap_serve.proofs.exchange.answer.Goals as goal

-- ---- it was made

pub returns-in-Ok-tell-clause-ok : goal.returns-in-Ok-tell-clause-ok
returns-in-Ok-tell-clause-ok g c =
    made_all g.R.Room.keeps_all g.D.Dialect.telling c.args.flow.idles c.args.step.now c.in-Ok.receipt c.args.dialect.now (option_copied c.args.by)
    (g.R.Room.entries c.args.room.now) (g.R.Room.entries c.step.new.self) (g.O.Write.contents c.args.output.now.inner) (g.O.Write.contents c.tell.new.output.inner) c.tell.new.dialect
    c.in-Ok.ensures.ok c.requires.fits c.requires.polls c.in-Ok-tell.flow.closed c.in-Ok-tell.flow.idles
    c.in-Ok-tell.ensures.moved c.in-Ok-tell.ensures.ok c.in-Ok-tell.ensures.closed (c.in-Ok-tell.ensures.idles ∙ ap (λ idles. idles || begin_idle c.in-Ok.receipt.replies) c.made.ensures)

pub returns-in-Ok-clause-err : goal.returns-in-Ok-clause-err
returns-in-Ok-clause-err g c =
    made_part g.R.Room.keeps_all g.D.Dialect.telling c.args.flow.idles c.args.step.now c.in-Ok.receipt c.args.dialect.now (option_copied c.args.by)
    (g.R.Room.entries c.args.room.now) (g.R.Room.entries c.step.new.self) (g.O.Write.contents c.args.output.now.inner) (g.O.Write.contents c.tell.new.output.inner) c.tell.new.dialect
    c.in-Ok.ensures.ok c.requires.fits c.requires.polls c.in-Err.ensures.err

-- ---- it was refused

pub returns-in-Err-Memory-clause-err : goal.returns-in-Err-Memory-clause-err
returns-in-Err-Memory-clause-err g c = not_made _ _ _ _ _ _ _ c.in-Err-Memory.ensures.err

pub returns-clause-err : goal.returns-clause-err
returns-clause-err g c = not_made _ _ _ _ _ _ _ c.in-Err-Exhausted.ensures.err
