use Rattle.std.specs.Prelude.{option_copied}
use Rattle.imap_serve.proofs.Pieces.{ruled_all}
use Rattle.imap_serve.proofs.telling.say.Goals as goal

pub returns-in-Ok-say_by-clause-ok : goal.returns-in-Ok-say_by-clause-ok
returns-in-Ok-say_by-clause-ok g c =
    ruled_all (g.D.Dialect.octets c.in-Ok.rule) g.D.Dialect.telling c.args.dialect.now (option_copied c.args.by) c.args.replies.now c.in-Ok.ensures
    (g.O.Write.contents c.args.output.now.inner) (g.O.Write.contents c.say_by.new.output.inner) c.in-Ok-say_by.ensures.ok
