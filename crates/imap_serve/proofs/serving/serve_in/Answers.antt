use Rattle.std.proofs.Common.{subst}
use Rattle.imap_serve.specs.Served as plain
use Rattle.imap_serve.specs.Served.{Leaves}
use Rattle.imap_serve.specs.Told.{Site, site}
use Rattle.imap_serve.proofs.Scenes.{serves, never_began}
use Rattle.imap_serve.proofs.serving.serve_in.Goals as goal

pub returns-in-Ok-converse-clause-ended : goal.returns-in-Ok-converse-clause-ended
returns-in-Ok-converse-clause-ended g c =
    let s : Site _ = site c.args.who.now g.R.Room.keeps_all g.D.Dialect.telling in
    let mid = c.converse.new.room in
    let new = c.leave.new.room in
    serves g.R.Room.entries g.R.Room.refuses c.args.max_octets s (g.I.Read.remaining c.args.input.now.inner) c.args.room.now (g.O.Write.contents c.args.output.now.inner) c.args.dialect.now
    c.in-Ok-converse.end (g.I.Read.remaining c.converse.new.input.inner) mid new (g.O.Write.contents c.converse.new.output.inner) c.converse.new.dialect c.in-Ok-converse.ensures.ended
    (subst (λ who. Leaves g.R.Room.entries g.R.Room.refuses (plain.site who g.R.Room.keeps_all) mid new) c.in-Ok.ensures.who c.leave.ensures)

pub returns-in_default-clause-broke : goal.returns-in_default-clause-broke
returns-in_default-clause-broke g c =
    never_began g.R.Room.entries g.R.Room.refuses c.args.max_octets (site c.args.who.now g.R.Room.keeps_all g.D.Dialect.telling) (g.I.Read.remaining c.args.input.now.inner) c.args.room.now (g.O.Write.contents c.args.output.now.inner) c.args.dialect.now
