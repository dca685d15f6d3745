use Rattle.std.proofs.Common.{false}
use Rattle.imap_serve.specs.Told.{Scene, scene, Site, site}
use Rattle.imap_serve.proofs.Scenes.{opened_closes, opened_breaks, opened_ended, opened_broke, caused_writer}
use Rattle.imap_serve.proofs.serving.converse.Goals as goal

pub returns-then-flow-clause-ended : goal.returns-then-flow-clause-ended
returns-then-flow-clause-ended g c =
    let s : Site _ = site c.args.session.now.who.now g.R.Room.keeps_all g.D.Dialect.telling in
    let a : Scene _ = scene (g.R.Room.entries c.args.room.now) (g.O.Write.contents c.args.output.now.inner) c.args.dialect.now in
    let b : Scene _ = scene (g.R.Room.entries c.make.new.room) (g.O.Write.contents c.make.new.output.inner) c.make.new.dialect in
    opened_closes c.args.max_octets s false c.in-Ok.flow.idles (g.I.Read.remaining c.args.input.now.inner) a b c.in-Ok.flow.closed c.if-flow.true c.in-Ok.ensures.ok

pub returns-in-Err-clause-broke : goal.returns-in-Err-clause-broke
returns-in-Err-clause-broke g c =
    let s : Site _ = site c.args.session.now.who.now g.R.Room.keeps_all g.D.Dialect.telling in
    let a : Scene _ = scene (g.R.Room.entries c.args.room.now) (g.O.Write.contents c.args.output.now.inner) c.args.dialect.now in
    let b : Scene _ = scene (g.R.Room.entries c.make.new.room) (g.O.Write.contents c.make.new.output.inner) c.make.new.dialect in
    opened_breaks c.args.max_octets s false (g.I.Read.remaining c.args.input.now.inner) a b c.in-Err.error c.make.new.output.log c.in-Err.ensures.cause c.in-Err.ensures.err

pub returns-in-Err-clause-cause : goal.returns-in-Err-clause-cause
returns-in-Err-clause-cause g c = caused_writer c.in-Err.error c.args.input.now.log c.make.new.output.log c.in-Err.ensures.cause

pub returns-in-Ok-talk-clause-ended : goal.returns-in-Ok-talk-clause-ended
returns-in-Ok-talk-clause-ended g c =
    let s : Site _ = site c.args.session.now.who.now g.R.Room.keeps_all g.D.Dialect.telling in
    let a : Scene _ = scene (g.R.Room.entries c.args.room.now) (g.O.Write.contents c.args.output.now.inner) c.args.dialect.now in
    let b : Scene _ = scene (g.R.Room.entries c.make.new.room) (g.O.Write.contents c.make.new.output.inner) c.make.new.dialect in
    let d : Scene _ = scene (g.R.Room.entries c.talk.new.room) (g.O.Write.contents c.talk.new.output.inner) c.talk.new.dialect in
    opened_ended c.args.max_octets c.in-Ok-talk.end s false c.in-Ok.flow.idles (g.I.Read.remaining c.args.input.now.inner) (g.I.Read.remaining c.talk.new.input.inner) a b d c.in-Ok.flow.closed c.if-flow.false c.in-Ok.ensures.ok c.in-Ok-talk.ensures.ended

pub returns-in-Err-talk-clause-broke : goal.returns-in-Err-talk-clause-broke
returns-in-Err-talk-clause-broke g c =
    let s : Site _ = site c.args.session.now.who.now g.R.Room.keeps_all g.D.Dialect.telling in
    let a : Scene _ = scene (g.R.Room.entries c.args.room.now) (g.O.Write.contents c.args.output.now.inner) c.args.dialect.now in
    let b : Scene _ = scene (g.R.Room.entries c.make.new.room) (g.O.Write.contents c.make.new.output.inner) c.make.new.dialect in
    let d : Scene _ = scene (g.R.Room.entries c.talk.new.room) (g.O.Write.contents c.talk.new.output.inner) c.talk.new.dialect in
    opened_broke c.args.max_octets c.in-Err-talk.error s false c.in-Ok.flow.idles (g.I.Read.remaining c.args.input.now.inner) (g.I.Read.remaining c.talk.new.input.inner) a b d c.in-Ok.flow.closed c.if-flow.false c.in-Ok.ensures.ok c.in-Err-talk.ensures.broke
