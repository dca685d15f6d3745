use Rattle.std.proofs.Common.{rules, subst, take, map, []}
use Rattle.std.specs.Io.KnownBytes.{Consumes}
use Rattle.imap_lex.specs.Framing.{run}
use Rattle.imap_serve.specs.declared.watched.Taken.TheVariants as taken
use Rattle.imap_serve.specs.Reading.{Takes, unasked}
use Rattle.imap_serve.specs.Told.{Scene, scene, Site, site, Closes, GoesOn, GoesOrCloses}
use Rattle.imap_serve.specs.Turns.{frame}
use Rattle.imap_serve.proofs.Scenes.{caused_writing, heard_nothing, heard_more, heard_all, heard_unread, heard_still, heard_poll, heard_closes, heard_breaks, heard_poll_closes, heard_poll_breaks, heard_idles, idle_all, idle_part}
use Rattle.imap_serve.proofs.talking.talk.Goals as goal

pub loop-init : goal.loop-init
loop-init g c =
    let s : Site _ = site c.args.session.now.who.now g.R.Room.keeps_all g.D.Dialect.telling in
    let p = c.args.idles in
    let a : Scene _ = scene (g.R.Room.entries c.args.room.now) (g.O.Write.contents c.args.output.now.inner) c.args.dialect.now in
    let heard = heard_nothing c.args.max_octets s p (g.I.Read.remaining c.args.input.now.inner) a in
    search (rules, heard)

-- ---- it goes on

pub loop-preserved-in-Ok : goal.loop-preserved-in-Ok
loop-preserved-in-Ok g c =
    let s : Site _ = site c.args.session.now.who.now g.R.Room.keeps_all g.D.Dialect.telling in
    let p = c.args.idles in
    let q = c.loop.idles in
    let a : Scene _ = scene (g.R.Room.entries c.args.room.now) (g.O.Write.contents c.args.output.now.inner) c.args.dialect.now in
    let b : Scene _ = scene (g.R.Room.entries c.loop.room) (g.O.Write.contents c.loop.output.inner) c.loop.dialect in
    let i = g.I.Read.remaining c.args.input.now.inner in
    let j = g.I.Read.remaining c.loop.input.inner in
    let k = g.I.Read.remaining c.read.new.self.inner in
    let d : Scene _ = scene (g.R.Room.entries c.take_piece.new.room) (g.O.Write.contents c.take_piece.new.output.inner) c.take_piece.new.dialect in
    let f = c.loop.framer in
    let ys = take c.in-Ok-Octets.count c.read.new.buf in
    let t = c.in-Ok.flow.idles in
    let took : Takes (taken.Octets c.in-Ok-Octets.count) j k c.read.new.buf = subst (λ t. Takes t j k c.read.new.buf) c.in-Ok-Octets.field-0-is c.in-Ok-Octets.ensures.ok in
    let next : GoesOn s q t b d (map frame (run f ys).frames) = subst (λ closed. GoesOrCloses closed s q t b d (map frame (run f ys).frames)) c.if-flow.false c.in-Ok.ensures.ok in
    let heard = heard_more c.args.max_octets s p q i j k a b d f ys c.loop.invariant.2 took.0 c.take_piece.new.framer t next c.in-Ok.ensures.next in
    search (rules, heard)

pub loop-preserved-then-change_count-polled : goal.loop-preserved-then-change_count-polled
loop-preserved-then-change_count-polled g c =
    let s : Site _ = site c.args.session.now.who.now g.R.Room.keeps_all g.D.Dialect.telling in
    let p = c.args.idles in
    let q = c.loop.idles in
    let a : Scene _ = scene (g.R.Room.entries c.args.room.now) (g.O.Write.contents c.args.output.now.inner) c.args.dialect.now in
    let b : Scene _ = scene (g.R.Room.entries c.loop.room) (g.O.Write.contents c.loop.output.inner) c.loop.dialect in
    let i = g.I.Read.remaining c.args.input.now.inner in
    let j = g.I.Read.remaining c.loop.input.inner in
    let k = g.I.Read.remaining c.read.new.self.inner in
    let d : Scene _ = scene (g.R.Room.entries c.make.new.room) (g.O.Write.contents c.make.new.output.inner) c.make.new.dialect in
    let t = c.in-Ok-make.flow.idles in
    let read : Consumes j k [] = subst (λ t. Takes t j k c.read.new.buf) c.in-Ok-Occasion.field-0-is c.in-Ok-Occasion.ensures.ok in
    let next : GoesOn s q t b d [] = subst (λ closed. GoesOrCloses closed s q t b d []) c.if-flow-2.false c.in-Ok-make.ensures.ok in
    let heard = heard_poll c.args.max_octets s p q i j k a b c.loop.framer c.loop.invariant.2 read d t next in
    search (rules, heard)

pub loop-preserved : goal.loop-preserved
loop-preserved g c =
    let s : Site _ = site c.args.session.now.who.now g.R.Room.keeps_all g.D.Dialect.telling in
    let p = c.args.idles in
    let q = c.loop.idles in
    let a : Scene _ = scene (g.R.Room.entries c.args.room.now) (g.O.Write.contents c.args.output.now.inner) c.args.dialect.now in
    let b : Scene _ = scene (g.R.Room.entries c.loop.room) (g.O.Write.contents c.loop.output.inner) c.loop.dialect in
    let i = g.I.Read.remaining c.args.input.now.inner in
    let j = g.I.Read.remaining c.loop.input.inner in
    let k = g.I.Read.remaining c.read.new.self.inner in
    let read : Consumes j k [] = subst (λ t. Takes t j k c.read.new.buf) c.in-Ok-Occasion.field-0-is c.in-Ok-Occasion.ensures.ok in
    let heard = heard_still c.args.max_octets s p q i j k a b c.loop.framer c.loop.invariant.2 read in
    search (rules, heard)

-- ---- it ends

pub returns-in-Ok-End-clause-ended : goal.returns-in-Ok-End-clause-ended
returns-in-Ok-End-clause-ended g c =
    let s : Site _ = site c.args.session.now.who.now g.R.Room.keeps_all g.D.Dialect.telling in
    let p = c.args.idles in
    let q = c.loop.idles in
    let a : Scene _ = scene (g.R.Room.entries c.args.room.now) (g.O.Write.contents c.args.output.now.inner) c.args.dialect.now in
    let b : Scene _ = scene (g.R.Room.entries c.loop.room) (g.O.Write.contents c.loop.output.inner) c.loop.dialect in
    let i = g.I.Read.remaining c.args.input.now.inner in
    let j = g.I.Read.remaining c.loop.input.inner in
    let k = g.I.Read.remaining c.read.new.self.inner in
    let took : Takes taken.End j k c.read.new.buf = subst (λ t. Takes t j k c.read.new.buf) c.in-Ok-End.field-0-is c.in-Ok-End.ensures.ok in
    heard_all c.args.max_octets s p q i j k a b c.loop.framer c.loop.invariant.2 took.0

pub returns-in-Err-clause-broke : goal.returns-in-Err-clause-broke
returns-in-Err-clause-broke g c =
    let s : Site _ = site c.args.session.now.who.now g.R.Room.keeps_all g.D.Dialect.telling in
    let p = c.args.idles in
    let q = c.loop.idles in
    let a : Scene _ = scene (g.R.Room.entries c.args.room.now) (g.O.Write.contents c.args.output.now.inner) c.args.dialect.now in
    let b : Scene _ = scene (g.R.Room.entries c.loop.room) (g.O.Write.contents c.loop.output.inner) c.loop.dialect in
    let i = g.I.Read.remaining c.args.input.now.inner in
    let j = g.I.Read.remaining c.loop.input.inner in
    let k = g.I.Read.remaining c.read.new.self.inner in
    heard_unread c.args.max_octets s p q i j k a b c.loop.framer c.loop.invariant.2 c.in-Err.ensures.err

pub returns-then-flow-clause-ended : goal.returns-then-flow-clause-ended
returns-then-flow-clause-ended g c =
    let s : Site _ = site c.args.session.now.who.now g.R.Room.keeps_all g.D.Dialect.telling in
    let p = c.args.idles in
    let q = c.loop.idles in
    let a : Scene _ = scene (g.R.Room.entries c.args.room.now) (g.O.Write.contents c.args.output.now.inner) c.args.dialect.now in
    let b : Scene _ = scene (g.R.Room.entries c.loop.room) (g.O.Write.contents c.loop.output.inner) c.loop.dialect in
    let d : Scene _ = scene (g.R.Room.entries c.take_piece.new.room) (g.O.Write.contents c.take_piece.new.output.inner) c.take_piece.new.dialect in
    let i = g.I.Read.remaining c.args.input.now.inner in
    let j = g.I.Read.remaining c.loop.input.inner in
    let k = g.I.Read.remaining c.read.new.self.inner in
    let f = c.loop.framer in
    let ys = take c.in-Ok-Octets.count c.read.new.buf in
    let took : Takes (taken.Octets c.in-Ok-Octets.count) j k c.read.new.buf = subst (λ t. Takes t j k c.read.new.buf) c.in-Ok-Octets.field-0-is c.in-Ok-Octets.ensures.ok in
    let last : Closes s q b d (map frame (run f ys).frames) = subst (λ closed. GoesOrCloses closed s q c.in-Ok.flow.idles b d (map frame (run f ys).frames)) c.if-flow.true c.in-Ok.ensures.ok in
    heard_closes c.args.max_octets s p q i j k a b d f ys c.loop.invariant.2 took.0 last

pub returns-in-Err-take_piece-clause-broke : goal.returns-in-Err-take_piece-clause-broke
returns-in-Err-take_piece-clause-broke g c =
    let s : Site _ = site c.args.session.now.who.now g.R.Room.keeps_all g.D.Dialect.telling in
    let p = c.args.idles in
    let q = c.loop.idles in
    let a : Scene _ = scene (g.R.Room.entries c.args.room.now) (g.O.Write.contents c.args.output.now.inner) c.args.dialect.now in
    let b : Scene _ = scene (g.R.Room.entries c.loop.room) (g.O.Write.contents c.loop.output.inner) c.loop.dialect in
    let d : Scene _ = scene (g.R.Room.entries c.take_piece.new.room) (g.O.Write.contents c.take_piece.new.output.inner) c.take_piece.new.dialect in
    let i = g.I.Read.remaining c.args.input.now.inner in
    let j = g.I.Read.remaining c.loop.input.inner in
    let k = g.I.Read.remaining c.read.new.self.inner in
    let ys = take c.in-Ok-Octets.count c.read.new.buf in
    let took : Takes (taken.Octets c.in-Ok-Octets.count) j k c.read.new.buf = subst (λ t. Takes t j k c.read.new.buf) c.in-Ok-Octets.field-0-is c.in-Ok-Octets.ensures.ok in
    heard_breaks c.args.max_octets s p q i j k a b d c.loop.framer ys c.loop.invariant.2 took.0 c.in-Err-take_piece.error c.take_piece.new.output.log c.in-Err-take_piece.ensures.cause c.in-Err-take_piece.ensures.err

pub returns-in-Ok-say-clause-ended : goal.returns-in-Ok-say-clause-ended
returns-in-Ok-say-clause-ended g c =
    let s : Site _ = site c.args.session.now.who.now g.R.Room.keeps_all g.D.Dialect.telling in
    let p = c.args.idles in
    let q = c.loop.idles in
    let a : Scene _ = scene (g.R.Room.entries c.args.room.now) (g.O.Write.contents c.args.output.now.inner) c.args.dialect.now in
    let told = g.R.Room.entries c.loop.room in
    let before = g.O.Write.contents c.loop.output.inner in
    let after = g.O.Write.contents c.say.new.output.inner in
    let i = g.I.Read.remaining c.args.input.now.inner in
    let j = g.I.Read.remaining c.loop.input.inner in
    let k = g.I.Read.remaining c.read.new.self.inner in
    let read : Consumes j k [] = subst (λ t. Takes t j k c.read.new.buf) c.in-Ok-Occasion.field-0-is c.in-Ok-Occasion.ensures.ok in
    heard_idles c.args.max_octets s p q i j k a (scene told before c.loop.dialect) c.loop.framer c.loop.invariant.2 read (scene told after c.loop.dialect) (idle_all s q told before after c.loop.dialect c.loop.dialect c.in-Ok-say.ensures.ok)

pub returns-in-Err-say-clause-broke : goal.returns-in-Err-say-clause-broke
returns-in-Err-say-clause-broke g c =
    let s : Site _ = site c.args.session.now.who.now g.R.Room.keeps_all g.D.Dialect.telling in
    let p = c.args.idles in
    let q = c.loop.idles in
    let a : Scene _ = scene (g.R.Room.entries c.args.room.now) (g.O.Write.contents c.args.output.now.inner) c.args.dialect.now in
    let told = g.R.Room.entries c.loop.room in
    let before = g.O.Write.contents c.loop.output.inner in
    let after = g.O.Write.contents c.say.new.output.inner in
    let i = g.I.Read.remaining c.args.input.now.inner in
    let j = g.I.Read.remaining c.loop.input.inner in
    let k = g.I.Read.remaining c.read.new.self.inner in
    let read : Consumes j k [] = subst (λ t. Takes t j k c.read.new.buf) c.in-Ok-Occasion.field-0-is c.in-Ok-Occasion.ensures.ok in
    heard_poll_breaks c.args.max_octets s p q i j k a (scene told before c.loop.dialect) c.loop.framer c.loop.invariant.2 read (scene told after c.loop.dialect) c.in-Err-say.error c.say.new.output.log (caused_writing c.in-Err-say.error unasked c.say.new.output.log c.in-Err-say.ensures.cause) (idle_part s q told before after c.loop.dialect c.loop.dialect c.in-Err-say.ensures.err)

pub returns-then-flow-2-clause-ended : goal.returns-then-flow-2-clause-ended
returns-then-flow-2-clause-ended g c =
    let s : Site _ = site c.args.session.now.who.now g.R.Room.keeps_all g.D.Dialect.telling in
    let p = c.args.idles in
    let q = c.loop.idles in
    let a : Scene _ = scene (g.R.Room.entries c.args.room.now) (g.O.Write.contents c.args.output.now.inner) c.args.dialect.now in
    let b : Scene _ = scene (g.R.Room.entries c.loop.room) (g.O.Write.contents c.loop.output.inner) c.loop.dialect in
    let d : Scene _ = scene (g.R.Room.entries c.make.new.room) (g.O.Write.contents c.make.new.output.inner) c.make.new.dialect in
    let i = g.I.Read.remaining c.args.input.now.inner in
    let j = g.I.Read.remaining c.loop.input.inner in
    let k = g.I.Read.remaining c.read.new.self.inner in
    let read : Consumes j k [] = subst (λ t. Takes t j k c.read.new.buf) c.in-Ok-Occasion.field-0-is c.in-Ok-Occasion.ensures.ok in
    let last : Closes s q b d [] = subst (λ closed. GoesOrCloses closed s q c.in-Ok-make.flow.idles b d []) c.if-flow-2.true c.in-Ok-make.ensures.ok in
    heard_poll_closes c.args.max_octets s p q i j k a b c.loop.framer c.loop.invariant.2 read d last

pub returns-in-Err-make-clause-broke : goal.returns-in-Err-make-clause-broke
returns-in-Err-make-clause-broke g c =
    let s : Site _ = site c.args.session.now.who.now g.R.Room.keeps_all g.D.Dialect.telling in
    let p = c.args.idles in
    let q = c.loop.idles in
    let a : Scene _ = scene (g.R.Room.entries c.args.room.now) (g.O.Write.contents c.args.output.now.inner) c.args.dialect.now in
    let b : Scene _ = scene (g.R.Room.entries c.loop.room) (g.O.Write.contents c.loop.output.inner) c.loop.dialect in
    let d : Scene _ = scene (g.R.Room.entries c.make.new.room) (g.O.Write.contents c.make.new.output.inner) c.make.new.dialect in
    let i = g.I.Read.remaining c.args.input.now.inner in
    let j = g.I.Read.remaining c.loop.input.inner in
    let k = g.I.Read.remaining c.read.new.self.inner in
    let read : Consumes j k [] = subst (λ t. Takes t j k c.read.new.buf) c.in-Ok-Occasion.field-0-is c.in-Ok-Occasion.ensures.ok in
    heard_poll_breaks c.args.max_octets s p q i j k a b c.loop.framer c.loop.invariant.2 read d c.in-Err-make.error c.make.new.output.log c.in-Err-make.ensures.cause c.in-Err-make.ensures.err
