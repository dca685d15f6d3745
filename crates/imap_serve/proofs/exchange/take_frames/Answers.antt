use Rattle.std.proofs.Common.{rules, subst, sym, [], ◌∷◌, map}
use Rattle.imap_serve.specs.Told.{Scene, scene, Site, site, Breaks, Closes, GoesOn, GoesOrCloses}
use Rattle.imap_serve.specs.Turns.{frame}
use Rattle.imap_serve.proofs.Scenes.{goes_nowhere, frames_more, frames_close, frames_break}
use Rattle.imap_serve.proofs.exchange.take_frames.Goals as goal

pub loop-frame-init : goal.loop-frame-init
loop-frame-init g c = goes_nowhere _ _ _

pub loop-frame-preserved : goal.loop-frame-preserved
loop-frame-preserved g c =
    let a : Scene _ = scene (g.R.Room.entries c.args.room.now) (g.O.Write.contents c.args.output.now.inner) c.args.dialect.now in
    let b : Scene _ = scene (g.R.Room.entries c.loop-frame.room) (g.O.Write.contents c.loop-frame.output.inner) c.loop-frame.dialect in
    let d : Scene _ = scene (g.R.Room.entries c.take_frame.new.room) (g.O.Write.contents c.take_frame.new.output.inner) c.take_frame.new.dialect in
    let x = c.frame-item.result in
    let s : Site _ = site c.args.session.now.who.now g.R.Room.keeps_all g.D.Dialect.telling in
    let p = c.args.flow.idles in
    let q = c.loop-frame.idles in
    let t = c.in-Ok.flow.idles in
    let next : GoesOn s q t b d (frame x ∷ []) = subst (λ closed. GoesOrCloses closed s q t b d (frame x ∷ [])) c.if-flow.false c.in-Ok.ensures.ok in
    frames_more s p q a b d c.args.frames.now c.loop-frame.frame-index x (search rules) t c.loop-frame.invariant (subst (λ y. GoesOn s q t b d (frame y ∷ [])) c.frame-item.is next)

pub returns-then-flow-clause-ok : goal.returns-then-flow-clause-ok
returns-then-flow-clause-ok g c =
    let a : Scene _ = scene (g.R.Room.entries c.args.room.now) (g.O.Write.contents c.args.output.now.inner) c.args.dialect.now in
    let b : Scene _ = scene (g.R.Room.entries c.loop-frame.room) (g.O.Write.contents c.loop-frame.output.inner) c.loop-frame.dialect in
    let d : Scene _ = scene (g.R.Room.entries c.take_frame.new.room) (g.O.Write.contents c.take_frame.new.output.inner) c.take_frame.new.dialect in
    let x = c.frame-item.result in
    let s : Site _ = site c.args.session.now.who.now g.R.Room.keeps_all g.D.Dialect.telling in
    let xs = c.args.frames.now in
    let p = c.args.flow.idles in
    let q = c.loop-frame.idles in
    let t = c.in-Ok.flow.idles in
    let last : Closes s q b d (frame x ∷ []) = subst (λ closed. GoesOrCloses closed s q t b d (frame x ∷ [])) c.if-flow.true c.in-Ok.ensures.ok in
    subst (λ closed. GoesOrCloses closed s p t a d (map frame xs)) (sym c.if-flow.true)
    (frames_close s p q a b d xs c.loop-frame.frame-index x (search rules) c.loop-frame.invariant (subst (λ y. Closes s q b d (frame y ∷ [])) c.frame-item.is last))

pub returns-in-Err-clause-err : goal.returns-in-Err-clause-err
returns-in-Err-clause-err g c =
    let a : Scene _ = scene (g.R.Room.entries c.args.room.now) (g.O.Write.contents c.args.output.now.inner) c.args.dialect.now in
    let b : Scene _ = scene (g.R.Room.entries c.loop-frame.room) (g.O.Write.contents c.loop-frame.output.inner) c.loop-frame.dialect in
    let d : Scene _ = scene (g.R.Room.entries c.take_frame.new.room) (g.O.Write.contents c.take_frame.new.output.inner) c.take_frame.new.dialect in
    let x = c.frame-item.result in
    let s : Site _ = site c.args.session.now.who.now g.R.Room.keeps_all g.D.Dialect.telling in
    let q = c.loop-frame.idles in
    frames_break s c.args.flow.idles q a b d c.args.frames.now c.loop-frame.frame-index x (search rules) c.loop-frame.invariant (subst (λ y. Breaks s q b d (frame y ∷ [])) c.frame-item.is c.in-Err.ensures.err)
