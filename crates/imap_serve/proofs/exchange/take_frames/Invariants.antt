use Rattle.std.specs.Prelude.{take, map}
use Rattle.imap_serve.specs.Told.{GoesOn, scene, site}
use Rattle.imap_serve.specs.Turns.{frame}
use Rattle.imap_serve.proofs.exchange.take_frames.Given as goal

-- what the frames so far ask was answered
abbrev pub invariant-loop-frame : goal.invariant-loop-frame
invariant-loop-frame g l =
    GoesOn (site l.session.who.now g.R.Room.keeps_all g.D.Dialect.telling) l.fn.flow.idles l.idles (scene (g.R.Room.entries l.fn.room) (g.O.Write.contents l.fn.output.inner) l.fn.dialect) (scene (g.R.Room.entries l.room) (g.O.Write.contents l.output.inner) l.dialect) (map frame (take l.frame-index l.frames))
