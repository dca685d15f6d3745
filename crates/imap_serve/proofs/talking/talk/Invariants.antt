use Rattle.imap_serve.specs.Told.{Heard, scene, site}
use Rattle.imap_serve.proofs.talking.talk.Given as goal

-- what the octets so far ask was answered
abbrev pub invariant-loop : goal.invariant-loop
invariant-loop g l =
    (goal.iterator-loop g).can_next l.iterator' × (goal.iterator-loop g).is_finite l.iterator'
    × Heard l.max_octets (site l.session.who.now g.R.Room.keeps_all g.D.Dialect.telling) l.fn.idles l.idles (g.I.Read.remaining l.fn.input.inner) (g.I.Read.remaining l.input.inner) (scene (g.R.Room.entries l.fn.room) (g.O.Write.contents l.fn.output.inner) l.fn.dialect) (scene (g.R.Room.entries l.room) (g.O.Write.contents l.output.inner) l.dialect) l.framer
