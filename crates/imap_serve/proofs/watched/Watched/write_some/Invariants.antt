use Rattle.std.specs.Prelude.{◌≡◌, [], ◌<◌, ◌≤◌, Some}
use Rattle.std.specs.Io.KnownBytes.{Appends}
use Rattle.imap_serve.specs.declared.watched.Answer.TheVariants.{Interrupted}
use Rattle.imap_serve.proofs.watched.Watched.write_some.Given as goal

-- nothing was written, and each write was interrupted
abbrev pub invariant-loop : goal.invariant-loop
invariant-loop g l =
    Appends (g.O.Write.contents l.fn.self.inner) (g.O.Write.contents l.self.inner) []
    × (l.counter ≤ l.self.log.interruptions) × (0 < l.counter → l.self.log.last ≡ Some Interrupted)
