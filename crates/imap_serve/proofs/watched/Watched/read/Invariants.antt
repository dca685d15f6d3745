use Rattle.std.specs.Prelude.{◌≡◌, [], ◌<◌, ◌≤◌, length, Some}
use Rattle.std.specs.Io.KnownBytes.{Consumes}
use Rattle.imap_serve.specs.declared.watched.Answer.TheVariants.{Interrupted}
use Rattle.imap_serve.proofs.watched.Watched.read.Given as goal

-- nothing was read, and each read was interrupted
abbrev pub invariant-loop : goal.invariant-loop
invariant-loop g l =
    Consumes (g.I.Read.remaining l.fn.self.inner) (g.I.Read.remaining l.self.inner) [] × (0 < length l.buf) × (l.self.quiet ≡ l.fn.self.quiet)
    × (l.counter ≤ l.self.log.interruptions) × (0 < l.counter → l.self.log.last ≡ Some Interrupted)
