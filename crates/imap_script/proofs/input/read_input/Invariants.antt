use Rattle.std.specs.Io.KnownBytes.{Consumes}
use Rattle.imap_script.proofs.input.read_input.Given as goal

-- What was read so far is what the reader gave away of the octets that it has.
abbrev pub invariant-loop : goal.invariant-loop
invariant-loop g l = Consumes (g.I.Read.remaining l.fn.input) (g.I.Read.remaining l.input) l.octets.items
