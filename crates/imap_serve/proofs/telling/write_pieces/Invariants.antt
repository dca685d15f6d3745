use Rattle.std.proofs.Common.{take}
use Rattle.std.specs.Io.KnownBytes.{Appends}
use Rattle.std.specs.List.{concat}
use Rattle.imap_serve.proofs.telling.write_pieces.Given as goal

-- the first pieces were written
abbrev pub invariant-loop-piece : goal.invariant-loop-piece
invariant-loop-piece g l = Appends (g.O.Write.contents l.initial.output.inner) (g.O.Write.contents l.output.inner) (concat (take l.piece-index l.pieces))
