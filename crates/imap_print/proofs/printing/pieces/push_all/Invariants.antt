use Rattle.std.proofs.Common.{◌≡◌, ◌++◌, drop}
use Rattle.std.specs.List.{concat}
use Rattle.imap_print.proofs.printing.pieces.push_all.Given as goal

abbrev pub invariant-loop-piece : goal.invariant-loop-piece
invariant-loop-piece l = l.octets.items ++ concat (drop l.piece-index l.pieces) ≡ l.initial.octets.items ++ concat l.pieces
