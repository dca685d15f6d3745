use Rattle.std.proofs.Common.{◌≡◌, ◌++◌, drop}
use Rattle.std.specs.List.{concat}
use Rattle.imap_print.specs.Pieces.{octets_of}
use Rattle.imap_print.proofs.printing.pieces.Pieces.push_parts.Given as goal

abbrev pub invariant-loop-part : goal.invariant-loop-part
invariant-loop-part l = octets_of l.self ++ concat (drop l.part-index l.parts) ≡ octets_of l.initial.self ++ concat l.parts
