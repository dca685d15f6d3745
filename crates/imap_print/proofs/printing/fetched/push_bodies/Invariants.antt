use Rattle.std.proofs.Common.{take, map}
use Rattle.imap_print.specs.Words.{GoesOn}
use Rattle.imap_print.specs.Fetched.{body_text}
use Rattle.imap_print.specs.Pieces.{octets_of}
use Rattle.imap_print.proofs.printing.fetched.push_bodies.Given as goal

abbrev pub invariant-loop-body : goal.invariant-loop-body
invariant-loop-body l = GoesOn (octets_of l.initial.out) l.initial.begun (map body_text (take l.body-index l.bodies)) (octets_of l.out) l.begun
