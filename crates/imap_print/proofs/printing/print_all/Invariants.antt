use Rattle.std.proofs.Common.{◌≡◌, ◌++◌, drop}
use Rattle.imap_print.specs.Pieces.{octets_of}
use Rattle.imap_print.specs.Printed.{printed}
use Rattle.imap_print.proofs.printing.print_all.Given as goal

abbrev pub invariant-loop-response : goal.invariant-loop-response
invariant-loop-response l = octets_of l.out ++ printed (drop l.response-index l.responses) ≡ printed l.responses
