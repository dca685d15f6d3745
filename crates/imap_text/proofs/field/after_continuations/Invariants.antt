use Rattle.std.proofs.Common.{length}
use Rattle.imap_text.proofs.FieldsFound.{IsPassed}
use Rattle.imap_text.proofs.field.after_continuations.Given as goal

abbrev pub invariant-loop-line : goal.invariant-loop-line
invariant-loop-line l = IsPassed l.octets l.rest

abbrev pub decreases-loop-line : goal.decreases-loop-line
decreases-loop-line l = length l.rest
