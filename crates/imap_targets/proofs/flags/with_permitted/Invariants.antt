use Rattle.imap_rights.specs.Rights.{bits}
use Rattle.imap_targets.proofs.Permitted.{IsSoFar}
use Rattle.imap_targets.proofs.flags.with_permitted.Given as goal

abbrev pub invariant-loop-flag : goal.invariant-loop-flag
invariant-loop-flag l = IsSoFar (bits l.rights) l.flags l.fn.shared l.flag-index l.shared
