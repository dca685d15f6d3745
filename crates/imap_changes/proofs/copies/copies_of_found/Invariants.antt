use Rattle.imap_rights.specs.Rights.{bits}
use Rattle.imap_changes.proofs.Found.{AreFoundTo}
use Rattle.imap_changes.proofs.copies.copies_of_found.Given as goal

abbrev pub invariant-loop-message : goal.invariant-loop-message
invariant-loop-message l = AreFoundTo (bits l.rights) l.rows l.messages l.message-index l.copies
