use Rattle.std.proofs.Common.{◌≡◌, drop}
use Rattle.imap_rights.specs.Rights.{bits}
use Rattle.imap_changes.specs.Store.{without_permitted}
use Rattle.imap_changes.proofs.store_flags.without_permitted.Given as goal

abbrev pub invariant-loop-flag : goal.invariant-loop-flag
invariant-loop-flag l = without_permitted (bits l.rights) (drop l.flag-index l.list) l.shared ≡ without_permitted (bits l.rights) l.list l.flags
