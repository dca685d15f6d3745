use Rattle.std.proofs.Common.{◌≡◌, drop}
use Rattle.imap_rights.specs.Entries.{pairs_of}
use Rattle.imap_rights.specs.Groups.{takes_from, union_where}
use Rattle.imap_rights.specs.Rights.{union}
use Rattle.imap_rights.proofs.acl.rights_taken.Given as goal

-- the rights so far and those of the entries that are left
abbrev pub invariant-loop-entry : goal.invariant-loop-entry
invariant-loop-entry l =
    union l.rights.0 (union_where (takes_from l.groups.map l.user) (pairs_of (drop l.entry-index l.entries))) ≡ union_where (takes_from l.groups.map l.user) (pairs_of l.entries)
