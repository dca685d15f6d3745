use Rattle.std.proofs.Common.{◌≡◌, ◌++◌, drop, filter, option_copied}
use Rattle.imap_changes.specs.Expunge.{is_taken}
use Rattle.imap_mailbox.specs.Lent.{row_uids}
use Rattle.imap_changes.proofs.expunge.taken_uids.Given as goal

abbrev pub invariant-loop-index : goal.invariant-loop-index
invariant-loop-index l =
    let taken = is_taken (option_copied l.set) l.last l.known.list in
    l.uids.items ++ row_uids (filter taken (drop l.index l.rows)) ≡ row_uids (filter taken l.rows)
