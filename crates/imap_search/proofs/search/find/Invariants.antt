use Rattle.std.proofs.Common.{◌≡◌, ◌+◌, ◌++◌, drop}
use Rattle.imap_search.specs.Search.{found_from, found_in}
use Rattle.imap_search.proofs.search.find.Given as goal

abbrev pub invariant-loop-place : goal.invariant-loop-place
invariant-loop-place l =
    l.found.items ++ found_from l.criteria.arguments.now l.criteria.last l.criteria.last_uid l.mailbox.rows (l.place + 1) (drop l.place l.known.list)
    ≡ found_in l.fn.arguments l.mailbox.next_uid l.mailbox.rows l.known.list
