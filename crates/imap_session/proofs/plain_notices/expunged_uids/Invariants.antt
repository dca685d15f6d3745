use Rattle.std.proofs.Common.{◌≡◌, ◌++◌, drop}
use Rattle.imap_session.specs.Compared.{comparisons}
use Rattle.imap_session.specs.Notices.{expunged_uids}
use Rattle.imap_session.proofs.plain_notices.expunged_uids.Given as goal

abbrev pub invariant-loop-uid : goal.invariant-loop-uid
invariant-loop-uid l = l.uids.items ++ expunged_uids (comparisons (drop l.uid-index l.known) l.left) ≡ expunged_uids (comparisons l.known l.fn.rows)
