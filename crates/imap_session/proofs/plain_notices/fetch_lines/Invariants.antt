use Rattle.std.proofs.Common.{[], ◌≡◌, ◌+◌, ◌≤◌, ◌++◌, drop, length}
use Rattle.imap_session.specs.Compared.{comparisons, uids_after}
use Rattle.imap_session.specs.Notices.{fetch_lines}
use Rattle.imap_session.proofs.plain_notices.fetch_lines.Given as goal

abbrev pub invariant-loop-uid : goal.invariant-loop-uid
invariant-loop-uid l = record {
  lines : l.lines.items ++ fetch_lines l.options l.up_to [] l.number (comparisons (drop l.uid-index l.known) l.left) ≡ fetch_lines l.options l.up_to [] 1 (comparisons l.known l.fn.rows);
  number : l.number + length (uids_after l.options.expunges (comparisons (drop l.uid-index l.known) l.left))
      ≡ 1 + length (uids_after l.options.expunges (comparisons l.known l.fn.rows));
  few : l.number ≤ l.uid-index + 1;
}
