use Rattle.std.proofs.Common.{◌≡◌, ◌+◌, ◌≤◌, ◌++◌, drop}
use Rattle.imap_session.specs.Compared.{comparisons}
use Rattle.imap_session.specs.Notices.{expunge_lines}
use Rattle.imap_session.proofs.plain_notices.expunge_lines.Given as goal

abbrev pub invariant-loop-uid : goal.invariant-loop-uid
invariant-loop-uid l = record {
  lines : l.lines.items ++ expunge_lines l.number (comparisons (drop l.uid-index l.known) l.left) ≡ expunge_lines 1 (comparisons l.known l.fn.rows);
  number : l.number ≤ l.uid-index + 1;
}
