use Rattle.std.proofs.Common.{◌≡◌, ◌≤◌, drop, length}
use Rattle.imap_session.specs.Compared.{new_rows}
use Rattle.imap_session.proofs.plain_notices.new_len.Given as goal

abbrev pub invariant-loop-uid : goal.invariant-loop-uid
invariant-loop-uid l = record {
  new : new_rows (drop l.uid-index l.known) l.left ≡ new_rows l.known l.fn.rows;
  within : length l.left ≤ length l.fn.rows;
}
