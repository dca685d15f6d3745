use Rattle.std.proofs.Common.{drop}
use Rattle.std.specs.Prelude.{◌↔◌}
use Rattle.imap_mailbox.specs.Restored.{IsRun}
use Rattle.imap_mailbox.proofs.restored.is_run.Given as goal

abbrev pub invariant-loop-uid : goal.invariant-loop-uid
invariant-loop-uid l = IsRun l.expected l.next (drop l.uid-index l.uids) ↔ IsRun 1 l.next l.uids
