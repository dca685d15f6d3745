use Rattle.std.proofs.Common.{drop}
use Rattle.imap_restore.specs.Holding.{HasLists}
use Rattle.imap_restore.proofs.making.hand_on_lists.Given as goal

abbrev pub invariant-entries : goal.invariant-entries
invariant-entries l = HasLists (drop l.entry-index l.entries) → HasLists l.entries
