use Rattle.std.proofs.Common.{◌≡◌, ◌↔◌, drop}
use Rattle.imap_syntax.proofs.items.are_same.Given as goal

abbrev pub invariant-loop-item : goal.invariant-loop-item
invariant-loop-item g l = (drop l.item-index l.items ≡ l.rest) ↔ (l.items ≡ l.others)
