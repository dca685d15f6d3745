use Rattle.std.proofs.Common.{◌≡◌, map, take}
use Rattle.imap_list.specs.Status.{status_value}
use Rattle.imap_list.proofs.status.status_values.Given as goal

abbrev pub invariant-loop-item : goal.invariant-loop-item
invariant-loop-item l = l.values.items ≡ map (status_value l.mailbox) (take l.item-index l.items)
