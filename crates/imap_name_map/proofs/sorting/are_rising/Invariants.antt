use Rattle.std.proofs.Common.{◌≡◌, length}
use Rattle.std.specs.FinMap.Entries.{is_sorted}
use Rattle.imap_names.specs.Order.{name_cmp}
use Rattle.imap_name_map.proofs.sorting.are_rising.Given as goal

abbrev pub invariant-loop-entry : goal.invariant-loop-entry
invariant-loop-entry g l = is_sorted name_cmp l.rest ≡ is_sorted name_cmp l.entries

abbrev pub decreases-loop-entry : goal.decreases-loop-entry
decreases-loop-entry g l = length l.rest
