use Rattle.std.proofs.Common.{◌≡◌, ◌≤◌, length}
use Rattle.imap_name_map.specs.Renaming.{with_names}
use Rattle.imap_name_map.proofs.moves.put_names.Given as goal

abbrev pub decreases-loop-name : goal.decreases-loop-name
decreases-loop-name g l = length l.names.items

abbrev pub invariant-loop-name : goal.invariant-loop-name
invariant-loop-name g l =
    record {
      made : with_names l.names.items l.entries ≡ with_names l.fn.names.items l.fn.entries;
      fit : length l.names.items ≤ length l.entries;
      same : length l.entries ≡ length l.fn.entries;
    }
