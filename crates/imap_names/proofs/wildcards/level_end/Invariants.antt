use Rattle.std.proofs.Common.{◌≡◌, ◌≤◌, ◌-◌, length, take, drop, false}
use Rattle.std.specs.List.{list_any}
use Rattle.imap_names.specs.Pattern.{ends_level}
use Rattle.imap_names.proofs.wildcards.level_end.Given as goal

abbrev pub invariant-loop-end : goal.invariant-loop-end
invariant-loop-end l = record {
  after : l.from ≤ l.end;
  within : l.end ≤ length l.text;
  plain : list_any ends_level (take (l.end - l.from) (drop l.from l.text)) ≡ false;
}

abbrev pub decreases-loop-end : goal.decreases-loop-end
decreases-loop-end l = length l.text - l.end
