use Rattle.std.proofs.Common.{length, ◌+◌, ◌-◌}
use Rattle.imap_names.proofs.Walks.{Kept}
use Rattle.imap_names.proofs.wildcards.walk_levels.Given as goal

abbrev pub invariant-loop-letter : goal.invariant-loop-letter
invariant-loop-letter l = Kept l.pattern l.text l.token l.letter

abbrev pub decreases-loop-letter : goal.decreases-loop-letter
decreases-loop-letter l = (length l.pattern - l.token) + (length l.text - l.letter)
