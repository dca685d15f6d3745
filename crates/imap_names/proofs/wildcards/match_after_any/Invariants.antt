use Rattle.std.proofs.Common.{length, ◌+◌, ◌-◌}
use Rattle.imap_names.proofs.Walks.{StarKept}
use Rattle.imap_names.proofs.wildcards.match_after_any.Given as goal

abbrev pub invariant-loop-letters : goal.invariant-loop-letters
invariant-loop-letters l = StarKept l.pattern l.text l.token l.letter

abbrev pub decreases-loop-letters : goal.decreases-loop-letters
decreases-loop-letters l = (length l.pattern - l.token) + (length l.text - l.letter)
