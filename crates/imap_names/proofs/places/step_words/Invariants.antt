use Rattle.std.proofs.Common.{◌-◌}
use Rattle.imap_names.proofs.PlaceLaws.{Passed}
use Rattle.imap_names.proofs.places.step_words.Given as goal

abbrev pub invariant-loop-word : goal.invariant-loop-word
invariant-loop-word l = Passed l.token l.text l.fn.words l.words l.word l.carry

abbrev pub decreases-loop-word : goal.decreases-loop-word
decreases-loop-word l = 6 - l.word
