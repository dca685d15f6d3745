use Rattle.std.proofs.Common.{◌≡◌, ◌++◌, drop}
use Rattle.imap_targets.specs.UnchangedSince.{skipped_numbers}
use Rattle.imap_targets.proofs.unchanged_since.skipped_numbers.Given as goal

abbrev pub invariant-loop-message : goal.invariant-loop-message
invariant-loop-message l =
    let skipped = skipped_numbers l.numbering l.since l.rows in
    l.skipped.items ++ skipped (drop l.message-index l.messages) ≡ skipped l.messages
