use Rattle.std.proofs.Common.{drop}
use Rattle.imap_print.specs.Pieces.{octets_of}
use Rattle.imap_rev1.specs.Labels.{all_asked_words}
use Rattle.imap_rev1.proofs.Asking.{AreAsked}
use Rattle.imap_rev1.proofs.labels.push_all_asked.Given as goal

abbrev pub invariant-loop-asked : goal.invariant-loop-asked
invariant-loop-asked l =
    AreAsked (octets_of l.initial.out) l.initial.begun (all_asked_words l.bodies l.bodies l.all) (all_asked_words l.bodies l.rest (drop l.asked-index l.all)) (octets_of l.out) l.begun
