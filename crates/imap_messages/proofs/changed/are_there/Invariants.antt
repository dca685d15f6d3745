use Rattle.imap_messages.specs.Changed.{AreThere}
use Rattle.imap_messages.proofs.changed.are_there.Given as goal

abbrev pub invariant-loop-index : goal.invariant-loop-index
invariant-loop-index l = AreThere l.rows l.known.list l.start l.index
