use Rattle.imap_targets.proofs.Listed.{IsListed}
use Rattle.imap_targets.proofs.message_numbers.numbers_named.Given as goal

abbrev pub invariant-loop-index : goal.invariant-loop-index
invariant-loop-index l = IsListed l.messages l.known.list l.index l.named.items
