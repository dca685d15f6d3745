use Rattle.std.proofs.Common.{◌≡◌, ◌++◌, take}
use Rattle.imap_mailbox.specs.Summary.{places_in}
use Rattle.imap_mailbox.proofs.restored.push_gone_places.Given as goal

abbrev pub invariant-loop-message : goal.invariant-loop-message
invariant-loop-message l = l.places.items ≡ l.fn.places.items ++ places_in (take l.message-index l.gone)
