use Rattle.std.proofs.Common.{◌≡◌, take}
use Rattle.imap_listing.proofs.ordered.OrderedNames.of.Given as goal

abbrev pub invariant-loop-name : goal.invariant-loop-name
invariant-loop-name l = l.refs.items ≡ take l.name-index l.names
