use Rattle.std.proofs.Common.{◌≡◌, drop}
use Rattle.imap_messages.specs.Fetched.{with_items, wanted_of}
use Rattle.imap_messages.proofs.wanted.Wanted.of_items.Given as goal

abbrev pub invariant-loop-item : goal.invariant-loop-item
invariant-loop-item l = with_items l.wanted (drop l.item-index l.items) ≡ wanted_of l.by_uid l.condstore l.fn.items
