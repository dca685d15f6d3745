use Rattle.std.proofs.Common.{◌≡◌, length}
use Rattle.imap_view.specs.Listing.{known_among}
use Rattle.imap_view.proofs.taken_names.next_known.Given as goal

abbrev pub invariant-loop-first : goal.invariant-loop-first
invariant-loop-first l = known_among l.view l.rest ≡ known_among l.view l.mailboxes

abbrev pub decreases-loop-first : goal.decreases-loop-first
decreases-loop-first l = length l.rest
