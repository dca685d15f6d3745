use Rattle.std.proofs.Common.{◌≡◌, length}
use Rattle.imap_view.specs.Listing.{seen_among}
use Rattle.imap_view.proofs.seen_names.next_seen.Given as goal

abbrev pub invariant-loop-first : goal.invariant-loop-first
invariant-loop-first l = seen_among l.view l.rest ≡ seen_among l.view l.mailboxes

abbrev pub decreases-loop-first : goal.decreases-loop-first
decreases-loop-first l = length l.rest
