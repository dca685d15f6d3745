use Rattle.std.proofs.Common.{◌≡◌}
use Rattle.imap_listing.specs.MailboxLine.{has_listable_below, is_any_listable}
use Rattle.imap_listing.proofs.one_line.has_listable_below.Given as goal

abbrev pub invariant-loop-seen : goal.invariant-loop-seen
invariant-loop-seen l = is_any_listable l.seen-iterator ≡ has_listable_below l.view l.name
