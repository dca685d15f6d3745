use Rattle.std.proofs.Common.{◌≡◌, take}
use Rattle.imap_listing.specs.ViewNames.{shown_names}
use Rattle.imap_listing.proofs.view_names.shown_names.Given as goal

abbrev pub invariant-loop-name : goal.invariant-loop-name
invariant-loop-name l = l.names.items ≡ shown_names l.view (take l.name-index l.entries)
