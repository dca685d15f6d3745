use Rattle.std.proofs.Common.{◌≡◌, map, filter_map, take}
use Rattle.imap_listing.specs.ViewNames.{listable_at}
use Rattle.imap_listing.proofs.view_names.listable_among.Given as goal

abbrev pub invariant-loop-name : goal.invariant-loop-name
invariant-loop-name l = l.listed.items ≡ filter_map (listable_at l.view) (map (λ name. name.now) (take l.name-index l.names))
