use Rattle.std.proofs.Common.{◌≡◌, ◌++◌}
use Rattle.imap_listing.specs.ViewNames.{listable_among, shown_names, listable_names}
use Rattle.imap_listing.proofs.view_names.all_listable.Given as goal

abbrev pub invariant-loop-name : goal.invariant-loop-name
invariant-loop-name l =
    l.names.items ++ shown_names l.view (listable_among l.name-iterator) ≡ listable_names l.view
