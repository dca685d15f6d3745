use Rattle.std.proofs.Common.{◌≡◌, map, true}
use Rattle.std.specs.List.{list_all}
use Rattle.imap_names.specs.Order.{is_within, moved}
use Rattle.imap_view.specs.Listing.{names_below}
use Rattle.imap_world.specs.Moving.{can_arrive}
use Rattle.imap_tree.proofs.rename.can_all_below_arrive.Given as goal

abbrev pub invariant-loop-name : goal.invariant-loop-name
invariant-loop-name l = record {
  left : list_all (can_arrive l.view.epochs) (map (moved l.old l.new) l.name-iterator)
      ≡ list_all (can_arrive l.view.epochs) (map (moved l.old l.new) (names_below l.old l.view.taken));
  within : list_all (is_within l.old) l.name-iterator ≡ true;
}
