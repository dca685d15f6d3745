-- The names that a user knows below a mailbox.
use Rattle.std.proofs.Common.{◌≡◌, true, ◌∙◌}
use Rattle.std.specs.List.{list_all}
use Rattle.std.proofs.lemmas.List.Folds.{list_all-map}
use Rattle.imap_name_map.specs.Rows.{below_of}
use Rattle.imap_name_map.proofs.WithinLaws.{below_of-within}
use Rattle.imap_names.specs.Name.{Name}
use Rattle.imap_names.specs.Order.{is_within}
use Rattle.imap_view.specs.Listing.{names_below}
use Rattle.imap_world.specs.World.{NameSet}

pub names_within : (top : Name) (names : NameSet) → list_all (is_within top) (names_below top names) ≡ true
names_within top names = list_all-map (is_within top) (λ (e : Name × Unit {0}). e.0) (below_of top names) ∙ below_of-within top names
