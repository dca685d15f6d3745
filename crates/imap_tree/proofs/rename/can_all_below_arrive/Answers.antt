use Rattle.std.proofs.Common.{◌≡◌, map, ap, ◌∙◌}
use Rattle.std.specs.List.{list_all}
use Rattle.imap_names.specs.Order.{is_within, moved}
use Rattle.imap_view.specs.Listing.{names_below}
use Rattle.imap_world.specs.Moving.{can_arrive}
use Rattle.imap_tree.proofs.Below.{names_within}
use Rattle.imap_tree.proofs.rename.can_all_below_arrive.Goals as goal

pub loop-name-init : goal.loop-name-init
loop-name-init c =
    let is : c.into_iter-name-iterator.result ≡ names_below c.args.old.now c.args.view.now.taken =
    c.into_iter-name-iterator.ensures.into_iter_gives ∙ c.taken_names-name-items.ensures ∙ ap (λ name. names_below name c.args.view.now.taken) c.as_ref.ensures.name in
    record {
      left = ap (λ names. list_all (can_arrive c.args.view.now.epochs) (map (moved c.args.old.now c.args.new.now) names)) is;
      within = ap (list_all (is_within c.args.old.now)) is ∙ names_within c.args.old.now c.args.view.now.taken;
    }
