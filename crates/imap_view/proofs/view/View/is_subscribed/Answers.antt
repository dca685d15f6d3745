use Rattle.std.proofs.Common.{sym, ap, ◌∙◌}
use Rattle.std.specs.Prelude.{is_some, option_copied}
use Rattle.std.specs.FinMap as map
use Rattle.std.specs.FinMap.{get-empty}
use Rattle.imap_names.specs.Order.{name_cmp}
use Rattle.imap_world.specs.Stored.{names_in}
use Rattle.imap_world.specs.World.{NameSet}
use Rattle.imap_view.proofs.view.View.is_subscribed.Goals as goal

pub returns-in-None : goal.returns-in-None
returns-in-None c =
    let name = c.args.name.now in
    ap is_some (sym (get-empty name_cmp name)) ∙ ap (λ r. map.contains_key (names_in (option_copied r)) name) (sym c.in-None.is)
    ∙ ap (λ (names : NameSet). map.contains_key names name) c.subscribed.ensures
