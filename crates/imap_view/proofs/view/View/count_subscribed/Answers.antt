use Rattle.std.proofs.Common.{sym, ap, ◌∙◌}
use Rattle.std.specs.Prelude.{option_copied}
use Rattle.std.specs.FinMap as map
use Rattle.std.specs.FinMap.{len-empty}
use Rattle.imap_names.specs.Order.{name_cmp}
use Rattle.imap_world.specs.Stored.{names_in}
use Rattle.imap_view.proofs.view.View.count_subscribed.Goals as goal

pub returns-in-None : goal.returns-in-None
returns-in-None c =
    sym (len-empty name_cmp (Unit {0}))
    ∙ ap (λ r. map.len (names_in (option_copied r))) (sym c.in-None.is) ∙ ap map.len c.subscribed.ensures
