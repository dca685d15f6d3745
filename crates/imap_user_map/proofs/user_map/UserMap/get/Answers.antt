use Rattle.std.proofs.Common.{ap, sym, ◌∙◌}
use Rattle.std.specs.FinMap as map
use Rattle.imap_user_map.proofs.Entries.{get-by_octets}
use Rattle.imap_user_map.proofs.user_map.UserMap.get.Goals as goal

pub returns : goal.returns
returns g c = c.get.ensures.value ∙ sym (get-by_octets _ _) ∙ ap (λ r. map.get r.map c.args.user.now) c.self.view_is
