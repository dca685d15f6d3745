use Rattle.std.proofs.Common.{ap, ◌∙◌}
use Rattle.imap_user_map.proofs.Entries.{reordered}
use Rattle.imap_user_map.proofs.user_map.UserMap.reserve.Goals as goal

pub returns-clause-map : goal.returns-clause-map
returns-clause-map g c = reordered c.self.inside.entries c.reserve.new.self c.reserve.ensures.entries ∙ ap (λ r. r.map) c.self.view_is
