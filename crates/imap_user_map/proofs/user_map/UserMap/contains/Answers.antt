use Rattle.std.proofs.Common.{is_some, ap, sym, ◌∙◌}
use Rattle.std.specs.FinMap as map
use Rattle.imap_user_map.proofs.Entries.{get-by_octets}
use Rattle.imap_user_map.proofs.user_map.UserMap.contains.Goals as goal

pub returns : goal.returns
returns g c = c.contains_key.ensures ∙ ap is_some (sym (get-by_octets _ _)) ∙ ap (λ r. is_some (map.get r.map c.args.user.now)) c.self.view_is
