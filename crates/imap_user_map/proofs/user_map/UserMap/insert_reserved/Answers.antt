use Rattle.std.proofs.Common.{ap, ◌∙◌, ◌<◌}
use Rattle.std.specs.FinMap as map
use Rattle.std.specs.HashMap.{spare}
use Rattle.std.specs.String.{string_bytes}
use Rattle.imap_user_map.proofs.Entries.{inserted, of_ok}
use Rattle.imap_user_map.proofs.user_map.UserMap.insert_reserved.Goals as goal

pub returns-clause-map : goal.returns-clause-map
returns-clause-map g c =
    let room : 0 < spare c.self.inside.entries = rw (ap (λ r. r.spare) c.self.view_is) c.requires in
    inserted c.self.inside.entries c.insert-inserted.new.self (string_bytes c.args.user) c.args.value (of_ok _ (c.insert-inserted.ensures.succeeds room) c.insert-inserted.ensures.updates)
    ∙ ap (λ r. map.insert r.map (string_bytes c.args.user) c.args.value) c.self.view_is
