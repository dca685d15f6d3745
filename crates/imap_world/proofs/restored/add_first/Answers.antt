use Rattle.std.proofs.Common.{sym, ap, ◌∙◌}
use Rattle.std.specs.FinMap as map
use Rattle.std.specs.String.{string_bytes}
use Rattle.imap_name_map.specs.Rows as name
use Rattle.imap_user_map.specs.Rows.{Users}
use Rattle.imap_world.specs.Stored.{names_in}
use Rattle.imap_world.specs.World.{NameSet}
use Rattle.imap_world.proofs.Subscribing.{has_name}
use Rattle.imap_world.proofs.restored.add_first.Goals as goal

pub returns : goal.returns
returns c =
    has_name (record { user = string_bytes c.args.user; name = c.args.name }) c.args.sets.now c.insert_reserved-2.new.self c.insert_reserved.new.self
    (c.insert_reserved-2.ensures.map ∙ ap (λ (m : Users (name.Rows (Unit {0}))). map.insert m (string_bytes c.args.user) c.insert_reserved.new.self) c.in_ok-reserve-2.ensures.map)
    (c.insert_reserved.ensures.map ∙ ap (λ (m : NameSet). map.insert m c.args.name tt) (c.in_ok-reserve.ensures.map ∙ c.new-names.ensures ∙ sym (ap names_in c.requires)))
