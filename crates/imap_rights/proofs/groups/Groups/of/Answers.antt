use Rattle.std.proofs.Common.{ap, ◌∙◌}
use Rattle.imap_user_map.specs.Rows.{Rows}
use Rattle.imap_rights.proofs.groups.Groups.of.Goals as goal

pub returns : goal.returns
returns c = ap (λ (r : Rows (Unit {0})). r.map) c.names.ensures ∙ c.names_of.ensures
