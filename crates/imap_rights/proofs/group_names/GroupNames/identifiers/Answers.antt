use Rattle.std.proofs.Common.{map as map_list, string_bytes, sym, subst}
use Rattle.imap_user_map.specs.Rows.{Rows}
use Rattle.imap_rights.specs.Groups.{AreIdentifiersOf}
use Rattle.imap_rights.proofs.group_names.GroupNames.identifiers.Goals as goal

pub returns : goal.returns
returns c =
    subst (λ (r : Rows (Unit {0})). AreIdentifiersOf r.map (map_list string_bytes c.as_slice.result.now)) c.self.view_is
    (subst (λ l. AreIdentifiersOf c.self.inside.names.map (map_list string_bytes l)) (sym c.as_slice.ensures.value) c.self.invariant)
