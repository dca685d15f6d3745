use Rattle.std.proofs.Common.{map as map_list, string_bytes, sym, subst}
use Rattle.imap_rights.specs.Groups.{AreIdentifiersOf}
use Rattle.imap_rights.proofs.GroupIdentifiers.{identifiers_of_none}
use Rattle.imap_rights.proofs.group_names.GroupNames.new.Goals as goal

pub invariant_of-result : goal.invariant_of-result
invariant_of-result c =
    subst (λ l. AreIdentifiersOf c.new.result.map (map_list string_bytes l)) (sym c.new-2.ensures.items) (identifiers_of_none c.new.result.map c.new.ensures)
