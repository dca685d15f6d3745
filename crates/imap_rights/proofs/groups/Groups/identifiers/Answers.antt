use Rattle.std.proofs.Common.{map as map_list, string_bytes, subst}
use Rattle.imap_rights.specs.Groups.{AreIdentifiersOf, Names}
use Rattle.imap_rights.proofs.groups.Groups.identifiers.Goals as goal

pub returns : goal.returns
returns c = subst (λ (names : Names). AreIdentifiersOf names (map_list string_bytes c.identifiers.result.now)) c.names_of.ensures c.identifiers.ensures
