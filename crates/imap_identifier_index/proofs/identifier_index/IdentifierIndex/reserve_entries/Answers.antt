use Rattle.std.proofs.Common.{refl, subst}
use Rattle.imap_identifier_index.specs.Index.{Index, IsKept}
use Rattle.imap_identifier_index.proofs.Whole.{kept}
use Rattle.imap_identifier_index.proofs.identifier_index.IdentifierIndex.reserve_entries.Goals as goal

pub returns : goal.returns
returns c =
    let old : Index = record { names = c.self.inside.names.items; sets = c.self.inside.sets.map; is_whole = c.self.inside.is_whole } in
    let new : Index = record old { sets = c.reserve_all.new.sets.map } in
    subst (λ (i : Index). IsKept i new) c.self.view_is (kept old new refl c.reserve_all.ensures refl)
