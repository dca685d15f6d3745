use Rattle.std.proofs.Common.{◌∙◌, ap, sym}
use Rattle.std.specs.FinMap as fin
use Rattle.imap_name_map.proofs.Maps.{entries_of}
use Rattle.imap_name_map.proofs.name_map.NameMap.entries.Goals as goal

pub returns : goal.returns
returns g c =
    c.as_slice.ensures.value ∙ sym (entries_of c.self.inside.entries.items c.self.invariant) ∙ ap (λ r. fin.entries r.map) c.self.view_is
