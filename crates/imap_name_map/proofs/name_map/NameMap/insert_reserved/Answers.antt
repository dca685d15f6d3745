use Rattle.std.proofs.Common.{◌∙◌, ap}
use Rattle.std.specs.FinMap as fin
use Rattle.imap_name_map.proofs.Maps.{map_of, map_of-put, kept_put}
use Rattle.imap_name_map.proofs.name_map.NameMap.insert_reserved.Goals as goal

pub invariant_of-self : goal.invariant_of-self
invariant_of-self g c = kept_put c.self.inside.entries.items c.put_entry.new.entries.items c.args.name c.args.value c.self.invariant c.put_entry.ensures.items

pub returns-clause-map : goal.returns-clause-map
returns-clause-map g c =
    ap map_of c.put_entry.ensures.items ∙ map_of-put c.self.inside.entries.items c.args.name c.args.value c.self.invariant
    ∙ ap (λ r. fin.insert r.map c.args.name c.args.value) c.self.view_is
