use Rattle.std.proofs.Common.{◌∙◌, ap, arith}
use Rattle.std.specs.FinMap as fin
use Rattle.imap_name_map.proofs.Maps.{map_of, map_of-others, kept_others, len_of}
use Rattle.imap_name_map.proofs.name_map.NameMap.remove.Goals as goal

pub invariant_of-self : goal.invariant_of-self
invariant_of-self g c = kept_others c.self.inside.entries.items c.remove_entry.new.entries.items c.args.name.now c.self.invariant c.remove_entry.ensures.items

pub returns-clause-map : goal.returns-clause-map
returns-clause-map g c =
    ap map_of c.remove_entry.ensures.items ∙ map_of-others c.self.inside.entries.items c.args.name.now c.self.invariant
    ∙ ap (λ r. fin.remove r.map c.args.name.now) c.self.view_is

pub returns-clause-spare : goal.returns-clause-spare
returns-clause-spare g c =
    let old = c.self.inside.entries in
    let new = c.remove_entry.new.entries in
    let kept = kept_others old.items new.items c.args.name.now c.self.invariant c.remove_entry.ensures.items in
    omega (
      arith,
      old.ok.0,
      old.ok.1,
      new.ok.0,
      new.ok.1,
      c.remove_entry.ensures.capacity,
      len_of old.items c.self.invariant,
      len_of new.items kept,
      ap (λ r. r.spare) c.self.view_is,
      ap (λ r. fin.len r.map) c.self.view_is,
    )
