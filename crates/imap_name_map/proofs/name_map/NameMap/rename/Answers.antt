use Rattle.std.proofs.Common.{◌∙◌, ap}
use Rattle.std.specs.FinMap as fin
use Rattle.imap_name_map.specs.Renaming.{renamed}
use Rattle.imap_name_map.proofs.RenameLaws.{move_sorted, move_made, free_in, names_in}
use Rattle.imap_name_map.proofs.LookUp.{get_renamed}
use Rattle.imap_name_map.proofs.name_map.NameMap.rename.Goals as goal

pub rename_in-requires-clause-names : goal.rename_in-requires-clause-names
rename_in-requires-clause-names g c =
    names_in c.self.inside.entries.items c.args.self.now.map c.args.names.items c.args.old.now c.args.new.now c.self.invariant (ap (λ r. r.map) c.self.view_is) c.requires.names

pub invariant_of-self : goal.invariant_of-self
invariant_of-self g c =
    move_sorted c.self.inside.entries.items c.rename_in.new.entries.items c.args.old.now c.args.new.now c.self.invariant (free_in c.self.inside.entries.items c.args.self.now.map c.args.new.now c.self.invariant (ap (λ r. r.map) c.self.view_is) c.requires.free) c.rename_in.ensures.items

pub returns-clause-map : goal.returns-clause-map
returns-clause-map g c =
    move_made c.self.inside.entries.items c.rename_in.new.entries.items c.args.old.now c.args.new.now c.self.invariant (free_in c.self.inside.entries.items c.args.self.now.map c.args.new.now c.self.invariant (ap (λ r. r.map) c.self.view_is) c.requires.free) c.rename_in.ensures.items
    ∙ ap (λ r. renamed c.args.old.now c.args.new.now r.map) c.self.view_is

pub returns-clause-values : goal.returns-clause-values
returns-clause-values g c =
    λ name. ap (λ m. fin.get m name) (returns-clause-map g c) ∙ get_renamed c.args.old.now c.args.new.now c.args.self.now.map name c.requires.free
