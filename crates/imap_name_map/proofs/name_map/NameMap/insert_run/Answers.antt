use Rattle.std.proofs.Common.{◌∙◌, ap}
use Rattle.imap_name_map.specs.Rows.{inserted_all}
use Rattle.imap_name_map.proofs.RunInserts.{run_put_sorted, run_put_made}
use Rattle.imap_name_map.proofs.name_map.NameMap.insert_run.Goals as goal

pub invariant_of-self : goal.invariant_of-self
invariant_of-self g c =
    run_put_sorted c.args.top.now c.self.inside.entries.items c.put_run.new.entries.items c.args.entries.items c.self.invariant c.requires.within c.put_run.ensures.items

pub returns-clause-map : goal.returns-clause-map
returns-clause-map g c =
    run_put_made c.args.top.now c.self.inside.entries.items c.put_run.new.entries.items c.args.entries.items c.self.invariant c.requires.within c.put_run.ensures.items
    ∙ ap (λ r. inserted_all r.map c.args.entries.items) c.self.view_is
