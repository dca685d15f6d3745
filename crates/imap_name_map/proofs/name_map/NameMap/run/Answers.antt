use Rattle.std.proofs.Common.{ap, arith, length}
use Rattle.std.specs.FinMap as fin
use Rattle.std.specs.FinMap.{len-entries}
use Rattle.imap_name_map.proofs.Maps.{sorted_entries}
use Rattle.imap_name_map.proofs.Runs.{run_between, run_order}
use Rattle.imap_name_map.proofs.name_map.NameMap.run.Goals as goal

pub start_of-requires : goal.start_of-requires
start_of-requires g c = sorted_entries c.args.self.now.map c.entries-entries.result.now c.entries-entries.ensures

pub end_of-requires : goal.end_of-requires
end_of-requires g c = sorted_entries c.args.self.now.map c.entries-entries.result.now c.entries-entries.ensures

pub returns-clause-run : goal.returns-clause-run
returns-clause-run g c =
    run_between (fin.entries c.args.self.now.map) c.entries-entries.result.now c.args.top.now c.start_of.result c.end_of.result c.entries-entries.ensures c.start_of.ensures.place c.end_of.ensures.place
    (sorted_entries c.args.self.now.map (fin.entries c.args.self.now.map) (λ _. fin.entries c.args.self.now.map))

pub returns-clause-order : goal.returns-clause-order
returns-clause-order g c =
    run_order (fin.entries c.args.self.now.map) c.entries-entries.result.now c.args.top.now c.start_of.result c.end_of.result c.entries-entries.ensures c.start_of.ensures.place c.end_of.ensures.place

pub returns-clause-within : goal.returns-clause-within
returns-clause-within g c = omega (arith, ap length c.entries-entries.ensures, len-entries c.args.self.now.map, c.end_of.ensures.within)
