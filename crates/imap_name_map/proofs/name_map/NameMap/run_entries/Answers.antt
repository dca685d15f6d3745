use Rattle.std.proofs.Common.{ap, length, arith, drop, take, ◌∙◌}
use Rattle.std.specs.FinMap.{len-entries}
use Rattle.imap_name_map.proofs.name_map.NameMap.run_entries.Goals as goal

pub part_of-requires-clause-within : goal.part_of-requires-clause-within
part_of-requires-clause-within g c = omega (arith, ap length c.entries.ensures, len-entries c.args.self.now.map, c.run-start.ensures.within)

pub returns : goal.returns
returns g c = c.part_of.ensures ∙ ap (λ es. drop c.run-start.result.0 (take c.run-start.result.1 es)) c.entries.ensures ∙ c.run-start.ensures.run
