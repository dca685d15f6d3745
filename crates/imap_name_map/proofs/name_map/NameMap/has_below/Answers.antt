use Rattle.std.proofs.Common.{ap, ◌∙◌}
use Rattle.std.specs.FinMap as fin
use Rattle.std.specs.FinMap.Entries.{is_sorted}
use Rattle.imap_names.specs.Order.{name_cmp, is_within}
use Rattle.imap_name_map.proofs.Maps.{sorted_entries, sorted_where}
use Rattle.imap_name_map.proofs.Runs.{all_within, all_within-entries, any_below, any_below-within}
use Rattle.imap_name_map.proofs.name_map.NameMap.has_below.Goals as goal

pub ends_below-requires-clause-sorted : goal.ends_below-requires-clause-sorted
ends_below-requires-clause-sorted g c =
    let entries = fin.entries c.args.self.now.map in
    ap (is_sorted name_cmp) c.run_entries.ensures ∙ sorted_where (is_within c.args.top.now) entries (sorted_entries c.args.self.now.map entries (λ _. entries))

pub ends_below-requires-clause-run : goal.ends_below-requires-clause-run
ends_below-requires-clause-run g c =
    ap (all_within c.args.top.now) c.run_entries.ensures ∙ all_within-entries c.args.top.now (fin.entries c.args.self.now.map)

pub returns : goal.returns
returns g c =
    c.ends_below.ensures ∙ ap (any_below c.args.top.now) c.run_entries.ensures ∙ any_below-within c.args.top.now (fin.entries c.args.self.now.map)
