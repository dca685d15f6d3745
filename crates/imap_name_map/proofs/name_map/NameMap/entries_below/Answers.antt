use Rattle.std.proofs.Common.{ap, ◌∙◌}
use Rattle.std.specs.FinMap as fin
use Rattle.std.specs.FinMap.Entries.{is_sorted}
use Rattle.imap_names.specs.Order.{name_cmp, is_within}
use Rattle.imap_name_map.specs.Rows.{entries_below}
use Rattle.imap_name_map.proofs.Maps.{sorted_entries, sorted_where}
use Rattle.imap_name_map.proofs.Runs.{all_within, all_within-entries, below_within}
use Rattle.imap_name_map.proofs.name_map.NameMap.entries_below.Goals as goal

pub without_top-requires-clause-sorted : goal.without_top-requires-clause-sorted
without_top-requires-clause-sorted g c =
    let entries = fin.entries c.args.self.now.map in
    ap (is_sorted name_cmp) c.run_entries.ensures ∙ sorted_where (is_within c.args.top.now) entries (sorted_entries c.args.self.now.map entries (λ _. entries))

pub without_top-requires-clause-run : goal.without_top-requires-clause-run
without_top-requires-clause-run g c =
    ap (all_within c.args.top.now) c.run_entries.ensures ∙ all_within-entries c.args.top.now (fin.entries c.args.self.now.map)

pub returns : goal.returns
returns g c =
    c.without_top.ensures ∙ ap (entries_below c.args.top.now) c.run_entries.ensures ∙ below_within c.args.top.now (fin.entries c.args.self.now.map)
