use Rattle.std.proofs.Common.{◌++◌, length, ap, ◌∙◌, arith}
use Rattle.std.proofs.lemmas.List.{with_items_is}
use Rattle.imap_name_map.specs.Rows.{entries_within}
use Rattle.imap_name_map.specs.Renaming.{entries_apart}
use Rattle.imap_name_map.proofs.RenameLaws.{others_length}
use Rattle.imap_name_map.proofs.run_edits.run_to_end.Goals as goal

pub returns-clause-items : goal.returns-clause-items
returns-clause-items g c =
    with_items_is c.args.entries.now c.run_to_back-there.new.entries (c.run_to_back-there.ensures.len ∙ c.as_mut_slice.ensures.len)
    ∙ c.run_to_back-there.ensures.items
    ∙ ap (λ es. entries_apart c.args.top.now es ++ entries_within c.args.top.now es) c.as_mut_slice.ensures.value

pub returns-clause-others : goal.returns-clause-others
returns-clause-others g c =
    let l = c.run_to_back-there.ensures.len ∙ c.as_mut_slice.ensures.len in
    let n = others_length c.as_mut_slice.result.now c.run_to_back-there.new.entries c.args.top.now c.run_to_back-there.result c.run_to_back-there.ensures.items c.run_to_back-there.ensures.count in
    let m = ap (λ es. length (entries_apart c.args.top.now es)) c.as_mut_slice.ensures.value in
    omega (arith, l, n, m, c.len.ensures)
