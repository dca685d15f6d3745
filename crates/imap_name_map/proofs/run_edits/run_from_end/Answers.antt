use Rattle.std.proofs.Common.{◌≡◌, ◌-◌, IsTrue, length, take, drop, sym, ap, subst, ◌≤◌, ◌∙◌, arith}
use Rattle.std.proofs.lemmas.List.{with_items_is, length-drop, take-append-drop}
use Rattle.std.specs.FinMap.Entries.{is_sorted}
use Rattle.imap_names.specs.Order.{name_cmp, run_cmp}
use Rattle.imap_name_map.specs.Cuts.{before}
use Rattle.imap_name_map.proofs.RenameLaws.{turned_in}
use Rattle.imap_name_map.proofs.run_edits.run_from_end.Goals as goal

pub start_among-place-requires-clause-sorted : goal.start_among-place-requires-clause-sorted
start_among-place-requires-clause-sorted g c =
    subst (λ es. IsTrue (is_sorted name_cmp (take c.args.others es))) (sym c.as_slice.ensures.value) c.requires.sorted

pub returns-clause-items : goal.returns-clause-items
returns-clause-items g c =
    let es = c.args.entries.now.items in
    let others = c.args.others in
    let n : c.len.result - others ≡ length (drop others es) = (let d = length-drop others es in let ok = c.args.entries.now.ok.0 in omega (arith, d, ok, c.len.ensures)) in
    with_items_is c.args.entries.now c.from_back.new.entries (c.from_back.ensures.len ∙ c.as_mut_slice.ensures.len)
    ∙ turned_in c.as_mut_slice.result.now c.from_back.new.entries (take others es) (drop others es) c.args.top.now c.start_among-place.result (c.len.result - others)
    (c.as_mut_slice.ensures.value ∙ sym (take-append-drop others es)) n
    (c.start_among-place.ensures.place ∙ ap (λ l. before (λ x. run_cmp x c.args.top.now) (take others l)) c.as_slice.ensures.value)
    (subst (λ l. c.start_among-place.result ≤ length (take others l)) c.as_slice.ensures.value c.start_among-place.ensures.within) c.from_back.ensures.items
