use Rattle.std.proofs.Common.{◌++◌, ◌∙◌, sym, ap}
use Rattle.imap_names.specs.Order.{path_run_cmp, end_cmp}
use Rattle.imap_names.specs.Text.{components_of}
use Rattle.imap_names.proofs.PathOrder.{run_by_end, run_by_order}
use Rattle.imap_names.proofs.name_ref.compare_path_to_run.Goals as goal

pub returns-in-Some : goal.returns-in-Some
returns-in-Some c =
    let parted = c.in-Some.ensures.cases in
    c.compare_end.ensures ∙ ap end_cmp c.as_bytes.ensures.value ∙ sym (run_by_end c.args.top.now c.in-Some.rest.now)
    ∙ ap (λ z. path_run_cmp (components_of z) (components_of c.args.top.now)) (sym (parted.1.1 ∙ ap (λ z. c.args.top.now ++ z) (sym parted.2)))

pub returns-in-None : goal.returns-in-None
returns-in-None c = c.compare_paths.ensures ∙ sym (run_by_order c.args.path.now c.args.top.now c.in-None.ensures.cases)
