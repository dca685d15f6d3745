use Rattle.std.proofs.Common.{◌∙◌, ap}
use Rattle.std.proofs.lemmas.List.{with_items_is}
use Rattle.imap_names.specs.Order.{run_cmp}
use Rattle.imap_name_map.specs.Renaming.{moved_run, entries_apart, with_run}
use Rattle.imap_name_map.proofs.moves.rename_in.Goals as goal

pub returns-clause-items : goal.returns-clause-items
returns-clause-items g c =
    with_items_is c.args.entries.now c.move_run.new.entries (c.move_run.ensures.len ∙ c.as_mut_slice.ensures.len)
    ∙ c.move_run.ensures.items
    ∙ ap (λ es. with_run (λ x. run_cmp x c.args.new.now) (moved_run c.args.old.now c.args.new.now es) (entries_apart c.args.old.now es)) c.as_mut_slice.ensures.value
