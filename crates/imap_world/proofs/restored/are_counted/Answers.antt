use Rattle.std.proofs.Common.{◌∙◌, ap, sym}
use Rattle.std.specs.FinMap.{get-entries}
use Rattle.std.specs.FinMap.Entries.{find}
use Rattle.imap_names.specs.Order.{name_cmp}
use Rattle.imap_name_map.proofs.Maps.{sorted_entries}
use Rattle.imap_world.proofs.restored.are_counted.Goals as goal

pub are_positive-requires : goal.are_positive-requires
are_positive-requires c = sorted_entries c.args.epochs.now.map c.entries.result.now c.entries.ensures

pub returns : goal.returns
returns c =
    let m = c.args.epochs.now.map in (
      (λ t name v there. c.are_positive.ensures.0 t name v (ap (find name_cmp name) c.entries.ensures ∙ sym (get-entries m name) ∙ there)),
      λ h. c.are_positive.ensures.1 (λ name v there. h name v (get-entries m name ∙ sym (ap (find name_cmp name) c.entries.ensures) ∙ there)),
    )
