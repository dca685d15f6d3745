use Rattle.imap_name_map.proofs.Maps.{sorted_entries}
use Rattle.imap_world.proofs.Placed.{all_placed, placed_all}
use Rattle.imap_world.proofs.restored.are_placed.Goals as goal

pub are_placed_in-requires : goal.are_placed_in-requires
are_placed_in-requires c = sorted_entries c.args.mailboxes.now.map c.entries.result.now c.entries.ensures

pub returns : goal.returns
returns c =
    let m = c.args.mailboxes.now.map in
    let epochs = c.args.epochs.now.map in (
      (λ t. placed_all m epochs c.entries.result.now c.entries.ensures (c.are_placed_in.ensures.0 t)),
      λ h. c.are_placed_in.ensures.1 (all_placed m epochs c.entries.result.now c.entries.ensures h),
    )
