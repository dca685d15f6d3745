use Rattle.std.proofs.Common.{◌+◌, ◌∙◌, drop, sym}
use Rattle.imap_name_map.proofs.Kept.{item_found, item_first}
use Rattle.imap_world.specs.Mailbox.{plain_all}
use Rattle.imap_world.specs.Restored.{IsPlaced}
use Rattle.imap_world.proofs.Placed.{walk_goes_on}
use Rattle.imap_world.proofs.restored.are_placed_in.Goals as goal

pub returns-then-not-is_placed : goal.returns-then-not-is_placed
returns-then-not-is_placed c =
    let es = c.args.entries.now in
    let item = c.entry-item.result in
    let found = item_found es c.loop-entry.entry-index item c.requires c.loop-entry-test.true c.entry-item.is in (
      (λ f. absurd (cc f)),
      λ h. sym c.if-not-is_placed.true ∙ c.is_placed.ensures.1 (h item.0 item.1 found),
    )

pub loop-entry-preserved : goal.loop-entry-preserved
loop-entry-preserved c =
    let es = c.args.entries.now in
    let item = c.entry-item.result in
    let found = item_found es c.loop-entry.entry-index item c.requires c.loop-entry-test.true c.entry-item.is in
    let first = item_first es c.loop-entry.entry-index item c.requires c.loop-entry-test.true c.entry-item.is in
    walk_goes_on (λ q v. IsPlaced (plain_all c.args.mailboxes.now.map) c.args.epochs.now.map q v.validity) es (drop c.loop-entry.entry-index es) (drop (c.loop-entry.entry-index + 1) es) item.0 item.1 first found (c.is_placed.ensures.0 c.if-not-is_placed.false) c.loop-entry.invariant
