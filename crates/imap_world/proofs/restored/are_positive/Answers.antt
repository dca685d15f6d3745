use Rattle.std.proofs.Common.{◌<◌, ◌+◌, drop, arith}
use Rattle.imap_name_map.proofs.Kept.{item_found, item_first}
use Rattle.imap_world.proofs.Placed.{walk_goes_on}
use Rattle.imap_world.proofs.restored.are_positive.Goals as goal

pub returns-then-entry-eq0 : goal.returns-then-entry-eq0
returns-then-entry-eq0 c =
    let es = c.args.entries.now in
    let item = c.entry-item.result in
    let found = item_found es c.loop-entry.entry-index item c.requires c.loop-entry-test.true c.entry-item.is in (
      (λ f. absurd (cc f)),
      λ h. let some = h item.0 item.1 found in absurd (omega (arith, some, c.if-entry-eq0.true)),
    )

pub loop-entry-preserved : goal.loop-entry-preserved
loop-entry-preserved c =
    let es = c.args.entries.now in
    let item = c.entry-item.result in
    let found = item_found es c.loop-entry.entry-index item c.requires c.loop-entry-test.true c.entry-item.is in
    let first = item_first es c.loop-entry.entry-index item c.requires c.loop-entry-test.true c.entry-item.is in
    walk_goes_on (λ q v. 0 < v) es (drop c.loop-entry.entry-index es) (drop (c.loop-entry.entry-index + 1) es) item.0 item.1 first found (omega (arith, c.if-entry-eq0.false)) c.loop-entry.invariant
