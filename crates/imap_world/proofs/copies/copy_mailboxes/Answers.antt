use Rattle.std.proofs.Common.{ap, arith, ◌∙◌}
use Rattle.std.specs.FinMap as map
use Rattle.imap_world.proofs.Copied.{all_copied, nothing_copied, one_copied}
use Rattle.imap_world.proofs.copies.copy_mailboxes.Goals as goal

pub loop-entry-init : goal.loop-entry-init
loop-entry-init c = record {
  copied = nothing_copied c.args.mailboxes.now.map c.reserve.new.self.map c.entries-entries.result.now c.entries-entries.ensures (c.reserve.ensures.map ∙ c.new-copy.ensures);
  room = omega (arith, c.in_ok-reserve.ensures.ok);
}

pub loop-entry-preserved : goal.loop-entry-preserved
loop-entry-preserved c = record {
  copied = one_copied c.args.mailboxes.now.map c.loop-entry.copy.map c.insert_reserved.new.self.map c.loop-entry.entry-index c.entry-item.result c.in_ok-mailbox.mailbox c.entries-entries.result.now
      c.entries-entries.ensures c.loop-entry-test.true c.entry-item.is c.in_ok-mailbox.ensures
      (c.insert_reserved.ensures.map ∙ ap (λ k. map.insert c.loop-entry.copy.map k c.in_ok-mailbox.mailbox) c.in_ok-name.ensures.copy)
      c.loop-entry.invariant.copied;
  room = omega (arith, c.loop-entry.invariant.room, c.insert_reserved.ensures.spare);
}

pub returns : goal.returns
returns c = all_copied c.args.mailboxes.now.map c.loop-entry.copy.map c.loop-entry.entry-index c.entries-entries.result.now c.loop-entry-test.false c.loop-entry.invariant.copied
