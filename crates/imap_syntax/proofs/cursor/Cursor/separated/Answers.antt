use Rattle.std.proofs.Common.{◌≡◌, ◌-◌, suc, true, Some, arith}
use Rattle.imap_syntax.specs.Rule.{flag_read}
use Rattle.imap_syntax.proofs.Loop.{begins, goes_further}
use Rattle.imap_syntax.proofs.cursor.Cursor.separated.Goals as goal

pub loop-items-init : goal.loop-items-init
loop-items-init g c = rw (c.rest-left.ensures, c.new-items.ensures.items) (begins c.args.separator g.I.Item.item_read c.args.self.now)

pub loop-items-preserved : goal.loop-items-preserved
loop-items-preserved g c =
    let more : flag_read c.args.separator c.item.new.cursor ≡ Some (true, c.has.new.self) = grind (arith, c.has.ensures) in
    let left : c.loop-items.left ≡ suc (c.loop-items.left - 1) = omega arith in
    rw c.in_ok-push.ensures.items (goes_further c.args.separator g.I.Item.item_read c.loop-items.left (c.loop-items.left - 1) c.loop-items.items.items c.loop-items.self c.item.new.cursor c.has.new.self c.in_ok-item.item _ left c.in_ok-item.ensures more c.loop-items.invariant)
