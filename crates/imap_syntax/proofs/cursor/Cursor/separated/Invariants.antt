use Rattle.std.proofs.Common.{◌≡◌, suc}
use Rattle.imap_syntax.specs.Rule.{with_front, separated_read, items_read}
use Rattle.imap_syntax.proofs.cursor.Cursor.separated.Given as goal

abbrev pub invariant-loop-items : goal.invariant-loop-items
invariant-loop-items g l = with_front l.items.items (separated_read l.separator g.I.Item.item_read (suc l.left) l.self) ≡ items_read l.fn.separator g.I.Item.item_read l.fn.self

abbrev pub decreases-loop-items : goal.decreases-loop-items
decreases-loop-items g l = l.left
