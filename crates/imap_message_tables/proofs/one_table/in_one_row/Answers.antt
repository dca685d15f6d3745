use Rattle.std.proofs.Common.{◌≡◌, ◌≤◌, [], length, reverse, arith, ap, subst, sym, ◌∙◌}
use Rattle.std.proofs.lemmas.List.{reverse-reverse}
use Rattle.imap_message_tables.specs.OneTable.{IsInOneRow}
use Rattle.imap_message_tables.proofs.Ends.{none_left, turned}
use Rattle.imap_tables.proofs.Zipped.{HasRead, read_end, read_next, read_start}
use Rattle.imap_message_tables.proofs.one_table.in_one_row.Goals as goal

pub joined-init : goal.joined-init
joined-init c =
    let xs = c.args.joined.items in
    let turned_back = ap reverse c.reverse.ensures.items ∙ reverse-reverse xs in
    subst (HasRead IsInOneRow xs (reverse c.reverse.new.self.items)) (sym c.in_ok-messages.ensures.items)
    (subst (λ l. HasRead IsInOneRow xs l []) (sym turned_back) (read_start IsInOneRow xs))

pub joined-preserved : goal.joined-preserved
joined-preserved c =
    let xs = c.args.joined.items in
    let old = c.joined.joined.items in
    let new = c.take_last.new.rows.items in
    let it = c.in_ok-push_message.ensures in
    subst (HasRead IsInOneRow xs (reverse new)) (sym it.2)
    (read_next IsInOneRow xs (reverse old) (reverse new) c.in-Some.message it.0 c.joined.messages.items (turned old new c.in-Some.message c.in-Some.ensures.items) it.1 c.joined.invariant)

pub returns : goal.returns
returns c =
    let at = c.joined in
    let low : length at.joined.items ≤ 0 = omega (arith, c.in_default.ensures.cases.0) in
    read_end IsInOneRow c.args.joined.items (reverse at.joined.items) at.messages.items (none_left at.joined.items low) at.invariant
