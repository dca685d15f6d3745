use Rattle.std.proofs.Common.{◌+◌, ◌++◌, [], ◌∷◌, drop, map, sym, ap, subst, ◌∙◌, arith}
use Rattle.std.specs.List.{AllByRecursion}
use Rattle.std.proofs.lemmas.List.{drop_more}
use Rattle.imap_batch.specs.Entered.{messages_from}
use Rattle.imap_records.specs.Steps.{below_of, message_step}
use Rattle.imap_records.specs.Values.{IsNewValue}
use Rattle.imap_records.proofs.Lists.{part_done}
use Rattle.imap_records.proofs.batch.push_added.Goals as goal

pub loop-message-preserved : goal.loop-message-preserved
loop-message-preserved c =
    let l = c.loop-message in
    let added = c.args.added.now in
    let item = c.message-item.result in
    let rest = drop (l.message-index + 1) added in
    let front = drop_more added l.message-index item c.loop-message-test.true ∙ ap (λ x. x ∷ rest) (sym c.message-item.is) in
    record {
      rows = part_done (map below_of l.changes.items) (map below_of c.push_message.new.changes.items) (map message_step (messages_from l.next l.at (item ∷ [])))
          (map message_step (messages_from (l.next + 1) (l.at + 1) rest)) _ c.in_ok-push_message.ensures.rows
          (ap (λ xs. map below_of l.changes.items ++ map message_step (messages_from l.next l.at xs)) (sym front) ∙ l.invariant.rows);
      valid = λ rest_valid. l.invariant.valid (subst (AllByRecursion IsNewValue) (sym front) (c.in_ok-push_message.ensures.valid, rest_valid));
      uid = omega (arith, l.invariant.uid);
      place = omega (arith, l.invariant.place);
    }
