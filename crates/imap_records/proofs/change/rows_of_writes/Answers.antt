use Rattle.std.proofs.Common.{◌≡◌, ◌+◌, ◌++◌, ◌∷◌, drop, sym, ap, subst, ◌∙◌}
use Rattle.std.specs.List.{AllByRecursion}
use Rattle.std.proofs.lemmas.List.{drop_more}
use Rattle.imap_records.specs.Bounds.{AreBounded, AreNamed}
use Rattle.imap_records.specs.Steps.{steps_for, steps_in, steps_of}
use Rattle.imap_records.specs.Values.{WriteHasValues}
use Rattle.imap_records.proofs.Lists.{part_done}
use Rattle.imap_records.proofs.change.rows_of_writes.Goals as goal

pub loop-write-preserved : goal.loop-write-preserved
loop-write-preserved c =
    let l = c.loop-write in
    let all = c.args.writes.now in
    let item = c.write-item.result in
    let rest = drop (l.write-index + 1) all in
    let front : drop l.write-index all ≡ item ∷ rest = drop_more all l.write-index item c.loop-write-test.true ∙ ap (λ x. x ∷ rest) (sym c.write-item.is) in
    record {
      rows = part_done (steps_in l.changes.items) (steps_in c.push_write.new.changes.items) (steps_for item) (steps_of rest) _ c.in_ok-push_write.ensures.rows
          (ap (λ xs. steps_in l.changes.items ++ steps_of xs) (sym front) ∙ l.invariant.rows);
      valid = λ later. l.invariant.valid (subst AreNamed (sym front) (c.in_ok-push_write.ensures.valid, later));
      bounded = (subst AreBounded front l.invariant.bounded).1;
      values = λ later. l.invariant.values (subst (AllByRecursion WriteHasValues) (sym front) (c.in_ok-push_write.ensures.values, later));
    }
