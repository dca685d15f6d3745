use Rattle.std.proofs.Common.{◌≡◌, ◌+◌, ◌++◌, ◌∷◌, ℕ, drop, sym, ap, subst, ◌∙◌}
use Rattle.std.specs.List.{AllByRecursion}
use Rattle.std.proofs.lemmas.List.{drop_more}
use Rattle.imap_names.specs.Name.{Name}
use Rattle.imap_names.specs.Order.{moved}
use Rattle.imap_names.specs.Valid.{IsName}
use Rattle.imap_tables.specs.Stored.{IsShort}
use Rattle.imap_records.specs.Steps.{arrival_steps, move_steps, steps_in}
use Rattle.imap_records.proofs.Lists.{part_done}
use Rattle.imap_records.proofs.tree.push_arrivals.Goals as goal

pub loop-arrival-preserved : goal.loop-arrival-preserved
loop-arrival-preserved c =
    let l = c.loop-arrival in
    let old = c.args.old.now in
    let new = c.args.new.now in
    let all = c.args.arrivals.now in
    let item = c.arrival-item.result in
    let rest = drop (l.arrival-index + 1) all in
    let front : drop l.arrival-index all ≡ item ∷ rest = drop_more all l.arrival-index item c.loop-arrival-test.true ∙ ap (λ x. x ∷ rest) (sym c.arrival-item.is) in
    record {
      rows = part_done (steps_in l.changes.items) (steps_in c.push_moved.new.changes.items) (move_steps (moved new old item.0) item.0 item.1) (arrival_steps old new rest) _ c.in_ok-push_moved.ensures.rows
          (ap (λ xs. steps_in l.changes.items ++ arrival_steps old new xs) (sym front) ∙ l.invariant.rows);
      valid = λ later. l.invariant.valid (subst (AllByRecursion (λ (a : Name × ℕ). IsName a.0)) (sym front) (c.in_ok-push_moved.ensures.valid, later));
      values = λ later. l.invariant.values (subst (AllByRecursion (λ (a : Name × ℕ). IsShort a.1)) (sym front) (c.push_moved.ensures.short, later));
    }
