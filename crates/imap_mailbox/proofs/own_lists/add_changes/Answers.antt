use Rattle.std.proofs.Common.{◌≤◌, ◌+◌, ◌++◌, ◌∷◌, [], length, take, drop, ap, subst, sym, ◌∙◌, arith}
use Rattle.std.proofs.lemmas.List.{drop_more, take_more, take_all, take-append-drop}
use Rattle.imap_modseq.specs.Numbers.{max_events}
use Rattle.imap_mailbox.specs.Held.{lists}
use Rattle.imap_mailbox.specs.Own.{Own}
use Rattle.imap_mailbox.specs.Parts.{AreInPlace}
use Rattle.imap_mailbox.specs.Restored.{Appends}
use Rattle.imap_mailbox.specs.Summary.{Fits}
use Rattle.imap_mailbox.proofs.Changes.{fits_none}
use Rattle.imap_mailbox.proofs.Keeping.{nobody}
use Rattle.imap_mailbox.proofs.OwnChanges.{refused, appended, fit_all, none_in_place}
use Rattle.imap_mailbox.proofs.own_lists.add_changes.Goals as goal

pub loop-change-init : goal.loop-change-init
loop-change-init c = record {
  placed = none_in_place c.args.shared (lists c.args.own.now) (nobody c.args.own.now c.requires.none);
  fit = λ user. subst (λ (o : Own). Fits c.args.shared c.args.next o × (length o.befores ≤ max_events)) (sym (nobody c.args.own.now c.requires.none user)) (fits_none c.args.shared c.args.next, omega arith);
}

pub returns : goal.returns
returns c =
    let all = take_all c.loop-change.change-index c.args.changes.now c.loop-change-test.false in
    (subst (λ l. AreInPlace c.args.shared l (lists c.loop-change.own)) all c.loop-change.invariant.placed, c.loop-change.invariant.fit)

pub returns-in-Err : goal.returns-in-Err
returns-in-Err c =
    let changes = c.args.changes.now in
    let i = c.loop-change.change-index in
    let item = c.change-item.result in
    let rest = drop (i + 1) changes in
    let front = drop_more changes i item c.loop-change-test.true ∙ ap (λ x. x ∷ rest) (sym c.change-item.is) in
    refused c.args.next c.args.shared changes (take i changes) rest item c.loop-change.own c.add_change.new.own c.add_change.new.own c.in-Err.error
    (sym (take-append-drop i changes) ∙ ap (λ l. take i changes ++ l) front) c.loop-change.invariant.placed
    (subst (Appends c.args.next c.args.shared item c.loop-change.own c.add_change.new.own) c.in-Err.is c.add_change.ensures)

pub loop-change-preserved : goal.loop-change-preserved
loop-change-preserved c =
    let changes = c.args.changes.now in
    let i = c.loop-change.change-index in
    let item = c.change-item.result in
    let more = take_more changes i item c.loop-change-test.true ∙ ap (λ x. take i changes ++ x ∷ []) (sym c.change-item.is) in
    let made = subst (Appends c.args.next c.args.shared item c.loop-change.own c.add_change.new.own) c.in_default.is c.add_change.ensures in
    record {
      placed = subst (λ l. AreInPlace c.args.shared l (lists c.add_change.new.own)) (sym more)
          (appended c.args.next c.args.shared (take i changes) item (lists c.loop-change.own) (lists c.add_change.new.own) made.0 made.1 c.loop-change.invariant.placed);
      fit = fit_all c.args.next c.args.shared (take i changes) item (lists c.loop-change.own) (lists c.add_change.new.own) made.0 made.1 c.loop-change.invariant.fit;
    }
