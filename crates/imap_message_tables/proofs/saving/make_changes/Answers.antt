use Rattle.std.proofs.Common.{◌≡◌, ◌+◌, [], ◌∷◌, ◌∙◌, arith, drop, drop_of_length-le, refl, sym, ap}
use Rattle.std.proofs.lemmas.List.{drop_more}
use Rattle.sqlite.specs.Held.{state}
use Rattle.imap_tables.specs.declared.changes.RowChange.{RowChange}
use Rattle.imap_message_tables.specs.Writing.{Writes, WritesAll}
use Rattle.imap_tables.proofs.Chain.{made_all, makes_on, opened_by}
use Rattle.imap_message_tables.proofs.saving.make_changes.Goals as goal

pub changes-preserved : goal.changes-preserved
changes-preserved g c =
    let old = state g.S.Store c.args.tx.now.conn.now in
    let mid = state g.S.Store c.changes.tx.conn.now in
    let new = state g.S.Store c.make_change.new.tx.conn.now in
    let all = c.args.changes.now in
    let at = c.changes.change-index in
    let item = c.change-item.result in
    let is : drop at all ≡ item ∷ drop (at + 1) all = drop_more all at item c.changes-test.true ∙ ap (λ (k : RowChange). k ∷ drop (at + 1) all) (sym c.change-item.is) in (
      c.make_change.ensures.same_reference ∙ c.changes.invariant.0,
      makes_on Writes WritesAll (λ k ks db mid after one more. (mid, one, more)) all (drop at all) (drop (at + 1) all) item old mid new is c.changes.invariant.1 c.in_ok-make_change.ensures.call,
      λ clean more. opened_by WritesAll all (drop at all) old mid new (Writes item) c.changes.invariant.1 c.in_ok-make_change.ensures.call clean,
    )

pub returns-clause-call : goal.returns-clause-call
returns-clause-call g c =
    let old = state g.S.Store c.args.tx.now.conn.now in
    let new = state g.S.Store c.changes.tx.conn.now in
    let none : drop c.changes.change-index c.args.changes.now ≡ [] = drop_of_length-le c.args.changes.now (omega (arith, c.changes-test.false)) in
    made_all WritesAll (λ db. refl) c.args.changes.now (drop c.changes.change-index c.args.changes.now) old new none c.changes.invariant.1
    (λ clean. c.changes.invariant.2 clean (λ same. c.requires.some (sym same ∙ none)))
