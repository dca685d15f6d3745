use Rattle.std.proofs.Common.{◌≡◌, ◌+◌, ◌∷◌, ◌∙◌, arith, drop, drop_of_length-le, refl, sym, ap}
use Rattle.std.proofs.lemmas.List.{drop_more}
use Rattle.sqlite.specs.Held.{state}
use Rattle.imap_tables.specs.declared.changes.ChangeBelow.{ChangeBelow}
use Rattle.imap_message_tables.specs.Writing.{WritesAllBelow, WritesBelow}
use Rattle.imap_tables.proofs.Chain.{early, made_all, makes_on}
use Rattle.imap_message_tables.proofs.saving.make_all_below.Goals as goal

pub changes-preserved : goal.changes-preserved
changes-preserved g c =
    let old = state g.S.Store c.args.tx.now.conn.now in
    let mid = state g.S.Store c.changes.tx.conn.now in
    let new = state g.S.Store c.make_below.new.tx.conn.now in
    let all = c.args.changes.now in
    let at = c.changes.change-index in
    let item = c.change-item.result in
    let is : drop at all ≡ item ∷ drop (at + 1) all = drop_more all at item c.changes-test.true ∙ ap (λ (k : ChangeBelow). k ∷ drop (at + 1) all) (sym c.change-item.is) in (
      c.make_below.ensures.same_reference ∙ c.changes.invariant.0,
      makes_on (WritesBelow c.args.mailbox.now) (WritesAllBelow c.args.mailbox.now) (λ k ks db mid after one more. (mid, one, more)) all (drop at all) (drop (at + 1) all) item old mid new is c.changes.invariant.1 c.in_ok-make_below.ensures.call,
      λ clean. c.changes.invariant.2 (early mid mid new c.in_ok-make_below.ensures.call.survives clean),
    )

pub returns-clause-call : goal.returns-clause-call
returns-clause-call g c =
    let old = state g.S.Store c.args.tx.now.conn.now in
    let new = state g.S.Store c.changes.tx.conn.now in
    made_all (WritesAllBelow c.args.mailbox.now) (λ db. refl) c.args.changes.now (drop c.changes.change-index c.args.changes.now) old new
    (drop_of_length-le c.args.changes.now (omega (arith, c.changes-test.false))) c.changes.invariant.1 c.changes.invariant.2
