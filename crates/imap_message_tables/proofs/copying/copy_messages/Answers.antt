use Rattle.std.proofs.Common.{rules, ◌≡◌, ◌+◌, ◌∷◌, ◌∙◌, arith, drop, drop_of_length-le, refl, sym, ap}
use Rattle.std.proofs.lemmas.List.{drop_more}
use Rattle.sqlite.specs.Held.{state}
use Rattle.imap_message_tables.specs.Copying.{CopiesRow, CopiesRows}
use Rattle.imap_tables.specs.declared.stored.StoredMessage.{StoredMessage}
use Rattle.imap_message_tables.proofs.Calling.{ends_on, goes_on, gone_all}
use Rattle.imap_message_tables.proofs.copying.copy_messages.Goals as goal

pub messages-preserved : goal.messages-preserved
messages-preserved g c =
    let old = state g.S.Store c.args.tx.now.conn.now in
    let mid = state g.S.Store c.messages.tx.conn.now in
    let new = state g.S.Store c.add_message.new.tx.conn.now in
    let all = c.args.messages.now in
    let at = c.messages.message-index in
    let item = c.message-item.result in
    let is : drop at all ≡ item ∷ drop (at + 1) all = drop_more all at item c.messages-test.true ∙ ap (λ (m : StoredMessage). m ∷ drop (at + 1) all) (sym c.message-item.is) in (
      c.add_message.ensures.same_reference ∙ c.messages.invariant.0,
      goes_on CopiesRow CopiesRows (λ m ms db mid after one more. (mid, one, more)) all (drop at all) (drop (at + 1) all) item old mid new is c.messages.invariant.1 c.in_ok-add_message.ensures.call,
    )

pub returns-clause-call : goal.returns-clause-call
returns-clause-call g c =
    let old = state g.S.Store c.args.tx.now.conn.now in
    let new = state g.S.Store c.messages.tx.conn.now in
    gone_all CopiesRows (λ db. refl) c.args.messages.now (drop c.messages.message-index c.args.messages.now) old new (drop_of_length-le c.args.messages.now (omega (arith, c.messages-test.false))) c.messages.invariant.1

pub returns-in_err-add_message-clause-call : goal.returns-in_err-add_message-clause-call
returns-in_err-add_message-clause-call g c =
    let old = state g.S.Store c.args.tx.now.conn.now in
    let mid = state g.S.Store c.messages.tx.conn.now in
    let new = state g.S.Store c.add_message.new.tx.conn.now in
    ends_on CopiesRows c.args.messages.now (drop c.messages.message-index c.args.messages.now) old mid new c.messages.invariant.1 c.add_message.ensures.call (search rules)

pub add_message-requires-clause-schema : goal.add_message-requires-clause-schema
add_message-requires-clause-schema g c = c.messages.invariant.1.1

pub add_message-requires-clause-begun : goal.add_message-requires-clause-begun
add_message-requires-clause-begun g c = λ clean. (c.messages.invariant.1.2 clean).1
