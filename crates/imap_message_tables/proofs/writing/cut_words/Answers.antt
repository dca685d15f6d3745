use Rattle.std.proofs.Common.{rules, ◌≡◌, ◌+◌, ◌∷◌, ◌∙◌, arith, drop, drop_of_length-le, map, string_bytes, refl, sym, ap}
use Rattle.std.proofs.lemmas.List.{drop_more}
use Rattle.std.specs.Global.{Global}
use Rattle.std.specs.declared.string.String.{String}
use Rattle.sqlite.specs.Held.{state}
use Rattle.sqlite.specs.Tree.{Trees}
use Rattle.imap_tables.specs.Edits.{IsKeywordOf, Removes}
use Rattle.imap_message_tables.specs.Writing.{CutsWords}
use Rattle.imap_message_tables.proofs.Calling.{ends_on, goes_on, gone_all}
use Rattle.imap_message_tables.proofs.writing.cut_words.Goals as goal

pub words-preserved : goal.words-preserved
words-preserved g c =
    let old = state g.S.Store c.args.tx.now.conn.now in
    let mid = state g.S.Store c.words.tx.conn.now in
    let new = state g.S.Store c.delete_keyword.new.tx.conn.now in
    let all = c.args.words.now in
    let at = c.words.word-index in
    let item = c.word-item.result in
    let One : String Global → Trees → Trees → Type 0 = λ k db mid. Removes db mid 20 (IsKeywordOf c.args.mailbox.now c.args.uid (string_bytes k)) in
    let is : drop at all ≡ item ∷ drop (at + 1) all = drop_more all at item c.words-test.true ∙ ap (λ (k : String Global). k ∷ drop (at + 1) all) (sym c.word-item.is) in (
      c.delete_keyword.ensures.same_reference ∙ c.words.invariant.0,
      goes_on One (λ ks. CutsWords c.args.mailbox.now c.args.uid (map string_bytes ks)) (λ k ks db mid after one more. (mid, one, more)) all (drop at all) (drop (at + 1) all) item old mid new is c.words.invariant.1
          (rw c.deref.ensures at c.in_ok-delete_keyword.ensures.call),
    )

pub returns-clause-call : goal.returns-clause-call
returns-clause-call g c =
    let old = state g.S.Store c.args.tx.now.conn.now in
    let new = state g.S.Store c.words.tx.conn.now in
    gone_all (λ ks. CutsWords c.args.mailbox.now c.args.uid (map string_bytes ks)) (λ db. refl) c.args.words.now (drop c.words.word-index c.args.words.now) old new
    (drop_of_length-le c.args.words.now (omega (arith, c.words-test.false))) c.words.invariant.1

pub returns-in_err-delete_keyword-clause-call : goal.returns-in_err-delete_keyword-clause-call
returns-in_err-delete_keyword-clause-call g c =
    let old = state g.S.Store c.args.tx.now.conn.now in
    let mid = state g.S.Store c.words.tx.conn.now in
    let new = state g.S.Store c.delete_keyword.new.tx.conn.now in
    ends_on (λ ks. CutsWords c.args.mailbox.now c.args.uid (map string_bytes ks)) c.args.words.now (drop c.words.word-index c.args.words.now) old mid new c.words.invariant.1 c.delete_keyword.ensures.call (search rules)
