use Rattle.std.proofs.Common.{◌≡◌, rules, true, IsTrue, OnOk, refl, subst}
use Rattle.sqlite.specs.Tree.{Trees}
use Rattle.sqlite.specs.State.{HasCleanDisk, Survives}
use Rattle.sqlite.specs.Held.{state}
use Rattle.sqlite.proofs.Callers.{survives_begin}
use Rattle.imap_message_tables.specs.Writing.{WritesAll}
use Rattle.imap_tables.specs.Rows.{IsOrderly}
use Rattle.imap_tables.specs.Steps.{IsCall, Turns}
use Rattle.imap_tables.proofs.Chain.{saves_whole}
use Rattle.imap_tables.proofs.Turned.{on_ok}
use Rattle.imap_message_tables.proofs.saving.save_rows.Goals as goal

pub returns-clause-alone : goal.returns-clause-alone
returns-clause-alone g c =
    let end = c.commit.new.self.0 in
    let same : end ≡ c.conn-2-1.given.0 = search rules in
    subst (λ h. HasCleanDisk (state g.S.Store h) → OnOk c.commit.result ((db : Trees) → (state g.S.Store h).may_leave db → db ≡ (state g.S.Store h).committed.trees)) same
    (λ late. on_ok c.commit.result (λ it db leaves. g.met.S.Store.settled end.store db it.1.is_open leaves) (c.commit.ensures.ok late))

pub returns-clause-crash : goal.returns-clause-crash
returns-clause-crash g c =
    let end = c.commit.new.self.0 in
    let same : end ≡ c.conn-2-1.given.0 = search rules in
    let start = c.args.conn.now in
    let begun = record start { in_transaction = true } in
    let mid = c.make_changes.new.tx.conn.now in
    let P = WritesAll c.args.changes.now in
    let call : IsCall (state g.S.Store begun) (state g.S.Store mid) (Turns P (state g.S.Store begun) (state g.S.Store mid)) =
    subst (λ h. IsCall (state g.S.Store h) (state g.S.Store mid) (Turns P (state g.S.Store h) (state g.S.Store mid))) c.transaction-tx.ensures.begun c.in_ok-make_changes.ensures.call in
    let Q : Trees → Type 0 = λ db. IsTrue (state g.S.Store start).is_open × P (state g.S.Store start).now.trees db × IsOrderly db in
    subst (λ h. Survives (state g.S.Store start) (state g.S.Store h) Q) same
    (survives_begin g.S.Store start (state g.S.Store end) Q
    (saves_whole P (state g.S.Store begun) (state g.S.Store mid) (state g.S.Store end) c.requires.store (λ _. refl) call c.commit.ensures.survives))
