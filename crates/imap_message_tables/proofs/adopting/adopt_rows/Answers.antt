use Rattle.std.proofs.Common.{◌≡◌, rules, true, IsTrue, OnOk, refl, subst}
use Rattle.sqlite.specs.Tree.{Trees}
use Rattle.sqlite.specs.State.{HasCleanDisk, Survives}
use Rattle.sqlite.specs.Held.{state}
use Rattle.sqlite.proofs.Callers.{survives_begin}
use Rattle.imap_message_tables.specs.Adopting.{Adopts, AdoptsRows}
use Rattle.imap_tables.specs.Rows.{IsOrderly}
use Rattle.imap_tables.specs.Steps.{IsCall}
use Rattle.imap_tables.proofs.Turned.{on_ok}
use Rattle.imap_message_tables.proofs.Adopted.{adopts_whole}
use Rattle.imap_message_tables.proofs.adopting.adopt_rows.Goals as goal

pub returns-clause-alone : goal.returns-clause-alone
returns-clause-alone g c =
    let end = c.commit.new.self.0 in
    let same : end ≡ c.conn-2-1.given.0 = search rules in
    subst (λ h. HasCleanDisk (state g.S.Store h) → OnOk c.commit.result ((db : Trees) → (state g.S.Store h).may_leave db → db ≡ (state g.S.Store h).committed.trees)) same
    (λ late. on_ok c.commit.result (λ it db leaves. g.met.S.Store.settled end.store db it.1.is_open leaves) (c.commit.ensures.ok late))

pub returns-clause-crash : goal.returns-clause-crash
returns-clause-crash g c =
    let end = c.commit.new.self.0 in
    let same : end ≡ c.conn-2-1.given.0 = search rules in
    let start = c.args.conn.now in
    let begun = record start { in_transaction = true } in
    let mid = c.adopt_in.new.tx.conn.now in
    let messages = c.args.messages.now in
    let call : IsCall (state g.S.Store begun) (state g.S.Store mid) (Adopts messages (state g.S.Store begun) (state g.S.Store mid)) =
    subst (λ h. IsCall (state g.S.Store h) (state g.S.Store mid) (Adopts messages (state g.S.Store h) (state g.S.Store mid))) c.transaction-tx.ensures.begun c.in_ok-adopt_in.ensures.call in
    let Q : Trees → Type 0 = λ db. IsTrue (state g.S.Store start).is_open × AdoptsRows messages (state g.S.Store start).now.trees db × IsOrderly db in
    subst (λ h. Survives (state g.S.Store start) (state g.S.Store h) Q) same
    (survives_begin g.S.Store start (state g.S.Store end) Q
    (adopts_whole (state g.S.Store begun) (state g.S.Store mid) (state g.S.Store end) messages c.requires.first (λ _. refl) call c.commit.ensures.survives))
