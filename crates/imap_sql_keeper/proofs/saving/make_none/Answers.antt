use Rattle.std.proofs.Common.{inl, inr, ap}
use Rattle.sqlite.specs.Effect.{Database}
use Rattle.sqlite.specs.Held.{state}
use Rattle.imap_sql_keeper.proofs.Saved.{committed_trees, early, none_made, on_ok, rest_back, same_trees}
use Rattle.imap_sql_keeper.proofs.saving.make_none.Goals as goal

pub returns-clause-rest : goal.returns-clause-rest
returns-clause-rest g c =
    rest_back (state g.S.Store c.args.conn.now) (state g.S.Store c.check_open.new.conn) _ c.requires.rest c.check_open.ensures.crash c.check_open.ensures.autocommit c.check_open.ensures.kept

pub returns-clause-after : goal.returns-clause-after
returns-clause-after g c clean live =
    let old = state g.S.Store c.args.conn.now in
    let new = state g.S.Store c.check_open.new.conn in
    let b = c.check_open.ensures.kept clean live in
    on_ok c.check_open.result
    (λ was. none_made old c.requires.rest c.requires.store (early old new _ c.requires.rest c.check_open.ensures.crash clean) was new.now.trees
    (ap (λ (d : Database). d.trees) (same_trees old new _ c.requires.rest c.check_open.ensures.crash clean b))) (c.check_open.ensures.was_open clean)

pub returns-clause-honest : goal.returns-clause-honest
returns-clause-honest g c = early (state g.S.Store c.args.conn.now) (state g.S.Store c.check_open.new.conn) _ c.requires.rest c.check_open.ensures.crash

pub returns-clause-crash : goal.returns-clause-crash
returns-clause-crash g c clean db leaves = elim (c.check_open.ensures.crash.crash clean db leaves) [ inl was ↦ inl was | inr none ↦ absurd none ]

pub returns-clause-alone : goal.returns-clause-alone
returns-clause-alone g c clean =
    let start = c.args.conn.now in
    let old = state g.S.Store start in
    let new = state g.S.Store c.check_open.new.conn in
    let was = early old new _ c.requires.rest c.check_open.ensures.crash clean in
    on_ok c.check_open.result
    (λ live db leaves. elim (c.check_open.ensures.crash.crash clean db leaves) [
      | inl before ↦ none_made old c.requires.rest c.requires.store was live db (committed_trees old c.requires.rest was live db (g.met.S.Store.settled start.store db live before))
      | inr none ↦ absurd none
    ]) (c.check_open.ensures.was_open clean)
