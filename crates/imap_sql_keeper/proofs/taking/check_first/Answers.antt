use Rattle.std.proofs.Common.{inl, ⊎_elim, arith}
use Rattle.sqlite.specs.Held.{state}
use Rattle.sqlite.specs.State.{HasCleanDisk}
use Rattle.imap_tables.specs.Steps.{first_version}
use Rattle.imap_sql_keeper.specs.Adopting.{SaysVersion}
use Rattle.imap_sql_keeper.proofs.FirstTaken.{world_before}
use Rattle.imap_sql_keeper.proofs.Saved.{on_both}
use Rattle.imap_sql_keeper.proofs.taking.check_first.Goals as goal

pub returns-in-Ok-clause-first : goal.returns-in-Ok-clause-first
returns-in-Ok-clause-first g c clean =
    let old = state g.S.Store c.args.conn.now in
    let mid = state g.S.Store c.check_version.new.conn in
    let soon : HasCleanDisk mid = omega (arith, c.check_world.ensures.crash.clean, clean) in
    on_both c.check_world.result
    (λ live held. let it = world_before old mid c.requires.rest c.check_version.ensures.crash c.check_version.ensures.kept soon live held in (⊎_elim (λ (x : SaysVersion first_version old.now.trees). x) (λ (x : SaysVersion first_version old.now.trees). x) (c.in-Ok.ensures.says soon), it.0, it.1))
    (c.check_world.ensures.open clean) (c.check_world.ensures.holds clean)

pub returns-in-Err-clause-damaged : goal.returns-in-Err-clause-damaged
returns-in-Err-clause-damaged g c clean same first = c.in-Err.ensures.damaged clean same first.2.2 (inl first.0)
