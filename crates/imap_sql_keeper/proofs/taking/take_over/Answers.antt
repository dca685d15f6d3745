use Rattle.std.proofs.Common.{arith}
use Rattle.sqlite.specs.Held.{state}
use Rattle.sqlite.specs.State.{HasCleanDisk}
use Rattle.imap_sql_keeper.proofs.FirstTaken.{first_still, taken_before}
use Rattle.imap_sql_keeper.proofs.Saved.{on_both}
use Rattle.imap_sql_keeper.proofs.taking.take_over.Goals as goal

pub move_rows-requires-clause-first : goal.move_rows-requires-clause-first
move_rows-requires-clause-first g c =
    let old = state g.S.Store c.args.conn.now in
    let mid = state g.S.Store c.check_first.new.conn in
    first_still old mid c.requires.rest c.check_first.ensures.crash c.check_first.ensures.kept c.in-Ok.ensures.first

pub returns-in-Ok-clause-alone : goal.returns-in-Ok-clause-alone
returns-in-Ok-clause-alone g c clean =
    let old = state g.S.Store c.args.conn.now in
    let mid = state g.S.Store c.check_first.new.conn in
    let soon : HasCleanDisk mid = omega (arith, c.move_rows.ensures.crash.clean, clean) in
    on_both c.move_rows.result
    (λ live alone db may. taken_before old mid c.requires.rest c.check_first.ensures.crash c.check_first.ensures.kept db soon live (alone db may))
    (c.move_rows.ensures.open clean) (c.move_rows.ensures.alone clean)
