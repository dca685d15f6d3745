use Rattle.std.proofs.Common.{◌≡◌, Result, Err, ap}
use Rattle.imap_keeper.specs.declared.error.KeepError.{KeepError}
use Rattle.imap_keeper.specs.declared.error.KeepError.TheVariants.{Damaged}
use Rattle.imap_restore.proofs.First.{first_shown}
use Rattle.sqlite.specs.Held.{state}
use Rattle.imap_sql_keeper.proofs.FirstTaken.{alone_taken, crash_taken, saved_taken}
use Rattle.imap_sql_keeper.proofs.Saved.{early}
use Rattle.imap_sql_keeper.proofs.taking.move_rows.Goals as goal

fault : (e : KeepError) → ◌≡◌ {A = Result (Unit {0}) KeepError} (Err e) (Err Damaged) → e ≡ Damaged
fault e is = cc is

pub returns-in-Err-clause-undamaged : goal.returns-in-Err-clause-undamaged
returns-in-Err-clause-undamaged g c clean same =
    let old = state g.S.Store c.args.conn.now in
    let new = state g.S.Store c.read_first.new.conn in
    let is : c.in-Err.error ≡ Damaged = fault c.in-Err.error same in
    let (says, world, held) = c.requires.first (early old new _ c.requires.rest c.read_first.ensures.crash clean) (c.in-Err.ensures.was_open clean (ap Err is)) in
    c.in-Err.ensures.unread clean (ap Err is) (first_shown old.now.trees world held)

pub returns-in-Ok-moved-clause-taken : goal.returns-in-Ok-moved-clause-taken
returns-in-Ok-moved-clause-taken g c clean =
    saved_taken (state g.S.Store c.args.conn.now) (state g.S.Store c.read_first.new.conn) c.requires.rest c.read_first.ensures.crash c.schema.ensures.live c.in-Ok.stored c.in-Ok.ensures.read c.in-Ok.ensures.open
    c.requires.first c.as_slice.result.now c.as_slice.ensures.value c.read_first.ensures.kept (state g.S.Store c.adopt_rows-moved.new.conn) c.adopt_rows-moved.ensures.crash clean (c.in-Ok-moved.ensures.after clean)

pub returns-in-Ok-moved-clause-crash : goal.returns-in-Ok-moved-clause-crash
returns-in-Ok-moved-clause-crash g c =
    crash_taken (state g.S.Store c.args.conn.now) (state g.S.Store c.read_first.new.conn) c.requires.rest c.read_first.ensures.crash c.schema.ensures.live c.in-Ok.stored c.in-Ok.ensures.read c.in-Ok.ensures.open
    c.requires.first c.as_slice.result.now c.as_slice.ensures.value c.read_first.ensures.kept (state g.S.Store c.adopt_rows-moved.new.conn) c.adopt_rows-moved.ensures.crash

pub returns-in-Ok-moved-clause-alone : goal.returns-in-Ok-moved-clause-alone
returns-in-Ok-moved-clause-alone g c clean =
    alone_taken (state g.S.Store c.args.conn.now) (state g.S.Store c.read_first.new.conn) c.requires.rest c.read_first.ensures.crash c.schema.ensures.live c.in-Ok.stored c.in-Ok.ensures.read c.in-Ok.ensures.open
    c.requires.first c.as_slice.result.now c.as_slice.ensures.value c.read_first.ensures.kept (state g.S.Store c.adopt_rows-moved.new.conn) c.adopt_rows-moved.ensures.crash clean (c.in-Ok-moved.ensures.after clean)
    (c.in-Ok-moved.ensures.alone clean)

pub returns-in-Err-moved-clause-crash : goal.returns-in-Err-moved-clause-crash
returns-in-Err-moved-clause-crash g c =
    crash_taken (state g.S.Store c.args.conn.now) (state g.S.Store c.read_first.new.conn) c.requires.rest c.read_first.ensures.crash c.schema.ensures.live c.in-Ok.stored c.in-Ok.ensures.read c.in-Ok.ensures.open
    c.requires.first c.as_slice.result.now c.as_slice.ensures.value c.read_first.ensures.kept (state g.S.Store c.adopt_rows-moved.new.conn) c.adopt_rows-moved.ensures.crash
