use Rattle.std.proofs.Common.{◌≡◌, Result, Err, ap}
use Rattle.std.specs.Global.{Global}
use Rattle.imap_keeper.specs.declared.error.KeepError.{KeepError}
use Rattle.imap_keeper.specs.declared.error.KeepError.TheVariants.{Damaged}
use Rattle.imap_message_tables.specs.Adopting.{first_of}
use Rattle.imap_restore.proofs.First.{first_shown}
use Rattle.imap_world.specs.Stored.{world_of}
use Rattle.sqlite.specs.Held.{state}
use Rattle.imap_sql_keeper.proofs.FirstTaken.{rows_are}
use Rattle.imap_sql_keeper.proofs.taking.check_world.Goals as goal

fault : (e : KeepError) → ◌≡◌ {A = Result Global KeepError} (Err e) (Err Damaged) → e ≡ Damaged
fault e is = cc is

pub returns-in-Err-clause-damaged : goal.returns-in-Err-clause-damaged
returns-in-Err-clause-damaged g c clean same world held =
    c.in-Err.ensures.unread clean (ap Err (fault c.in-Err.error same)) (first_shown (state g.S.Store c.args.conn.now).now.trees world held)

pub returns-in-Ok-restore-clause-holds : goal.returns-in-Ok-restore-clause-holds
returns-in-Ok-restore-clause-holds g c clean =
    let old = state g.S.Store c.args.conn.now in
    let new = state g.S.Store c.read_first.new.conn in (
      world_of c.in-Ok-restore.world,
      c.in-Ok-restore.ensures.ok (first_of old.now.trees) (rows_are old new c.requires.rest c.read_first.ensures.crash c.schema.ensures.live c.in-Ok.stored c.in-Ok.ensures.read c.in-Ok.ensures.open clean),
    )

pub returns-in-Err-restore-clause-damaged : goal.returns-in-Err-restore-clause-damaged
returns-in-Err-restore-clause-damaged g c clean same world held =
    let old = state g.S.Store c.args.conn.now in
    let new = state g.S.Store c.read_first.new.conn in
    c.in-Err-restore.ensures.bad (ap Err (c.fault.ensures (fault c.fault.result same))) (first_of old.now.trees) world
    (rows_are old new c.requires.rest c.read_first.ensures.crash c.schema.ensures.live c.in-Ok.stored c.in-Ok.ensures.read c.in-Ok.ensures.open clean) held
