use Rattle.std.proofs.Common.{◌≡◌, Result, Err, ap}
use Rattle.imap_keeper.specs.declared.error.KeepError.{KeepError}
use Rattle.imap_keeper.specs.declared.error.KeepError.TheVariants.{Damaged}
use Rattle.imap_world.specs.Stored.{world_of}
use Rattle.imap_world.specs.declared.world.World.{World as Kept}
use Rattle.sqlite.specs.Held.{state}
use Rattle.imap_sql_keeper.proofs.Loaded.{all_read, loaded, none_kept, one_loaded}
use Rattle.imap_sql_keeper.proofs.Saved.{early}
use Rattle.imap_sql_keeper.proofs.loading.load_world.Goals as goal

fault : (e : KeepError) → ◌≡◌ {A = Result Kept KeepError} (Err e) (Err Damaged) → e ≡ Damaged
fault e is = cc is

pub returns-in-Err-clause-damaged : goal.returns-in-Err-clause-damaged
returns-in-Err-clause-damaged g c clean world kept same =
    let old = state g.S.Store c.args.conn.now in
    let new = state g.S.Store c.read_all.new.conn in
    let is : c.in-Err.error ≡ Damaged = fault c.in-Err.error same in
    none_kept old new c.requires.rest c.read_all.ensures.crash (λ late. c.in-Err.ensures.was_open late (ap Err is)) (λ late. c.in-Err.ensures.unread late (ap Err is)) clean world kept

pub returns-in-Ok-restore_split-clause-found : goal.returns-in-Ok-restore_split-clause-found
returns-in-Ok-restore_split-clause-found g c =
    let old = state g.S.Store c.args.conn.now in
    let new = state g.S.Store c.read_all.new.conn in
    loaded old new c.requires.rest c.read_all.ensures.crash c.schema.ensures.live c.in-Ok.all.0 c.in-Ok.all.1 c.in-Ok.ensures.read c.in-Ok.ensures.open (world_of c.in-Ok-restore_split.world) c.in-Ok-restore_split.ensures.ok c.read_all.ensures.kept

pub returns-in-Ok-restore_split-clause-known : goal.returns-in-Ok-restore_split-clause-known
returns-in-Ok-restore_split-clause-known g c clean world kept =
    let old = state g.S.Store c.args.conn.now in
    let new = state g.S.Store c.read_all.new.conn in
    one_loaded old new c.requires.rest c.read_all.ensures.crash c.schema.ensures.live c.in-Ok.all.0 c.in-Ok.all.1 c.in-Ok.ensures.read c.in-Ok.ensures.open (world_of c.in-Ok-restore_split.world) c.in-Ok-restore_split.ensures.ok clean world kept

pub returns-in-Err-restore_split-clause-damaged : goal.returns-in-Err-restore_split-clause-damaged
returns-in-Err-restore_split-clause-damaged g c clean world kept same =
    let old = state g.S.Store c.args.conn.now in
    let new = state g.S.Store c.read_all.new.conn in
    c.in-Err-restore_split.ensures.bad (ap Err (c.fault.ensures (fault c.fault.result same))) old.now.trees world
    (all_read old new c.requires.rest c.read_all.ensures.crash c.schema.ensures.live c.in-Ok.all.0 c.in-Ok.all.1 c.in-Ok.ensures.read c.in-Ok.ensures.open clean)
    (kept (early old new _ c.requires.rest c.read_all.ensures.crash clean) (c.in-Ok.ensures.open clean))
