use Rattle.std.proofs.Common.{List, subst, sym}
use Rattle.sqlite.specs.Held.{state}
use Rattle.sqlite.specs.Tree.{Trees}
use Rattle.imap_records.specs.Standing.{StandFor}
use Rattle.imap_tables.specs.Changes.{MakesAll}
use Rattle.imap_tables.specs.declared.changes.RowChange.{RowChange}
use Rattle.imap_world.specs.Effects.{after_writes}
use Rattle.imap_world.specs.Ready.{IsCurrent}
use Rattle.imap_world.specs.World.{World}
use Rattle.imap_sql_keeper.proofs.Changed.{made_keeps, made_leaves, made_holds}
use Rattle.imap_sql_keeper.proofs.saving.save_change.Goals as goal

pub returns-in-Ok-clause-ok : goal.returns-in-Ok-clause-ok
returns-in-Ok-clause-ok g c world kept current =
    let old = state g.S.Store c.args.conn.now in
    let new = state g.S.Store c.make_rows.new.conn in
    let rows : List RowChange = c.as_slice.result.now in
    let stands : (world : World) (db next : Trees) → IsCurrent c.args.change.now world → StandFor db world → MakesAll rows db next → StandFor next (after_writes c.args.change.now world) =
    subst (λ l. (world : World) (db next : Trees) → IsCurrent c.args.change.now world → StandFor db world → MakesAll l db next → StandFor next (after_writes c.args.change.now world)) (sym c.as_slice.ensures.value) c.in_ok-rows.ensures.stands in
    made_keeps c.args.change.now rows stands c.in_ok-rows.ensures.values old new c.make_rows.ensures.honest world kept current c.in-Ok.ensures.after

pub returns-in-Ok-clause-crash : goal.returns-in-Ok-clause-crash
returns-in-Ok-clause-crash g c clean world kept current =
    let old = state g.S.Store c.args.conn.now in
    let new = state g.S.Store c.make_rows.new.conn in
    let rows : List RowChange = c.as_slice.result.now in
    let stands : (world : World) (db next : Trees) → IsCurrent c.args.change.now world → StandFor db world → MakesAll rows db next → StandFor next (after_writes c.args.change.now world) =
    subst (λ l. (world : World) (db next : Trees) → IsCurrent c.args.change.now world → StandFor db world → MakesAll l db next → StandFor next (after_writes c.args.change.now world)) (sym c.as_slice.ensures.value) c.in_ok-rows.ensures.stands in
    made_leaves c.args.change.now rows stands c.in_ok-rows.ensures.values old new c.make_rows.ensures.honest world kept current clean (c.make_rows.ensures.crash clean)

pub returns-in-Ok-clause-alone : goal.returns-in-Ok-clause-alone
returns-in-Ok-clause-alone g c clean world kept current db leaves =
    let old = state g.S.Store c.args.conn.now in
    let new = state g.S.Store c.make_rows.new.conn in
    let rows : List RowChange = c.as_slice.result.now in
    let stands : (world : World) (db next : Trees) → IsCurrent c.args.change.now world → StandFor db world → MakesAll rows db next → StandFor next (after_writes c.args.change.now world) =
    subst (λ l. (world : World) (db next : Trees) → IsCurrent c.args.change.now world → StandFor db world → MakesAll l db next → StandFor next (after_writes c.args.change.now world)) (sym c.as_slice.ensures.value) c.in_ok-rows.ensures.stands in
    made_holds c.args.change.now rows stands c.in_ok-rows.ensures.values old new c.make_rows.ensures.honest world kept current clean db (c.in-Ok.ensures.alone clean db leaves)

pub returns-clause-crash : goal.returns-clause-crash
returns-clause-crash g c clean world kept current =
    let old = state g.S.Store c.args.conn.now in
    let new = state g.S.Store c.make_rows.new.conn in
    let rows : List RowChange = c.as_slice.result.now in
    let stands : (world : World) (db next : Trees) → IsCurrent c.args.change.now world → StandFor db world → MakesAll rows db next → StandFor next (after_writes c.args.change.now world) =
    subst (λ l. (world : World) (db next : Trees) → IsCurrent c.args.change.now world → StandFor db world → MakesAll l db next → StandFor next (after_writes c.args.change.now world)) (sym c.as_slice.ensures.value) c.in_ok-rows.ensures.stands in
    made_leaves c.args.change.now rows stands c.in_ok-rows.ensures.values old new c.make_rows.ensures.honest world kept current clean (c.make_rows.ensures.crash clean)
