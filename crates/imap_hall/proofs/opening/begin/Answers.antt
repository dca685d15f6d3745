use Rattle.std.proofs.Common.{◌∙◌, Err, inl, sym, ap, subst}
use Rattle.imap_saving.specs.Opening.{state_at_start}
use Rattle.imap_keeper.specs.Keeping.{count_after}
use Rattle.imap_world.specs.Stored.{world_of}
use Rattle.imap_hall.proofs.Opened.{left_alone, left_started}
use Rattle.imap_hall.proofs.Refusing.{damage_is_kept, refusal_is_counted}
use Rattle.imap_hall.proofs.opening.begin.Goals as goal

-- ---- nothing was loaded

pub returns-in-Err-clause-kept : goal.returns-in-Err-clause-kept
returns-in-Err-clause-kept g c = c.load.ensures.unchanged

pub returns-in-Err-clause-store : goal.returns-in-Err-clause-store
returns-in-Err-clause-store g c = λ is.
    refusal_is_counted c.in-Err.error (g.K.Keeper.failed c.args.keeper.now) (g.K.Keeper.failed c.load.new.self)
    c.in-Err.ensures.failures (sym c.open_error.ensures ∙ is)

pub returns-in-Err-clause-damaged : goal.returns-in-Err-clause-damaged
returns-in-Err-clause-damaged g c = λ honest world had is.
    c.load.ensures.damaged honest world had (c.in-Err.is ∙ ap Err (damage_is_kept c.in-Err.error (sym c.open_error.ensures ∙ is)))

pub returns-in-Err-clause-crash : goal.returns-in-Err-clause-crash
returns-in-Err-clause-crash g c = λ world had honest image left. inl (c.load.ensures.crash honest image left)

-- ---- no machine was started

pub returns-in_err-start-clause-crash : goal.returns-in_err-start-clause-crash
returns-in_err-start-clause-crash g c = λ world had honest image left. inl (c.load.ensures.crash honest image left)

-- ---- it was saved

pub returns-in-Ok-save_change-clause-state : goal.returns-in-Ok-save_change-clause-state
returns-in-Ok-save_change-clause-state g c = (world_of c.in-Ok.world, c.in_ok-start.ensures.state)

pub returns-in-Ok-save_change-clause-known : goal.returns-in-Ok-save_change-clause-known
returns-in-Ok-save_change-clause-known g c = λ honest world had.
    c.in_ok-start.ensures.state
    ∙ ap (λ w. state_at_start w c.args.administrator c.args.users.now c.args.groups c.args.limits) (c.in-Ok.ensures.known (c.save_change.ensures.honest honest) world had)

pub returns-in-Ok-save_change-clause-stored : goal.returns-in-Ok-save_change-clause-stored
returns-in-Ok-save_change-clause-stored g c =
    subst (g.K.Keeper.content c.save_change.new.keeper) (sym c.in_ok-start.ensures.change)
    (c.in-Ok-save_change.ensures.ok (world_of c.in-Ok.world) c.in-Ok.ensures.found c.in_ok-start.ensures.current)

pub returns-in-Ok-save_change-clause-crash : goal.returns-in-Ok-save_change-clause-crash
returns-in-Ok-save_change-clause-crash g c = λ world had honest.
    let still = c.save_change.ensures.honest honest in
    left_started g.K.Keeper.stands (g.K.Keeper.leaves c.args.keeper.now) (g.K.Keeper.leaves c.load.new.self) (c.load.ensures.crash still)
    (λ w. state_at_start w c.args.administrator c.args.users.now c.args.groups c.args.limits)
    (g.K.Keeper.leaves c.save_change.new.keeper) c.in_ok-start.change (world_of c.in-Ok.world) world c.in_ok-start.start.core.state
    (c.save_change.ensures.crash honest (world_of c.in-Ok.world) c.in-Ok.ensures.found c.in_ok-start.ensures.current)
    c.in_ok-start.ensures.change c.in_ok-start.ensures.state (c.in-Ok.ensures.known still world had)

pub returns-in-Ok-save_change-clause-alone : goal.returns-in-Ok-save_change-clause-alone
returns-in-Ok-save_change-clause-alone g c = λ world had honest apart.
    left_alone g.K.Keeper.stands (g.K.Keeper.leaves c.save_change.new.keeper) c.in_ok-start.change world (world_of c.in-Ok.world) c.in_ok-start.start.core.state.world
    (c.in-Ok.ensures.known (c.save_change.ensures.honest honest) world had) c.in_ok-start.ensures.change apart
    (c.in-Ok-save_change.ensures.alone honest (world_of c.in-Ok.world) c.in-Ok.ensures.found c.in_ok-start.ensures.current)

-- ---- it was not saved

pub returns-in-Err-save_change-clause-kept : goal.returns-in-Err-save_change-clause-kept
returns-in-Err-save_change-clause-kept g c = λ world had. c.in-Err-save_change.ensures.err world (c.load.ensures.unchanged world had)

pub returns-in-Err-save_change-clause-store : goal.returns-in-Err-save_change-clause-store
returns-in-Err-save_change-clause-store g c = λ is.
    refusal_is_counted c.in-Err-save_change.error (g.K.Keeper.failed c.args.keeper.now) (g.K.Keeper.failed c.save_change.new.keeper)
    (c.in-Err-save_change.ensures.failures ∙ ap (λ n. count_after c.in-Err-save_change.error n) c.in-Ok.ensures.failures) (sym c.open_error-in-Err-save_change.ensures ∙ is)

pub returns-in-Err-save_change-clause-damaged : goal.returns-in-Err-save_change-clause-damaged
returns-in-Err-save_change-clause-damaged g c = λ honest world had is.
    c.save_change.ensures.undamaged (c.in-Err-save_change.is ∙ ap Err (damage_is_kept c.in-Err-save_change.error (sym c.open_error-in-Err-save_change.ensures ∙ is)))

pub returns-in-Err-save_change-clause-crash : goal.returns-in-Err-save_change-clause-crash
returns-in-Err-save_change-clause-crash g c = λ world had honest.
    let still = c.save_change.ensures.honest honest in
    left_started g.K.Keeper.stands (g.K.Keeper.leaves c.args.keeper.now) (g.K.Keeper.leaves c.load.new.self) (c.load.ensures.crash still)
    (λ w. state_at_start w c.args.administrator c.args.users.now c.args.groups c.args.limits)
    (g.K.Keeper.leaves c.save_change.new.keeper) c.in_ok-start.change (world_of c.in-Ok.world) world c.in_ok-start.start.core.state
    (c.save_change.ensures.crash honest (world_of c.in-Ok.world) c.in-Ok.ensures.found c.in_ok-start.ensures.current)
    c.in_ok-start.ensures.change c.in_ok-start.ensures.state (c.in-Ok.ensures.known still world had)
