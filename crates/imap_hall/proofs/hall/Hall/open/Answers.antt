use Rattle.std.proofs.Common.{◌⊎◌, sym, ap, subst}
use Rattle.imap_saving.specs.Machine.{State}
use Rattle.imap_world.specs.World.{World}
use Rattle.imap_hall.proofs.Kept.{fresh, fresh_kept}
use Rattle.imap_hall.proofs.hall.Hall.open.Goals as goal

pub invariant_of-result : goal.invariant_of-result
invariant_of-result g c =
    fresh_kept g.K.Keeper.content c.in-Ok.field-0.core c.in-Ok.field-0.base c.new.result.map c.new-in-Ok.result.map c.new-in-Ok-2.result.items c.begin.new.keeper
    c.in-Ok.ensures.base c.new.ensures c.new-in-Ok.ensures c.new-in-Ok-2.ensures.items c.in-Ok.ensures.stored

pub returns-in-Ok-clause-fresh : goal.returns-in-Ok-clause-fresh
returns-in-Ok-clause-fresh g c =
    fresh g.K.Keeper.content c.in-Ok.field-0.core c.in-Ok.field-0.base c.new.result.map c.new-in-Ok.result.map c.new-in-Ok-2.result.items c.begin.new.keeper
    c.in-Ok.ensures.base c.new.ensures c.new-in-Ok.ensures c.new-in-Ok-2.ensures.items

pub returns-in-Ok-clause-crash : goal.returns-in-Ok-clause-crash
returns-in-Ok-clause-crash g c world holds honest image left =
    subst (λ (w : World). g.K.Keeper.leaves c.args.keeper image ⊎ g.K.Keeper.stands image w)
    (ap (λ (s : State). s.world) (sym (c.in-Ok.ensures.known honest world holds)))
    (c.in-Ok.ensures.crash world holds honest image left)

pub returns-in-Ok-clause-known : goal.returns-in-Ok-clause-known
returns-in-Ok-clause-known g c = λ world holds honest. c.in-Ok.ensures.known honest world holds

pub returns-in-Ok-clause-alone : goal.returns-in-Ok-clause-alone
returns-in-Ok-clause-alone g c = c.in-Ok.ensures.alone

pub returns-in-Err-clause-kept : goal.returns-in-Err-clause-kept
returns-in-Err-clause-kept g c = c.in-Err.ensures.kept

pub returns-in-Err-clause-store : goal.returns-in-Err-clause-store
returns-in-Err-clause-store g c = c.in-Err.ensures.store

pub returns-in-Err-clause-damaged : goal.returns-in-Err-clause-damaged
returns-in-Err-clause-damaged g c = λ world holds honest. c.in-Err.ensures.damaged honest world holds

pub returns-in-Err-clause-refused : goal.returns-in-Err-clause-refused
returns-in-Err-clause-refused g c = c.in-Err.ensures.crash
