use Rattle.std.proofs.Common.{◌≡◌, inl, ap, sym, subst, ◌∙◌}
use Rattle.imap_core.specs.Machine.{State, next}
use Rattle.imap_keeper.specs.Keeping.{LeavesOnly, LeavesOr}
use Rattle.imap_world.specs.Effects.{after_writes}
use Rattle.imap_world.specs.World.{World}
use Rattle.imap_saving.proofs.performing.perform.Goals as goal

pub returns-in-Ok-clause-crash : goal.returns-in-Ok-clause-crash
returns-in-Ok-clause-crash g c honest =
    let old = c.args.core.now.state in
    let after : after_writes c.change.result.now old.world ≡ (next old c.args.step.now).world =
    ap (λ ws. after_writes ws old.world) c.change.ensures ∙ ap (λ (s : State). s.world) c.requires.next in
    subst (λ (w : World). LeavesOr (g.K.Keeper.leaves c.args.keeper.now) (g.K.Keeper.leaves c.save_step.new.keeper) (λ image. g.K.Keeper.stands image w)) after
    (c.save_step.ensures.crash honest)

pub returns-in-Ok-clause-alone : goal.returns-in-Ok-clause-alone
returns-in-Ok-clause-alone g c honest some =
    let old = c.args.core.now.state in
    let after : after_writes c.change.result.now old.world ≡ c.commit.new.self.state.world =
    ap (λ ws. after_writes ws old.world) c.change.ensures ∙ ap (λ (s : State). s.world) (sym c.commit.ensures.state) in
    inl (subst (λ (w : World). LeavesOnly (g.K.Keeper.leaves c.save_step.new.keeper) (λ image. g.K.Keeper.stands image w)) after
    (c.in-Ok.ensures.alone honest (λ none. some (sym c.change.ensures ∙ none))))

pub returns-in-Err-Refused-clause-crash : goal.returns-in-Err-Refused-clause-crash
returns-in-Err-Refused-clause-crash g c honest =
    let old = c.args.core.now.state in
    let after : after_writes c.change.result.now old.world ≡ (next old c.args.step.now).world =
    ap (λ ws. after_writes ws old.world) c.change.ensures ∙ ap (λ (s : State). s.world) c.requires.next in
    subst (λ (w : World). LeavesOr (g.K.Keeper.leaves c.args.keeper.now) (g.K.Keeper.leaves c.save_step.new.keeper) (λ image. g.K.Keeper.stands image w)) after
    (c.save_step.ensures.crash honest)
