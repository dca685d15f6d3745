use Rattle.std.proofs.Common.{refl, sym, ap, subst, ◌∙◌}
use Rattle.imap_answer.specs.Alike.{effects_of}
use Rattle.imap_world.specs.Effects.{writes_of}
use Rattle.imap_world.specs.Stored.{world_of}
use Rattle.imap_core.specs.InStep.{IsMachineKept}
use Rattle.imap_sessions.specs.Accounts.{session_at}
use Rattle.imap_core.specs.Machine.{Machine}
use Rattle.imap_core.specs.Pending.{AreFound}
use Rattle.imap_core.proofs.Preparing.{are_found, effect_is, stays_kept}
use Rattle.imap_core.proofs.machine.Core.complete.Goals as goal

pub with_notices-requires : goal.with_notices-requires
with_notices-requires c =
    let step = c.args.step.now in
    let change = c.args.change.now in
    let state = c.args.self.now.state in
    let kept = subst (λ (m : Machine). IsMachineKept m.state.world m.state.accounts) c.self.view_is c.self.invariant in
    subst (λ own. AreFound c.self.inside.site step.who.user (world_of c.self.inside.world) change own c.args.pending) (sym c.open_session-session.ensures)
    (subst (λ (m : Machine). AreFound m.state.site step.who.user m.state.world change (session_at m.state.accounts step.who.user step.who.number) c.args.pending) (sym c.self.view_is)
    (are_found state step kept change (session_at state.accounts step.who.user step.who.number) c.args.pending refl c.requires.outcome c.requires.completable c.requires.change))

pub returns-clause-kept : goal.returns-clause-kept
returns-clause-kept c =
    let step = c.args.step.now in
    let state = c.args.self.now.state in
    let kept = subst (λ (m : Machine). IsMachineKept m.state.world m.state.accounts) c.self.view_is c.self.invariant in
    stays_kept state step kept c.args.change.now
    (ap (λ e. writes_of (effects_of e) state.world) (sym (effect_is state step (session_at state.accounts step.who.user step.who.number) c.args.pending c.requires.outcome)) ∙ c.requires.change)
