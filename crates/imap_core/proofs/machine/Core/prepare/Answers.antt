use Rattle.std.proofs.Common.{◌≡◌, Ok, sym, ap, subst, ◌∙◌}
use Rattle.std.specs.FinMap as map
use Rattle.imap_answer.specs.Alike.{effects_of}
use Rattle.imap_world.specs.declared.change.Write.{Write}
use Rattle.imap_world.specs.Effects.{after_writes, writes_of}
use Rattle.imap_world.specs.Ready as world
use Rattle.imap_world.specs.Stored.{Stored}
use Rattle.std.specs.Prelude.{List}
use Rattle.imap_sessions.specs.Accounts.{accounts_after, held_in, session_at}
use Rattle.imap_core.specs.declared.machine.Prepared.{Prepared}
use Rattle.imap_sessions.specs.Held.{HasKnownRoom}
use Rattle.imap_core.specs.InStep.{IsMachineKept}
use Rattle.imap_core.specs.Machine.{State, outcome, own_in, view_in}
use Rattle.imap_core.specs.Outcome.{Outcome}
use Rattle.imap_core.specs.Planned.{IsFoundBy, IsReady, change_of, state_after}
use Rattle.imap_sessions.specs.Planned.{MayOpen, MayTell}
use Rattle.imap_core.proofs.Fitting.{outcome_fits}
use Rattle.imap_core.proofs.Preparing.{effect_is, found_so, next_is, prepared_so, tried_so}
use Rattle.imap_core.proofs.machine.Core.prepare.Goals as goal

-- what is found for the step
outcome_found : (c : goal.In_ok-prepared) → c.in_ok-outcome.outcome ≡ outcome c.args.self.now.state c.args.step.now
outcome_found c =
    found_so (λ (o : Outcome). o ≡ outcome c.resolve-found.new.self.state c.args.step.now) c.complete-found.result c.in_ok-outcome.outcome c.in_ok-outcome.ensures.made c.complete-found.ensures.outcome
    ∙ ap (λ s. outcome s c.args.step.now) c.resolve-found.ensures.unchanged

session_found : (c : goal.In_ok-prepared) → c.into_parts-replies.result.1 ≡ (outcome c.args.self.now.state c.args.step.now).session
session_found c = c.into_parts-replies.ensures.session ∙ ap (λ (o : Outcome). o.session) (outcome_found c)

-- what is written for what is asked
change_found : (c : goal.In_ok-prepared) → writes_of (effects_of (outcome c.args.self.now.state c.args.step.now).effect) c.args.self.now.state.world ≡ Ok c.in_ok-outcome.change
change_found c =
    let state = c.args.self.now.state in
    let step = c.args.step.now in
    let effect = c.effects.ensures.effects ∙ ap effects_of (effect_is state step (session_at state.accounts step.who.user step.who.number) c.in_ok-pending.pending c.in_ok-pending.ensures.outcome) in
    ap (λ asked. writes_of asked state.world) (sym effect)
    ∙ found_so (λ (change : List Write). writes_of c.effects.result.now state.world ≡ Ok change) c.resolve-found.result c.in_ok-change.change c.in_ok-change.ensures.made c.resolve-found.ensures.change
    ∙ ap Ok (sym c.in_ok-outcome.ensures.rest)

pub returns-clause-change : goal.returns-clause-change
returns-clause-change c = change_found c ∙ ap (λ (p : Prepared). Ok (change_of p)) (sym c.in_ok-prepared.ensures.rest)

pub returns-clause-next : goal.returns-clause-next
returns-clause-next c =
    ap (λ (p : Prepared). state_after p c.args.self.now.state) c.in_ok-prepared.ensures.rest
    ∙ next_is c.args.self.now.state c.args.step.now c.in_ok-who.who c.in_ok-outcome.change c.into_parts-replies.result.1 c.in_ok-who.ensures (session_found c) (change_found c)

pub returns-clause-ready : goal.returns-clause-ready
returns-clause-ready c =
    let state = c.args.self.now.state in
    let step = c.args.step.now in
    let change = c.in_ok-outcome.change in
    let now = c.make_room-room.new.self.state in
    let so = prepared_so state step c.in_ok-who.who change c.into_parts-replies.result.1 c.in_ok-who.ensures (session_found c) now (c.make_room-room.ensures.unchanged ∙ c.resolve-found.ensures.unchanged) in
    let told = found_so (λ (o : Outcome). MayTell (session_at c.resolve-found.new.self.state.accounts step.who.user step.who.number) o.session) c.complete-found.result c.in_ok-outcome.outcome c.in_ok-outcome.ensures.made c.complete-found.ensures.told in
    let ready = found_so (λ (change : List Write). world.IsReady change c.resolve-found.new.self.stored) c.resolve-found.result c.in_ok-change.change c.in_ok-change.ensures.made c.resolve-found.ensures.ready in
    let made : Prepared = record { who = c.in_ok-who.who; replies = c.into_parts-replies.result.0; session = c.into_parts-replies.result.1; change = change } in
    let found : IsFoundBy step made state = record {
      who = c.in_ok-who.ensures;
      replies = c.into_parts-replies.ensures.replies ∙ ap (λ (o : Outcome). o.replies) (outcome_found c);
      session = session_found c;
      change = change_found c;
    } in
    subst (λ (p : Prepared). IsReady p c.make_room-room.new.self) (sym c.in_ok-prepared.ensures.rest) (record {
      current = (step, subst (λ s. IsFoundBy step made s) (sym (c.make_room-room.ensures.unchanged ∙ c.resolve-found.ensures.unchanged)) found);
      sessions = so (λ s w e. MayOpen (map.get s.accounts w.user) w.number e) ((outcome_fits (view_in state step.who.user) (own_in state step.who.user) step).room);
      told = so (λ s w e. MayTell (session_at s.accounts w.user w.number) e)
          (subst (λ (o : Outcome). MayTell (session_at state.accounts step.who.user step.who.number) o.session) (outcome_found c)
          (subst (λ (s : State). MayTell (session_at s.accounts step.who.user step.who.number) c.in_ok-outcome.outcome.session) c.resolve-found.ensures.unchanged told));
      known = subst (λ n. HasKnownRoom n (held_in c.make_room-room.new.self.held c.in_ok-who.who)) c.room_needed.ensures
          (tried_so (HasKnownRoom c.room_needed.result (held_in c.make_room-room.new.self.held c.in_ok-who.who)) c.make_room-room.result c.in_ok-prepared.field-0-0 c.in_ok-prepared.ensures.made c.make_room-room.ensures.ok);
      world = subst (λ (stored : Stored). world.IsReady change stored) (sym c.make_room-room.ensures.stored)
          (subst (λ (change : List Write). world.IsReady change c.resolve-found.new.self.stored) (sym c.in_ok-outcome.ensures.rest) ready);
      step = so (λ s w e. IsMachineKept (after_writes change s.world) (accounts_after s.accounts w e))
          (subst (λ (s : State). IsMachineKept (after_writes change s.world) (accounts_after s.accounts step.who (outcome s step).session)) c.resolve-found.ensures.unchanged
          (subst (λ (change : List Write). IsMachineKept (after_writes change c.resolve-found.new.self.state.world) (accounts_after c.resolve-found.new.self.state.accounts step.who (outcome c.resolve-found.new.self.state step).session)) (sym c.in_ok-outcome.ensures.rest) c.complete-found.ensures.kept));
    })
