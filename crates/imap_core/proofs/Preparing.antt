-- What the machine prepares: what comes of a step, by the change that was found for it.
use Rattle.std.proofs.Common.{◌≡◌, ℕ, true, List, Option, Some, None, refl, sym, ap, subst, ◌∙◌}
use Rattle.std.specs.Prelude.{option_and_then, Result, Ok, IfOk, OnOk}
use Rattle.std.specs.Ordering.{nat_cmp}
use Rattle.std.specs.FinMap as map
use Rattle.std.specs.FinMap.{get-empty}
use Rattle.imap_answer.proofs.Alike.{viewed}
use Rattle.imap_answer.specs.Alike.{effects_of}
use Rattle.imap_answer.specs.Fit.{MayBeAsked}
use Rattle.imap_session.specs.State.{SessionState}
use Rattle.imap_view.specs.View.{View}
use Rattle.imap_world.specs.declared.change.Write.{Write}
use Rattle.imap_world.specs.Effects.{after_result, after_writes, writes_of}
use Rattle.imap_world.specs.Kept.{AreKept, IsSound}
use Rattle.imap_world.specs.World.{World}
use Rattle.imap_sessions.specs.declared.session_id.SessionId.{SessionId}
use Rattle.imap_sessions.specs.declared.sessions.SessionEffect.{SessionEffect}
use Rattle.imap_sessions.specs.declared.sessions.SessionEffect.TheVariants as session
use Rattle.imap_core.specs.declared.idling.Idling.{Idling}
use Rattle.imap_core.specs.declared.idling.Idling.TheVariants as idling
use Rattle.imap_core.specs.declared.pending.Pending.{Pending}
use Rattle.imap_core.specs.declared.pending.Pending.TheVariants as pending
use Rattle.imap_core.specs.declared.step.Step.{Step}
use Rattle.imap_sessions.specs.Accounts.{Accounts, accounts_after, session_at}
use Rattle.imap_core.specs.InStep.{IsMachineKept}
use Rattle.imap_sessions.specs.InStep.{IsInStep}
use Rattle.imap_core.specs.Machine.{State, next, outcome, outcome_for, own_in, view_in}
use Rattle.imap_core.specs.Outcome.{Outcome}
use Rattle.imap_core.specs.Pending.{AreFound, IsCompletable, completed, effect_in, tells_nothing}
use Rattle.imap_sessions.specs.Planned.{MayTell}
use Rattle.imap_core.specs.Reply.{idle_outcome, reply}
use Rattle.imap_sessions.specs.Sessions.{Own}
use Rattle.imap_core.proofs.Fitting.{outcome_fits}
use Rattle.imap_core.proofs.InStep.{all_stay_in_step}

-- ---- what was tried

-- what holds of what is found holds of what was found
pub found_so : {A E : Type 0} (P : A → Type 0) (found : Result A E) (x : A) → found ≡ Ok x → IfOk found P → P x
found_so P found x is h = subst (λ r. IfOk r P) is h

pub tried_so : {A E : Type 0} (P : Type 0) (tried : Result A E) (x : A) → tried ≡ Ok x → OnOk tried P → P
tried_so P tried x is h = subst (λ r. OnOk r P) is h

-- ---- the step

-- a user who is known
module _ (state : State) (step : Step) (own : Own) (known : map.get state.accounts step.who.user ≡ Some own) where
  pub session_known : session_at state.accounts step.who.user step.who.number ≡ map.get own step.who.number
  session_known = ap (option_and_then (λ (own : Own). map.get own step.who.number)) known

  pub outcome_known : outcome state step ≡ reply (view_in state step.who.user) own step
  outcome_known = ap (λ own. outcome_for (view_in state step.who.user) own step) known

module _ (state : State) (step : Step) where
  abbrev view : View
  view = view_in state step.who.user

  pub effect_is : (own : Option SessionState) (p : Pending) → completed view own p ≡ outcome state step → effect_in p ≡ (outcome state step).effect
  effect_is own (pending.Whole o) done = ap (λ (o : Outcome). o.effect) done
  effect_is None (pending.Command answer expunges) done = ap (λ (o : Outcome). o.effect) done
  effect_is (Some active) (pending.Command answer expunges) done = ap (λ (o : Outcome). o.effect) done
  effect_is None (pending.Idle what) done = ap (λ (o : Outcome). o.effect) done
  effect_is (Some active) (pending.Idle what) done = idle_effect what done
    where
      idle_effect : (what : Idling) → idle_outcome view active what ≡ outcome state step → None ≡ (outcome state step).effect
      idle_effect (idling.Begins tag) done = ap (λ (o : Outcome). o.effect) done
      idle_effect idling.Polls done = ap (λ (o : Outcome). o.effect) done
      idle_effect (idling.Ends tag) done = ap (λ (o : Outcome). o.effect) done

  module _ (kept : IsMachineKept state.world state.accounts) where
    -- its user may ask for it, and the session is in step
    pub are_found : (change : List Write) (own : Option SessionState) (p : Pending) → session_at state.accounts step.who.user step.who.number ≡ own → completed view own p ≡ outcome state step → IsCompletable view own p
        → writes_of (effects_of (effect_in p)) state.world ≡ Ok change → AreFound state.site step.who.user state.world change own p
    are_found change own (pending.Whole o) is done silent writes = silent
    are_found change None (pending.Command answer expunges) is done unlost writes = tt
    are_found change (Some active) (pending.Command answer expunges) is done unlost writes = record {
      found = record {
        kept = kept.messages;
        asked = record {
          effect = answer.effect;
          may = subst (MayBeAsked view) (sym (effect_is (Some active) (pending.Command answer expunges) done))
              ((outcome_fits view (own_in state step.who.user) step).asks (viewed state.site step.who.user state.world kept.messages));
          writes = writes;
        };
        unlost = unlost;
        step = kept.sessions.at step.who.user step.who.number active is;
      };
      asked = refl;
    }
    are_found change None (pending.Idle what) is done unlost writes = tt
    are_found change (Some active) (pending.Idle what) is done unlost writes = record {
      found = record {
        kept = kept.messages;
        asked = record { effect = None; may = tt; writes = writes };
        unlost = unlost;
        step = kept.sessions.at step.who.user step.who.number active is;
      };
      asked = refl;
    }

    -- the step leaves the machine as its type keeps it
    pub stays_kept : (change : List Write) → writes_of (effects_of (outcome state step).effect) state.world ≡ Ok change
        → IsMachineKept (after_writes change state.world) (accounts_after state.accounts step.who (outcome state step).session)
    stays_kept change writes =
        subst (λ w. IsMachineKept w (accounts_after state.accounts step.who (outcome state step).session))
        (ap (λ r. after_result r state.world) writes) (all_stay_in_step state step kept)

-- a session that is told nothing may be told so
pub silent_may : (own : Option SessionState) (change : SessionEffect) → tells_nothing change ≡ true → MayTell own change
silent_may None change silent = tt
silent_may (Some own) session.Keep silent = tt
silent_may (Some own) session.Open silent = tt
silent_may (Some own) (session.Note more told) silent = absurd (cc silent)
silent_may (Some own) (session.Select more selection) silent = tt
silent_may (Some own) (session.Idle tag None) silent = tt
silent_may (Some own) (session.Idle tag (Some told)) silent = absurd (cc silent)
silent_may (Some own) session.End silent = tt

-- a machine without sessions
pub starts_kept : (world : World) (accounts : Accounts) → IsSound world → AreKept world.mailboxes → ((user : List ℕ) (own : Own) → map.get accounts user ≡ Some own → own ≡ map.empty)
    → IsMachineKept world accounts
starts_kept world accounts sound kept closed = record {
  sound = sound;
  messages = kept;
  sessions = record { at = λ user number state is. none user number (map.get accounts user) refl state is };
}
  where
    none : (user : List ℕ) (number : ℕ) (own : Option Own) → map.get accounts user ≡ own → (state : SessionState) → option_and_then (λ (own : Own). map.get own number) own ≡ Some state → IsInStep world user state.selected
    none user number None there state is = absurd (cc is)
    none user number (Some own) there state is =
        let empty : map.get own number ≡ None = ap (λ (own : Own). map.get own number) (closed user own there) ∙ get-empty nat_cmp number in
        absurd (cc (sym empty ∙ is))

-- ---- what is prepared

module _ (state : State) (step : Step) (who : SessionId) (change : List Write) (after : SessionEffect) (who_is : who ≡ step.who) (session_is : after ≡ (outcome state step).session) where
  pub next_is : writes_of (effects_of (outcome state step).effect) state.world ≡ Ok change
      → (record { site = state.site; world = after_writes change state.world; accounts = accounts_after state.accounts who after }) ≡ next state step
  next_is writes =
      λ i. record {
        site = state.site;
        world = after_result (sym writes i) state.world;
        accounts = accounts_after state.accounts (who_is i) (session_is i);
      }

  -- what holds of the step and its session holds of what is prepared, in a machine of the same state
  pub prepared_so : (now : State) → now ≡ state → (Holds : State → SessionId → SessionEffect → Type 0) → Holds state step.who (outcome state step).session → Holds now who after
  prepared_so now same Holds h =
      subst (λ s. Holds s who after) (sym same) (subst (λ w. Holds state w after) (sym who_is) (subst (λ e. Holds state step.who e) (sym session_is) h))
