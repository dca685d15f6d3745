-- What holds of one step.
use Rattle.std.proofs.Common.{◌≡◌, ℕ, Bool, true, false, cond, ◌&&◌, ◌⊎◌, inl, inr, eqb, List, Option, Some, None, refl, ap, subst, ◌∙◌, arith}
use Rattle.std.specs.Prelude.{option_and_then}
use Rattle.std.specs.Ordering.{nat_cmp, eq_by_cmp}
use Rattle.std.specs.Str.{bytes_eq}
use Rattle.std.proofs.lemmas.Bool.Decides.{nat_tests}
use Rattle.std.proofs.lemmas.Slice.Eq.{bytes_eq-Decides}
use Rattle.std.specs.FinMap as map
use Rattle.std.specs.FinMap.{get-insert, get-remove}
use Rattle.std.specs.Cmp.{nat_cmp_total}
use Rattle.std.specs.Cmp.Lexicographic.{nat_list_eq_equiv}
use Rattle.imap_view.proofs.Asked.{own_effects_made}
use Rattle.imap_view.specs.View.{view_of}
use Rattle.imap_world.specs.declared.site.Site.{Site}
use Rattle.imap_world.specs.declared.effect.Effect.{Effect}
use Rattle.imap_world.specs.Effects.{after_all}
use Rattle.imap_world.specs.Kept.{AreKept}
use Rattle.imap_world.specs.World.{World}
use Rattle.imap_answer.specs.Answer.{nothing_enabled}
use Rattle.imap_session.specs.State.{SessionState, new_session}
use Rattle.imap_session.specs.Telling.{Telling}
use Rattle.imap_sessions.specs.Accounts.{Accounts, accounts_after, session_at}
use Rattle.imap_sessions.specs.declared.session_id.SessionId.{SessionId}
use Rattle.imap_sessions.specs.Notices.{noting}
use Rattle.imap_sessions.specs.declared.sessions.SessionEffect.{SessionEffect}
use Rattle.imap_sessions.specs.declared.sessions.SessionEffect.TheVariants as session
use Rattle.imap_core.specs.Laws.{EffectsAreMade, IsIdleBroken, IsMadeIfAsked, IsOnlyTold, NeverUnavailable, OtherSessionsStay, OtherUsersStay, RefusalsChangeNothing, selects, session_in, unselected}
use Rattle.imap_answer.proofs.Alike.{viewed}
use Rattle.imap_answer.specs.Alike.{effects_of}
use Rattle.imap_answer.specs.Fit.{MayBeAsked}
use Rattle.imap_core.specs.Machine.{answer, next, outcome, own_in, view_in}
use Rattle.imap_sessions.specs.Sessions.{Own, edited, edited_if_open}
use Rattle.imap_core.proofs.Fitting.{BreaksIdle, IsRefused, IsTied, OnlyNotes, outcome_fits}
use Rattle.imap_sessions.proofs.Numbered.{at_number}
use Rattle.imap_core.proofs.Steps.{accounts_after_here, accounts_after_there, own_after_change, own_in-other}

-- ---- other sessions

abbrev of_number : ℕ → Option Own → Option SessionState
of_number number own = option_and_then (λ sessions. map.get sessions number) own

other_way : (m n : ℕ) → eqb m n ≡ eqb n m
other_way m n = grind (arith, nat_tests)

apart_from : (changed number : ℕ) → eqb changed number ≡ false → eq_by_cmp nat_cmp number changed ≡ false
apart_from changed number apart = at_number number changed ∙ other_way number changed ∙ apart

put_elsewhere : (own : Own) (changed number : ℕ) (fresh : SessionState) → eqb changed number ≡ false → map.get (map.insert own changed fresh) number ≡ map.get own number
put_elsewhere own changed number fresh apart =
    get-insert nat_cmp_total own changed fresh number ∙ ap (λ b. cond b (Some fresh) (map.get own number)) (apart_from changed number apart)

edited_elsewhere : (own : Own) (changed number : ℕ) (change : SessionEffect) (state : Option SessionState) → eqb changed number ≡ false → map.get (edited_if_open changed change own state) number ≡ map.get own number
edited_elsewhere own changed number change None apart = refl
edited_elsewhere own changed number change (Some state) apart = put_elsewhere own changed number (edited change state) apart

other_number : (own : Option Own) (changed number : ℕ) (change : SessionEffect) → eqb changed number ≡ false → of_number number (own_after_change own changed change) ≡ of_number number own
other_number None changed number change apart = refl
other_number (Some own) changed number session.Keep apart = refl
other_number (Some own) changed number session.Open apart = put_elsewhere own changed number new_session apart
other_number (Some own) changed number (session.Note more told) apart = edited_elsewhere own changed number (session.Note more told) (map.get own changed) apart
other_number (Some own) changed number (session.Select more selection) apart = edited_elsewhere own changed number (session.Select more selection) (map.get own changed) apart
other_number (Some own) changed number (session.Idle tag told) apart = edited_elsewhere own changed number (session.Idle tag told) (map.get own changed) apart
other_number (Some own) changed number session.End apart =
    get-remove nat_cmp_total own changed number ∙ ap (λ b. cond b None (map.get own number)) (apart_from changed number apart)

-- a change of one session leaves the others as they are
pub sessions_apart : (accounts : Accounts) (who : SessionId) (change : SessionEffect) (user : List ℕ) (number : ℕ) → (bytes_eq who.user user && eqb who.number number) ≡ false
    → session_at (accounts_after accounts who change) user number ≡ session_at accounts user number
sessions_apart accounts who change user number apart = by (bytes_eq who.user user) refl
  where
    Stays : List ℕ → Type 0
    Stays user = of_number number (map.get (accounts_after accounts who change) user) ≡ of_number number (map.get accounts user)

    of_same : (b : Bool) → b ≡ true → (b && eqb who.number number) ≡ false → eqb who.number number ≡ false
    of_same true e h = h
    of_same false e h = absurd (cc e)

    same_user : eqb who.number number ≡ false → Stays who.user
    same_user other = ap (of_number number) (accounts_after_here accounts who change (map.get accounts who.user) refl)
        ∙ other_number (map.get accounts who.user) who.number number change other

    by : (b : Bool) → bytes_eq who.user user ≡ b → Stays user
    by true e = subst Stays ((bytes_eq-Decides who.user user).0 e) (same_user (of_same (bytes_eq who.user user) e apart))
    by false e = ap (of_number number) (accounts_after_there accounts who user change (nat_list_eq_equiv.symm user who.user ∙ e))

pub others_stay : OtherSessionsStay
others_stay state step user number apart = sessions_apart state.accounts step.who (outcome state step).session user number apart

pub other_users_stay : OtherUsersStay
other_users_stay state step user apart = own_in-other state step user apart

-- ---- effects

made_if_asked : (site : Site) (user : List ℕ) (world : World) (asked : Option Effect) → AreKept world.mailboxes → MayBeAsked (view_of site user world) asked → IsMadeIfAsked asked world
made_if_asked site user world None kept may = tt
made_if_asked site user world (Some effect) kept may = own_effects_made site user world effect kept may

pub effects_made : EffectsAreMade
effects_made state step kept =
    made_if_asked state.site step.who.user state.world (outcome state step).effect kept
    ((outcome_fits (view_in state step.who.user) (own_in state step.who.user) step).asks (viewed state.site step.who.user state.world kept))

-- ---- refusals

pub refusals_change : RefusalsChangeNothing
refusals_change state step refused = by fits.session
  where
    fits : IsRefused (view_in state step.who.user) (own_in state step.who.user) step.who.number step.act (outcome state step)
    fits = (outcome_fits (view_in state step.who.user) (own_in state step.who.user) step).refused refused

    made : (change : SessionEffect) → (outcome state step).session ≡ change → next state step ≡ record { site = state.site; world = state.world; accounts = accounts_after state.accounts step.who change }
    made change is = λ i. record {
      site = state.site;
      world = after_all (effects_of (fits.effect i)) state.world;
      accounts = accounts_after state.accounts step.who (is i);
    }

    Left : Type 0
    Left = (next state step ≡ state)
        ⊎ (IsOnlyTold state step ⊎ (((selects step.act ≡ true) × (next state step ≡ unselected state step.who)) ⊎ IsIdleBroken state step))

    by_told : (told : Option Telling) → (outcome state step).session ≡ noting nothing_enabled told → (active : Option SessionState) → session_in state step.who.user step.who.number ≡ active
        → IsTied (view_in state step.who.user) (answer state step) told active → Left
    by_told None is active at tied = inl (made session.Keep is)
    by_told (Some told) is None at tied = absurd tied
    by_told (Some told) is (Some own) at tied = inr (inl (record { own = own; active = at; told = told; lines = tied; is = made (session.Note nothing_enabled (Some told)) is }))

    by : OnlyNotes (view_in state step.who.user) (session_in state step.who.user step.who.number) (outcome state step)
        ⊎ (((selects step.act ≡ true) × ((outcome state step).session ≡ session.Select nothing_enabled None)) ⊎ BreaksIdle (own_in state step.who.user) step.who.number step.act (outcome state step).session)
        → Left
    by (inl notes) = by_told notes.told notes.is (session_in state step.who.user step.who.number) refl notes.lines
    by (inr (inl closed)) = inr (inr (inl (closed.0, made (session.Select nothing_enabled None) closed.1)))
    by (inr (inr broken)) = inr (inr (inr (record { idles = broken.idles; line = broken.line; is = made (session.Idle None None) broken.is })))

pub available : NeverUnavailable
available state step = (outcome_fits (view_in state step.who.user) (own_in state step.who.user) step).available
