-- What one step leaves of the mailboxes and of each user's sessions.
use Rattle.std.proofs.Common.{◌≡◌, ℕ, true, false, cond, List, [], ◌∷◌, Option, Some, None, refl, ap, ◌∙◌}
use Rattle.std.specs.Str.{bytes_eq}
use Rattle.std.specs.Cmp.Lexicographic.{nat_list_cmp_total, nat_list_eq_equiv}
use Rattle.std.proofs.lemmas.Map.Text.{is_eq-slice_cmp}
use Rattle.std.proofs.lemmas.Slice.Eq.{bytes_eq-Decides}
use Rattle.std.specs.FinMap as map
use Rattle.std.specs.FinMap.{get-insert}
use Rattle.imap_answer.proofs.Alike.{after_asking, viewed}
use Rattle.imap_answer.specs.Alike.{effects_of, view_after_asking}
use Rattle.imap_view.specs.View.{View}
use Rattle.imap_world.specs.Kept.{AreKept}
use Rattle.imap_world.proofs.Histories.{all_stay_kept}
use Rattle.imap_sessions.specs.declared.sessions.SessionEffect.{SessionEffect}
use Rattle.imap_sessions.specs.declared.sessions.SessionEffect.TheVariants as session
use Rattle.imap_sessions.specs.declared.session_id.SessionId.{SessionId}
use Rattle.imap_core.specs.declared.step.Step.{Step}
use Rattle.imap_sessions.specs.Accounts.{Accounts, accounts_after, accounts_with, with_own}
use Rattle.imap_core.specs.Machine.{State, outcome_for, outcome, next, view_in, own_in}
use Rattle.imap_sessions.specs.Sessions.{Own, own_with}
use Rattle.imap_sessions.proofs.InStep.{one_is_apart}
use Rattle.imap_core.proofs.Fitting.{outcome_fits}

-- ---- the view

-- the acting user's view after a step is a function of the view before, the user's sessions and the step
abbrev pub view_next : View → Option Own → Step → View
view_next view own step = view_after_asking (outcome_for view own step).effect view

pub view_in-next : (state : State) (step : Step) → AreKept state.world.mailboxes → view_in (next state step) step.who.user ≡ view_next (view_in state step.who.user) (own_in state step.who.user) step
view_in-next state step kept =
    after_asking state.site step.who.user state.world (outcome state step).effect kept
    ((outcome_fits (view_in state step.who.user) (own_in state step.who.user) step).asks (viewed state.site step.who.user state.world kept))

-- what the type of a mailbox keeps holds after it, too
pub kept_next : (state : State) (step : Step) → AreKept state.world.mailboxes → AreKept (next state step).world.mailboxes
kept_next state step kept =
    let asked = (outcome state step).effect in
    all_stay_kept state.world (effects_of asked ∷ []) (one_is_apart asked, tt) kept

-- ---- sessions

-- what a user's sessions are after a step of one of them
abbrev pub own_after_change : Option Own → ℕ → SessionEffect → Option Own
own_after_change None number effect = None
own_after_change (Some own) number effect = Some (own_with number effect own)

-- the sessions of the users after those of one of them were put
put_own : (accounts : Accounts) (user other : List ℕ) (own : Own) → map.get (map.insert accounts user own) other ≡ cond (bytes_eq other user) (Some own) (map.get accounts other)
put_own accounts user other own = get-insert nat_list_cmp_total accounts user own other ∙ ap (λ b. cond b (Some own) (map.get accounts other)) (is_eq-slice_cmp other user)

itself : (user : List ℕ) → bytes_eq user user ≡ true
itself user = (bytes_eq-Decides user user).1 refl

with_own_here : (accounts : Accounts) (user : List ℕ) (f : Own → Own) (own : Own) → map.get (with_own accounts user f (Some own)) user ≡ Some (f own)
with_own_here accounts user f own = put_own accounts user user (f own) ∙ ap (λ b. cond b (Some (f own)) (map.get accounts user)) (itself user)

with_own_there : (accounts : Accounts) (user other : List ℕ) (f : Own → Own) (own : Option Own) → bytes_eq other user ≡ false → map.get (with_own accounts user f own) other ≡ map.get accounts other
with_own_there accounts user other f None apart = refl
with_own_there accounts user other f (Some own) apart = put_own accounts user other (f own) ∙ ap (λ b. cond b (Some (f own)) (map.get accounts other)) apart

accounts_with_here : (accounts : Accounts) (who : SessionId) (effect : SessionEffect) (own : Option Own) → map.get accounts who.user ≡ own → map.get (accounts_with accounts who effect) who.user ≡ own_after_change own who.number effect
accounts_with_here accounts who effect None is = ap (λ o. map.get (with_own accounts who.user (own_with who.number effect) o) who.user) is ∙ is
accounts_with_here accounts who effect (Some own) is =
    ap (λ o. map.get (with_own accounts who.user (own_with who.number effect) o) who.user) is ∙ with_own_here accounts who.user (own_with who.number effect) own

kept_here : (accounts : Accounts) (who : SessionId) (own : Option Own) → map.get accounts who.user ≡ own → map.get accounts who.user ≡ own_after_change own who.number session.Keep
kept_here accounts who None is = is
kept_here accounts who (Some own) is = is

pub accounts_after_here : (accounts : Accounts) (who : SessionId) (effect : SessionEffect) (own : Option Own) → map.get accounts who.user ≡ own → map.get (accounts_after accounts who effect) who.user ≡ own_after_change own who.number effect
accounts_after_here accounts who session.Keep own is = kept_here accounts who own is
accounts_after_here accounts who session.Open own is = accounts_with_here accounts who session.Open own is
accounts_after_here accounts who (session.Note more told) own is = accounts_with_here accounts who (session.Note more told) own is
accounts_after_here accounts who (session.Select more selection) own is = accounts_with_here accounts who (session.Select more selection) own is
accounts_after_here accounts who (session.Idle tag told) own is = accounts_with_here accounts who (session.Idle tag told) own is
accounts_after_here accounts who session.End own is = accounts_with_here accounts who session.End own is

accounts_with_there : (accounts : Accounts) (who : SessionId) (other : List ℕ) (effect : SessionEffect) → bytes_eq other who.user ≡ false → map.get (accounts_with accounts who effect) other ≡ map.get accounts other
accounts_with_there accounts who other effect apart = with_own_there accounts who.user other (own_with who.number effect) (map.get accounts who.user) apart

pub accounts_after_there : (accounts : Accounts) (who : SessionId) (other : List ℕ) (effect : SessionEffect) → bytes_eq other who.user ≡ false → map.get (accounts_after accounts who effect) other ≡ map.get accounts other
accounts_after_there accounts who other session.Keep apart = refl
accounts_after_there accounts who other session.Open apart = accounts_with_there accounts who other session.Open apart
accounts_after_there accounts who other (session.Note more told) apart = accounts_with_there accounts who other (session.Note more told) apart
accounts_after_there accounts who other (session.Select more selection) apart = accounts_with_there accounts who other (session.Select more selection) apart
accounts_after_there accounts who other (session.Idle tag told) apart = accounts_with_there accounts who other (session.Idle tag told) apart
accounts_after_there accounts who other session.End apart = accounts_with_there accounts who other session.End apart

-- the acting user's sessions after a step are a function of those before, the view and the step
abbrev pub own_after : View → Option Own → Step → Option Own
own_after view own step = own_after_change own step.who.number (outcome_for view own step).session

pub own_in-next : (state : State) (step : Step) → own_in (next state step) step.who.user ≡ own_after (view_in state step.who.user) (own_in state step.who.user) step
own_in-next state step = accounts_after_here state.accounts step.who (outcome state step).session (own_in state step.who.user) refl

-- and another's are as they were
pub own_in-other : (state : State) (step : Step) (user : List ℕ) → bytes_eq step.who.user user ≡ false → own_in (next state step) user ≡ own_in state user
own_in-other state step user apart = accounts_after_there state.accounts step.who user (outcome state step).session (nat_list_eq_equiv.symm user step.who.user ∙ apart)
