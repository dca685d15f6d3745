-- A run, one step further.
use Rattle.std.proofs.Common.{◌≡◌, ℕ, ◌+◌, ◌<◌, ◌≤◌, List, [], ◌∷◌, ◌++◌, append_assoc, length, get_or, take, drop, drop-cons, add-one, suc, refl, sym, ap, ◌∙◌}
use Rattle.std.proofs.lemmas.List.{append-nil, drop_all, take_more}
use Rattle.std.specs.List.{AllByRecursion}
use Rattle.imap_print.specs.declared.response.Response.{Response}
use Rattle.imap_core.specs.declared.step.Step.{Step}
use Rattle.imap_core.specs.Machine.{State, answer, answers, next, after_steps}

-- what holds of each element holds after one more is pushed
pub all-push : {X : Type 0} (P : X → Type 0) (xs : List X) (x : X) → AllByRecursion P xs → P x → AllByRecursion P (xs ++ x ∷ [])
all-push P [] x each last = (last, tt)
all-push P (y ∷ ys) x each last = (each.0, all-push P ys x each.1 last)

pub this_step : (steps : List Step) (i : ℕ) (step : Step) → i < length steps → step ≡ get_or steps i step → drop i steps ≡ step ∷ drop (i + 1) steps
this_step steps i step lt is = rw add-one (drop-cons steps i step lt ∙ ap (λ x. x ∷ drop (suc i) steps) (sym is))

module _ (s s' : State) (step : Step) (made : s' ≡ next s step) (whole rest : List Step) (cut : whole ≡ step ∷ rest) where
  pub told_on : (said total : List (List Response)) (replies : List Response) → replies ≡ answer s step → said ++ answers s whole ≡ total → (said ++ replies ∷ []) ++ answers s' rest ≡ total
  told_on said total replies is so_far =
      append_assoc said (replies ∷ []) (answers s' rest)
      ∙ ap (λ tail. said ++ tail) ((λ i. is i ∷ answers (made i) rest) ∙ sym (ap (answers s) cut)) ∙ so_far

  pub rest_on : (total : State) → after_steps s whole ≡ total → after_steps s' rest ≡ total
  rest_on total so_far = ap (λ state. after_steps state rest) made ∙ sym (ap (after_steps s) cut) ∙ so_far

after_steps-push : (s : State) (steps : List Step) (step : Step) → after_steps s (steps ++ step ∷ []) ≡ next (after_steps s steps) step
after_steps-push s [] step = refl
after_steps-push s (first ∷ steps) step = after_steps-push (next s first) steps step

pub made_on : (s0 s s' : State) (steps : List Step) (i : ℕ) (step : Step) → s' ≡ next s step → i < length steps → step ≡ get_or steps i step → s ≡ after_steps s0 (take i steps) → s' ≡ after_steps s0 (take (i + 1) steps)
made_on s0 s s' steps i step made lt is so_far =
    made ∙ ap (λ state. next state step) so_far ∙ sym (after_steps-push s0 (take i steps) step)
    ∙ ap (after_steps s0) (sym (take_more steps i step lt ∙ ap (λ x. take i steps ++ x ∷ []) (sym is)))

-- after the last step all is told
pub told_all : (s s0 : State) (steps : List Step) (i : ℕ) (said : List (List Response)) → length steps ≤ i → said ++ answers s (drop i steps) ≡ answers s0 steps → said ≡ answers s0 steps
told_all s s0 steps i said le told = sym (append-nil said) ∙ ap (λ rest. said ++ answers s rest) (sym (drop_all i steps le)) ∙ told
