-- Isolation by what the user sees at the user's own steps.
use Rattle.std.specs.Prelude.{◌≡◌, ℕ, Bool, true, false, List, [], ◌∷◌, ◌++◌, Option, Some, None}
use Rattle.std.specs.Prelude.{bytes_eq, if◌then◌else◌}
use Rattle.imap_view.specs.View.{View}
use Rattle.imap_world.specs.Kept.{AreKept}
use Rattle.imap_core.specs.declared.step.Step.{Step}
use Rattle.imap_core.specs.Machine.{State, after_steps, answer, next, view_in}
use Rattle.imap_core.specs.Trace.{Alike, is_quiet, replies_to, same_view, trace}

-- the view, unless it is the last one
abbrev pub since : (last view : View) → Option View
since last view = if same_view last view then None else Some view

-- The user's own steps, each with the view that the user has at the step, unless it is the view that the
-- user's last own step left. A poll to which nothing is answered is left away.
abbrev pub own_moments : List ℕ → (last : View) → State → List Step → List (Option View × Step)
own_moments user last state [] = []
own_moments user last state (step ∷ steps) =
    if bytes_eq step.who.user user
    then (if is_quiet step.act (answer state step)
    then own_moments user last (next state step) steps
    else (since last (view_in state user), step)
    ∷ own_moments user (view_in (next state step) user) (next state step) steps)
    else own_moments user last (next state step) steps

-- those of a whole run
abbrev pub moments : List ℕ → State → List Step → List (Option View × Step)
moments user state steps = own_moments user (view_in state user) state steps

-- To each user, two runs that begin alike send the same replies if the user takes the same steps, and sees
-- the same at each: how often it changed in between, and by what steps of others, makes no difference.
abbrev pub IsolationAtOwnSteps : Type 0
IsolationAtOwnSteps =
    (user : List ℕ) (s t : State) (steps others : List Step)
    → Alike user s t → moments user s steps ≡ moments user t others
    → replies_to user s steps ≡ replies_to user t others

-- ---- others' steps

-- none of the steps is the user's
abbrev pub are_others : List ℕ → List Step → Bool
are_others user [] = true
are_others user (step ∷ steps) = if bytes_eq step.who.user user then false else are_others user steps

-- What others changed and changed back between two steps of the user tells nothing: what follows is answered
-- as if none of it had been.
abbrev pub GivenBackTellsNothing : Type 0
GivenBackTellsNothing =
    (user : List ℕ) (state : State) (between later others : List Step)
    → AreKept state.world.mailboxes → are_others user between ≡ true
    → view_in (after_steps state between) user ≡ view_in state user
    → trace user (after_steps state between) later ≡ trace user state others
    → replies_to user state (between ++ later) ≡ replies_to user state others

-- A step of another that changes nothing of what the user may see is in no trace, and leaves the state
-- alike.
abbrev pub UnseenStepsAreSilent : Type 0
UnseenStepsAreSilent =
    (user : List ℕ) (state : State) (step : Step) (steps : List Step)
    → AreKept state.world.mailboxes → bytes_eq step.who.user user ≡ false
    → view_in (next state step) user ≡ view_in state user
    → (trace user state (step ∷ steps) ≡ trace user (next state step) steps)
    × Alike user state (next state step)
