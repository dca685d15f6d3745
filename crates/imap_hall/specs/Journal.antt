-- The journal: a run of the machine from a base.
use Rattle.std.specs.Prelude.{◌≡◌, ◌⊎◌, ℕ, ◌+◌, ◌^◌, List, [], ◌∷◌, refl}
use Rattle.std.specs.Coded.{Coded, coded×, coded_ℕ, coded_list, code_by}
use Rattle.imap_saving.specs.Step.{Step}
use Rattle.imap_saving.specs.Machine.{State, answer, next, state_code}
use Rattle.imap_print.specs.declared.response.Response.{Response}
use Rattle.imap_saving.specs.Refusals.{unavailable}
use Rattle.imap_hall.specs.Counts.{Counts, AreSameCounts, IsCounted, count_of, counts_code}

-- the most entries that are ever made
abbrev pub max_entries : ℕ
max_entries = 2 ^ 63

-- a step, its number among those of its session, and what it was answered
pub record JournalEntry : Type 0 where
  pub step : Step
  pub own : ℕ
  pub replies : List Response

-- a state of the machine, and how many entries there were of each session
pub record Point : Type 0 where
  pub state : State
  pub counts : Counts

abbrev pub point : State → Counts → Point
point state counts = record { state = state; counts = counts }

-- ---- a run

-- the step was made
pub record IsMade (p : Point) (e : JournalEntry) (q : Point) : Type 0 where
  pub replies : e.replies ≡ answer p.state e.step
  pub state : q.state ≡ next p.state e.step

-- the store refused its change, and nothing changed
pub record IsRefused (p : Point) (e : JournalEntry) (q : Point) : Type 0 where
  pub replies : e.replies ≡ unavailable e.step
  pub state : q.state ≡ p.state

-- an entry leads from one point to another
pub record Follows (p : Point) (e : JournalEntry) (q : Point) : Type 0 where
  pub own : e.own ≡ count_of p.counts e.step.who.user e.step.who.number + 1
  pub counts : IsCounted e.step.who p.counts q.counts
  pub made : IsMade p e q ⊎ IsRefused p e q

pub record IsSamePoint (p q : Point) : Type 0 where
  pub state : q.state ≡ p.state
  pub counts : AreSameCounts p.counts q.counts

-- one entry after another leads from the first point to the last
abbrev pub IsRun : Point → List JournalEntry → Point → Type 0
IsRun p [] q = IsSamePoint p q
IsRun p (e ∷ es) q = (between : Point) × Follows p e between × IsRun between es q

-- ---- codes

abbrev pub point_code : Coded Point
point_code =
    code_by (State × Counts) (coded× state_code counts_code)
    (λ p. (p.state, p.counts)) (λ p. record { state = p.0; counts = p.1 }) (λ _. refl)

abbrev pub entry_code : Coded Step → Coded Response → Coded JournalEntry
entry_code step_code response_code =
    code_by (Step × (ℕ × List Response)) (coded× step_code (coded× coded_ℕ (coded_list response_code)))
    (λ e. (e.step, (e.own, e.replies)))
    (λ p. record { step = p.0; own = p.1.0; replies = p.1.1 })
    (λ _. refl)
