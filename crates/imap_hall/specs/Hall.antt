-- What contracts see of a hall.
use Rattle.std.specs.Prelude.{◌≡◌, ◌⊎◌, ℕ, ◌+◌, ◌≤◌, List, [], ◌∷◌, ◌++◌, length, map, refl}
use Rattle.std.specs.Coded.{Coded, coded×, coded_ℕ, coded_list, code_by}
use Rattle.imap_saving.specs.Step.{Step}
use Rattle.imap_saving.specs.Machine.{Machine}
use Rattle.imap_print.specs.declared.response.Response.{Response}
use Rattle.imap_saving.specs.Performing.{HasRisen}
use Rattle.imap_world.specs.World.{World}
use Rattle.imap_hall.specs.declared.error.HallError.{HallError}
use Rattle.imap_hall.specs.declared.error.HallError.TheVariants.{Exhausted}
use Rattle.imap_hall.specs.declared.journal.Entry.{Entry}
use Rattle.imap_hall.specs.declared.journal.OldBase.{OldBase}
use Rattle.imap_hall.specs.declared.journal.Receipt.{Receipt}
use Rattle.imap_hall.specs.Counts.{Counts, AreZero, IsCounted, count_of}
use Rattle.imap_hall.specs.Journal.{JournalEntry, Point, IsMade, IsRefused, IsRun, IsSamePoint}
use Rattle.imap_hall.specs.Journal.{entry_code, max_entries, point, point_code}

-- where the machine is, where its journal begins, how many entries were made before that, the entries from there
-- on, and the keeper
pub record HallState (K : Type 0) : Type 0 where
  pub now : Point
  pub base : Point
  pub before : ℕ
  pub entries : List JournalEntry
  pub keeper : K

abbrev pub hall_code : {K : Type 0} → Coded Step → Coded Response → Coded K → Coded (HallState K)
hall_code {K} step_code response_code keeper_code =
    code_by (Point × (Point × (ℕ × (List JournalEntry × K))))
    (coded× point_code (coded× point_code
    (coded× coded_ℕ (coded× (coded_list (entry_code step_code response_code)) keeper_code))))
    (λ h. (h.now, (h.base, (h.before, (h.entries, h.keeper)))))
    (λ p. record { now = p.0; base = p.1.0; before = p.1.1.0; entries = p.1.1.1.0; keeper = p.1.1.1.1 })
    (λ _. refl)

-- ---- of the code's fields

-- the entry as contracts see it
abbrev pub journal_entry : Entry → JournalEntry
journal_entry e = record { step = e.step; own = e.own; replies = e.replies }

abbrev pub hall_state :
    {K : Type 0} → Machine → Counts → Machine → Counts → ℕ → List Entry → K → HallState K
hall_state core counts base base_counts before journal keeper = record {
  now = record { state = core.state; counts = counts };
  base = record { state = base.state; counts = base_counts };
  before = before;
  entries = map journal_entry journal;
  keeper = keeper;
}

module _ {K : Type 0} where
  -- What the type keeps: the entries run from the base to where the machine is, the keeper has the mailboxes of
  -- the machine, and there are not too many entries.
  pub record IsKept (Content : K → World → Type 0) (h : HallState K) : Type 0 where
    pub run : IsRun h.base h.entries h.now
    pub stored : Content h.keeper h.now.state.world
    pub bound : (user : List ℕ) (number : ℕ) → count_of h.now.counts user number ≤ h.before + length h.entries
    pub room : h.before + length h.entries ≤ max_entries

-- ---- what calls leave

-- the step was made; or the store refused its change, which its count of failures shows
abbrev pub IsStepped : (old : Point) → (failed : ℕ) → JournalEntry → (new : Point) → (fails : ℕ) → Type 0
IsStepped old failed e new fails = IsMade old e new ⊎ (IsRefused old e new × HasRisen failed fails)

-- the entry of a receipt
abbrev pub entry_of : Step → Receipt → JournalEntry
entry_of step r = record { step = step; own = r.own; replies = r.replies }

module _ {K : Type 0} where
  -- There is one entry more, of which this is the receipt.
  pub record HasStepped (failed : K → ℕ) (old : HallState K) (step : Step) (r : Receipt) (new : HallState K)
      : Type 0 where
    pub entries : new.entries ≡ old.entries ++ entry_of step r ∷ []
    pub place : r.place ≡ new.before + length new.entries
    pub base : new.base ≡ old.base
    pub before : new.before ≡ old.before
    pub own : r.own ≡ count_of old.now.counts step.who.user step.who.number + 1
    pub counts : IsCounted step.who old.now.counts new.now.counts
    pub made : IsStepped old.now (failed old.keeper) (entry_of step r) new.now (failed new.keeper)

  -- nothing changed
  pub record IsUntouched (failed : K → ℕ) (old new : HallState K) : Type 0 where
    pub now : IsSamePoint old.now new.now
    pub base : new.base ≡ old.base
    pub before : new.before ≡ old.before
    pub entries : new.entries ≡ old.entries
    pub failures : failed new.keeper ≡ failed old.keeper

  -- it refused a step for this reason, and is at its end if it says so
  pub record HasRefused (failed : K → ℕ) (old : HallState K) (error : HallError) (new : HallState K)
      : Type 0 where
    pub untouched : IsUntouched failed old new
    pub ended : error ≡ Exhausted → old.before + length old.entries ≡ max_entries

  -- the journal begins where the machine is
  pub record IsTurnedOver (old new : HallState K) : Type 0 where
    pub now : new.now ≡ old.now
    pub base : new.base ≡ old.now
    pub before : new.before ≡ old.before + length old.entries
    pub entries : new.entries ≡ []
    pub keeper : new.keeper ≡ old.keeper

  -- the base that the hall had
  abbrev pub IsBaseOf : HallState K → OldBase → Type 0
  IsBaseOf h old = point old.base.state old.counts.map ≡ h.base

  -- nothing was done yet
  pub record IsFresh (h : HallState K) : Type 0 where
    pub base : IsSamePoint h.base h.now
    pub counts : AreZero h.now.counts
    pub before : h.before ≡ 0
    pub entries : h.entries ≡ []
