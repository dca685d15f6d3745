-- What follows from the count of failures.
use Rattle.std.specs.Prelude.{◌≡◌, ◌⊎◌, ◌<◌, ℕ, Result, Err}
use Rattle.imap_keeper.specs.declared.error.KeepError.{KeepError}
use Rattle.imap_keeper.specs.declared.error.KeepError.TheVariants.{Refused}
use Rattle.imap_keeper.specs.Keeping.{failures_after, max_failures}

abbrev pub RefusalsAreCounted : Type 0
RefusalsAreCounted = (result : Result (Unit {0}) KeepError) (before after : ℕ)
    → after ≡ failures_after result before → result ≡ Err Refused
    → (before < after) ⊎ (after ≡ max_failures)

abbrev pub NeverRefuses : Type 0
NeverRefuses = (result : Result (Unit {0}) KeepError) → 0 ≡ failures_after result 0 → result ≡ Err Refused → ⊥
