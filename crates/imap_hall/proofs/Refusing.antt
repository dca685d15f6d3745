-- What an error of the store says of an opening.
use Rattle.std.proofs.Common.{◌≡◌, ◌⊎◌, inl, inr, ℕ, ◌<◌, ◌≤◌, refl, arith}
use Rattle.std.proofs.lemmas.Bool.{cases_lt}
use Rattle.imap_keeper.specs.Keeping.{count_after, max_failures}
use Rattle.imap_keeper.specs.declared.error.KeepError.{KeepError}
use Rattle.imap_keeper.specs.declared.error.KeepError.TheVariants as keep
use Rattle.imap_saving.specs.Performing.{HasRisen}
use Rattle.imap_hall.specs.Opening.{open_error}
use Rattle.imap_hall.specs.declared.error.OpenError.TheVariants as error

-- it refused a change, and counts that
pub refusal_is_counted : (e : KeepError) (old new : ℕ) → new ≡ count_after e old → open_error e ≡ error.Store → HasRisen old new
refusal_is_counted keep.Refused old new is h = by (cases_lt old max_failures)
  where
    by : (old < max_failures) ⊎ (max_failures ≤ old) → HasRisen old new
    by (inl less) = inl (omega (arith, is, less))
    by (inr most) = inr (omega (arith, is, most))
refusal_is_counted keep.Memory old new is h = absurd (cc h)
refusal_is_counted keep.Damaged old new is h = absurd (cc h)

-- it is damaged
pub damage_is_kept : (e : KeepError) → open_error e ≡ error.Damaged → e ≡ keep.Damaged
damage_is_kept keep.Refused h = absurd (cc h)
damage_is_kept keep.Memory h = absurd (cc h)
damage_is_kept keep.Damaged h = refl
