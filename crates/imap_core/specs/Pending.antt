-- What a step is answered, before it is known what its session is told of its mailbox.
use Rattle.std.specs.Prelude.{◌≡◌, ℕ, Bool, true, false, not, is_some, List, Option, Some, None}
use Rattle.imap_session.specs.Lost.{is_lost}
use Rattle.imap_session.specs.State.{SessionState}
use Rattle.imap_view.specs.View.{View}
use Rattle.imap_world.specs.declared.change.Write.{Write}
use Rattle.imap_world.specs.declared.effect.Effect.{Effect}
use Rattle.imap_world.specs.declared.site.Site.{Site}
use Rattle.imap_world.specs.World.{World}
use Rattle.imap_core.specs.declared.pending.Pending.{Pending}
use Rattle.imap_core.specs.declared.pending.Pending.TheVariants as pending
use Rattle.imap_sessions.specs.declared.sessions.SessionEffect.{SessionEffect}
use Rattle.imap_sessions.specs.declared.sessions.SessionEffect.TheVariants as session
use Rattle.imap_sessions.specs.Planned.{IsFoundForEffect}
use Rattle.imap_core.specs.Outcome.{Outcome, answered, silence}
use Rattle.imap_core.specs.Reply.{idle_outcome, with_notices}

-- with the notices of its session, if the session is open
abbrev pub completed : View → Option SessionState → Pending → Outcome
completed view own (pending.Whole outcome) = outcome
completed view None (pending.Command answer expunges) = answered answer session.Keep
completed view (Some own) (pending.Command answer expunges) = with_notices view own expunges answer
completed view None (pending.Idle step) = silence
completed view (Some own) (pending.Idle step) = idle_outcome view own step

-- what it asks of the mailboxes
abbrev pub effect_in : Pending → Option Effect
effect_in (pending.Whole outcome) = outcome.effect
effect_in (pending.Command answer expunges) = answer.effect
effect_in (pending.Idle step) = None

-- the session is told nothing
abbrev pub tells_nothing : SessionEffect → Bool
tells_nothing (session.Note more told) = false
tells_nothing (session.Idle tag told) = not (is_some told)
tells_nothing _ = true

-- A command is answered, and an IDLE goes on, in a session that has not lost its mailbox. All else tells nothing.
abbrev pub IsCompletable : View → Option SessionState → Pending → Type 0
IsCompletable view own (pending.Whole outcome) = tells_nothing outcome.session ≡ true
IsCompletable view None (pending.Command answer expunges) = Unit {0}
IsCompletable view (Some own) (pending.Command answer expunges) = is_lost view own ≡ false
IsCompletable view None (pending.Idle step) = Unit {0}
IsCompletable view (Some own) (pending.Idle step) = is_lost view own ≡ false

-- with the change that was found for it
abbrev pub AreFound : Site → (user : List ℕ) → World → (change : List Write) → Option SessionState → Pending →
    Type 0
AreFound site user world change own (pending.Whole outcome) = tells_nothing outcome.session ≡ true
AreFound site user world change None (pending.Command answer expunges) = Unit {0}
AreFound site user world change (Some own) (pending.Command answer expunges) =
    IsFoundForEffect site user world change own answer.effect
AreFound site user world change None (pending.Idle step) = Unit {0}
AreFound site user world change (Some own) (pending.Idle step) =
    IsFoundForEffect site user world change own None
