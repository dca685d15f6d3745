-- What a step may ask of its session, and the change that was found for it.
use Rattle.std.specs.Prelude.{◌≡◌, ◌⊎◌, ◌<◌, true, false, ℕ, List, Option, Some, None, IfSome}
use Rattle.std.specs.FinMap as map
use Rattle.imap_session.specs.Lost.{is_lost}
use Rattle.imap_session.specs.State.{IsTellingFor, SessionState}
use Rattle.imap_upcoming.specs.Asked.{IsAskedBy}
use Rattle.imap_view.specs.View.{view_of}
use Rattle.imap_world.specs.declared.change.Write.{Write}
use Rattle.imap_world.specs.declared.effect.Effect.{Effect}
use Rattle.imap_world.specs.declared.site.Site.{Site}
use Rattle.imap_world.specs.Kept.{AreKept}
use Rattle.imap_world.specs.World.{World}
use Rattle.imap_sessions.specs.declared.sessions.SessionEffect.{SessionEffect}
use Rattle.imap_sessions.specs.declared.sessions.SessionEffect.TheVariants as session
use Rattle.imap_sessions.specs.Held.{room_for_any}
use Rattle.imap_sessions.specs.InStep.{IsInStep}
use Rattle.imap_sessions.specs.Sessions.{Own, max_sessions}

-- if a session is opened, fewer are open than may be, or it is one of them
abbrev pub MayOpen : Option Own → ℕ → SessionEffect → Type 0
MayOpen None number change = Unit {0}
MayOpen (Some own) number session.Keep = Unit {0}
MayOpen (Some own) number (session.Note more told) = Unit {0}
MayOpen (Some own) number (session.Select more selection) = Unit {0}
MayOpen (Some own) number (session.Idle tag told) = Unit {0}
MayOpen (Some own) number session.Open =
    (map.len own < max_sessions) ⊎ (map.contains_key own number ≡ true)
MayOpen (Some own) number session.End = Unit {0}

-- what is told changes the known list of the session, if it has one
abbrev pub MayTell : Option SessionState → SessionEffect → Type 0
MayTell None change = Unit {0}
MayTell (Some state) session.Keep = Unit {0}
MayTell (Some state) (session.Note more told) = IfSome told (λ t. IsTellingFor t state.selected)
MayTell (Some state) (session.Select more selection) = Unit {0}
MayTell (Some state) (session.Idle tag told) = IfSome told (λ t. IsTellingFor t state.selected)
MayTell (Some state) session.Open = Unit {0}
MayTell (Some state) session.End = Unit {0}

-- the number of messages that are added to the known list of the session
abbrev pub room_needed : SessionEffect → ℕ
room_needed session.Keep = 0
room_needed session.Open = 0
room_needed (session.Note more told) = room_for_any told
room_needed (session.Select more selection) = 0
room_needed (session.Idle tag told) = room_for_any told
room_needed session.End = 0

-- a change that was found for what a user asked, in a session that has not lost its mailbox and is in step with
-- it
pub record IsFoundFor (site : Site) (user : List ℕ) (world : World) (change : List Write) (own : SessionState)
    : Type 0 where
  pub kept : AreKept world.mailboxes
  pub asked : IsAskedBy site user world change
  pub unlost : is_lost (view_of site user world) own ≡ false
  pub step : IsInStep world user own.selected

-- it was found for this effect, if for any
pub record IsFoundForEffect (site : Site) (user : List ℕ) (world : World) (change : List Write)
    (own : SessionState) (effect : Option Effect) : Type 0 where
  pub found : IsFoundFor site user world change own
  pub asked : found.asked.effect ≡ effect
