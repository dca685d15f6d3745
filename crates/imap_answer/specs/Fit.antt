-- What holds of each answer to a command: its user may ask for the effect, a refusal asks for nothing and tells of
-- no message, and none is UNAVAILABLE (RFC 5530), which is for a host to say, when it can't save a change.
use Rattle.std.specs.Prelude.{◌≡◌, Bool, true, false, [], Option, Some, None}
use Rattle.std.specs.List.{list_any}
use Rattle.imap_print.specs.declared.response.Refusal.TheVariants.{Unavailable}
use Rattle.imap_print.specs.declared.response.Response.{Response}
use Rattle.imap_print.specs.declared.response.Response.TheVariants as response
use Rattle.imap_view.specs.After.{MayAsk}
use Rattle.imap_view.specs.View.{View, view_of}
use Rattle.imap_view.specs.Effect.{Effect}
use Rattle.imap_view.specs.Kept.{AreKept}
use Rattle.imap_view.specs.World.{World}
use Rattle.imap_answer.specs.Answer.{Answer, lines_of, nothing_enabled}

abbrev pub is_refusal : Response → Bool
is_refusal (response.Refused tag refusal) = true
is_refusal _ = false

abbrev pub is_unavailable : Response → Bool
is_unavailable (response.Refused tag Unavailable) = true
is_unavailable _ = false

-- the user of the view may ask for it, if it is anything
abbrev pub MayBeAsked : View → Option Effect → Type 0
MayBeAsked view None = Unit {0}
MayBeAsked view (Some effect) = MayAsk view effect

-- it is what a user may see of a world in which the messages of each mailbox are as its type keeps them
pub record IsViewed (view : View) : Type 0 where
  pub world : World
  pub kept : AreKept world.mailboxes
  pub is : view ≡ view_of view.site view.user world

pub record IsFit (view : View) (answer : Answer) : Type 0 where
  pub asks : IsViewed view → MayBeAsked view answer.effect
  pub refused : list_any is_refusal (lines_of answer) ≡ true
      → (answer.effect ≡ None) × (answer.enables ≡ nothing_enabled) × (answer.told ≡ [])
  pub available : list_any is_unavailable (lines_of answer) ≡ false
