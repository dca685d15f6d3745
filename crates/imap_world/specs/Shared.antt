-- A mailbox that copies of the world share.
use Rattle.std.specs.Prelude.{◌≡◌, Bool, true, false, refl}
use Rattle.std.specs.Arc.{arc_value}
use Rattle.std.specs.Coded.{Coded, coded_bool, coded×, code_by}
use Rattle.imap_batch.specs.declared.batch.Batch.{Batch}
use Rattle.imap_batch.specs.Written.{HasRoomFor}
use Rattle.imap_batch.specs.Held.{Held, held_code}
use Rattle.imap_world.specs.declared.shared_mailbox.Place.{Place}
use Rattle.imap_world.specs.declared.shared_mailbox.Place.TheVariants as place

-- the mailbox with its room, and whether it is its world's own
pub record Shared : Type 0 where
  pub value : Held
  pub is_own : Bool

abbrev pub shared_code : Coded Shared
shared_code =
    code_by (Held × Bool) (coded× held_code coded_bool) (λ m. (m.value, m.is_own))
    (λ p. record { value = p.0; is_own = p.1 }) (λ _. refl)

-- its world's own, with room for what is written
pub record HasOwnRoomFor (batch : Batch) (m : Shared) : Type 0 where
  pub own : m.is_own ≡ true
  pub room : HasRoomFor batch m.value

-- ---- of the code's field

abbrev pub mailbox_in : Place → Held
mailbox_in (place.Own mailbox) = mailbox.value
mailbox_in (place.Shared mailbox) = arc_value mailbox

abbrev pub is_own_in : Place → Bool
is_own_in (place.Own mailbox) = true
is_own_in (place.Shared mailbox) = false
