-- What holds of every world.
use Rattle.std.specs.Prelude.{◌≡◌, ◌<◌, ◌≤◌, ℕ, Bool, true, Option, Some, None}
use Rattle.std.specs.FinMap as map
use Rattle.imap_names.specs.Name.{Name, superior}
use Rattle.imap_names.specs.Order.{Names}
use Rattle.imap_batch.specs.Held.{IsKept}
use Rattle.imap_world.specs.Mailbox.{Mailbox}
use Rattle.imap_world.specs.World.{World, epoch}

abbrev pub is_there : {X : Type 0} → Names X → Option Name → Bool
is_there mailboxes None = true
is_there mailboxes (Some above) = map.contains_key mailboxes above

-- whether the name lies right below a mailbox or the root of its tree
abbrev pub superior_is_there : {X : Type 0} → Names X → Name → Bool
superior_is_there mailboxes name = is_there mailboxes (superior name)

-- The superiors of a mailbox are there. Its UIDVALIDITY is at least 1 (RFC 9051, section 2.3.1.1), and is
-- counted among those that were used under its name. None that is counted is 0.
pub record IsSound (world : World) : Type 0 where
  pub closed : (name : Name)
      → map.contains_key world.mailboxes name ≡ true → superior_is_there world.mailboxes name ≡ true
  pub used : (name : Name) (mailbox : Mailbox)
      → map.get world.mailboxes name ≡ Some mailbox → mailbox.validity ≤ epoch world.epochs name
  pub positive : (name : Name) (mailbox : Mailbox)
      → map.get world.mailboxes name ≡ Some mailbox → 0 < mailbox.validity
  pub counted : (name : Name) (validity : ℕ) → map.get world.epochs name ≡ Some validity → 0 < validity

-- What the type of a mailbox keeps holds of the messages of each.
pub record AreKept (mailboxes : Names Mailbox) : Type 0 where
  pub at : (name : Name) (mailbox : Mailbox)
      → map.get mailboxes name ≡ Some mailbox → IsKept mailbox.messages
