-- What a change needs of a world, so that it is made in memory that is there.
use Rattle.std.specs.Prelude.{◌≡◌, ◌⊎◌, ℕ, ◌+◌, ◌<◌, ◌≤◌, Bool, true, false, List, [], ◌∷◌, bytes_eq, length}
use Rattle.std.specs.Prelude.{Option, Some, None, Ok}
use Rattle.std.specs.FinMap as map
use Rattle.std.specs.List.{AllByRecursion, IsDistinct, filter_map, list_all}
use Rattle.imap_batch.specs.Written.{MayWrite as MayWriteBatch}
use Rattle.imap_batch.specs.declared.write.BatchWrite.{BatchWrite}
use Rattle.imap_name_map.specs.Renaming.{moved_names}
use Rattle.imap_name_map.specs.Rows.{Rows, has_below, has_within}
use Rattle.imap_names.specs.Name.{Name}
use Rattle.imap_names.specs.Order.{Names}
use Rattle.imap_world.specs.declared.change.Write.{Write}
use Rattle.imap_world.specs.declared.change.Write.TheVariants as write
use Rattle.imap_world.specs.declared.effect.Effect.{Effect}
use Rattle.imap_world.specs.declared.effect.Effect.TheVariants as effect
use Rattle.imap_world.specs.Effects.{after_all, after_write, writes_of}
use Rattle.imap_world.specs.declared.mailbox_entry.MailboxEntry.{MailboxEntry}
use Rattle.imap_world.specs.declared.named_batch.NamedWrite.{NamedWrite}
use Rattle.imap_world.specs.Kept.{superior_is_there}
use Rattle.imap_world.specs.Mailbox.{Mailbox}
use Rattle.imap_world.specs.Messages.{is_same_name}
use Rattle.imap_world.specs.Moving.{arrivals_at, can_move}
use Rattle.imap_world.specs.NewMailbox.{NewMailbox}
use Rattle.imap_world.specs.Shared.{HasOwnRoomFor}
use Rattle.imap_world.specs.Stored.{Stored, Subscriptions, world_of}
use Rattle.imap_world.specs.World.{World, epoch}

-- ---- effects that don't meet

-- what is written for the effect depends on no mailbox, unless it is a user's INBOX that is made
abbrev pub is_plain : Effect → Bool
is_plain (effect.CreateInbox user) = true
is_plain (effect.Create owner name) = false
is_plain (effect.Delete name) = false
is_plain (effect.Rename owner old new) = false
is_plain (effect.SetRights name identifier change) = false
is_plain (effect.Messages part other) = false
is_plain (effect.Subscribe user name) = true
is_plain (effect.Unsubscribe user name) = true

-- the user whose INBOX is made
abbrev pub inbox_owner : Effect → Option (List ℕ)
inbox_owner (effect.CreateInbox user) = Some user
inbox_owner (effect.Create owner name) = None
inbox_owner (effect.Delete name) = None
inbox_owner (effect.Rename owner old new) = None
inbox_owner (effect.SetRights name identifier change) = None
inbox_owner (effect.Messages part other) = None
inbox_owner (effect.Subscribe user name) = None
inbox_owner (effect.Unsubscribe user name) = None

-- each is plain, and no user's INBOX is made twice
pub record ArePlain (effects : List Effect) : Type 0 where
  pub plain : list_all is_plain effects ≡ true
  pub owners : IsDistinct bytes_eq (filter_map inbox_owner effects)

-- each may be resolved by the world as it is before all of them
abbrev pub AreApart : List Effect → Type 0
AreApart effects = (length effects ≤ 1) ⊎ ArePlain effects

-- ---- writes that keep the superiors of mailboxes there

-- A mailbox is made under a name that is free, below one that is there. It gets the next UIDVALIDITY that
-- was never used under its name.
pub record MayPut (row : NewMailbox) (world : World) : Type 0 where
  pub free : map.contains_key world.mailboxes row.name ≡ false
  pub superior : superior_is_there world.mailboxes row.name ≡ true
  pub next : row.validity ≡ epoch world.epochs row.name + 1

-- Mailboxes move to names at and below which nothing is, below one that is there. Each gets the next
-- UIDVALIDITY that was never used under its name.
pub record MayMove (old new : Name) (arrivals : List (Name × ℕ)) (world : World) : Type 0 where
  pub there : map.contains_key world.mailboxes old ≡ true
  pub allowed : can_move old new ≡ true
  pub free : has_within new world.mailboxes ≡ false
  pub superior : superior_is_there world.mailboxes new ≡ true
  pub next : arrivals ≡ arrivals_at world.epochs (moved_names old new world.mailboxes)

abbrev pub MayChangeAt : BatchWrite → Option Mailbox → Type 0
MayChangeAt w None = ⊥
MayChangeAt w (Some m) = MayWriteBatch w m.messages

-- the mailbox is there, and it is what is found for its messages as they are
abbrev pub MayChange : Names Mailbox → NamedWrite → Type 0
MayChange mailboxes w = MayChangeAt w.write (map.get mailboxes w.name)

abbrev pub MayChangeOther : Names Mailbox → Name → Option NamedWrite → Type 0
MayChangeOther mailboxes name None = Unit {0}
MayChangeOther mailboxes name (Some other) =
    (is_same_name other.name name ≡ false) × MayChange mailboxes other

abbrev pub MayChangeParts : Names Mailbox → NamedWrite → Option NamedWrite → Type 0
MayChangeParts mailboxes w other = MayChange mailboxes w × MayChangeOther mailboxes w.name other

-- a mailbox goes only if none is below it
abbrev pub MayWrite : Write → World → Type 0
MayWrite (write.Put row) world = MayPut row world
MayWrite (write.SetAcl name acl) world = Unit {0}
MayWrite (write.Remove name) world = has_below name world.mailboxes ≡ false
MayWrite (write.Move old new arrivals) world = MayMove old new arrivals world
MayWrite (write.Messages part other) world = MayChangeParts world.mailboxes part other
MayWrite (write.Subscribe user name) world = Unit {0}
MayWrite (write.Unsubscribe user name) world = Unit {0}

-- each in the world that those before it leave
abbrev pub MayBeWritten : List Write → World → Type 0
MayBeWritten [] world = Unit {0}
MayBeWritten (write ∷ writes) world = MayWrite write world × MayBeWritten writes (after_write write world)

-- ---- room

-- the set is there, with room for `more` names
abbrev pub HasRoom : ℕ → Option (Rows (Unit {0})) → Type 0
HasRoom more None = ⊥
HasRoom more (Some names) = more ≤ names.spare

-- with room for `more` names, if the write adds one
abbrev pub HasNameRoom : Subscriptions → ℕ → Write → Type 0
HasNameRoom subscriptions more (write.Put row) = Unit {0}
HasNameRoom subscriptions more (write.SetAcl name acl) = Unit {0}
HasNameRoom subscriptions more (write.Remove name) = Unit {0}
HasNameRoom subscriptions more (write.Move old new arrivals) = Unit {0}
HasNameRoom subscriptions more (write.Messages part other) = Unit {0}
HasNameRoom subscriptions more (write.Subscribe user name) = HasRoom more (map.get subscriptions.map user)
HasNameRoom subscriptions more (write.Unsubscribe user name) = Unit {0}

-- how many UIDVALIDITYs the write counts as used
abbrev pub count_of : Write → ℕ
count_of (write.Put row) = 1
count_of (write.Move old new arrivals) = length arrivals
count_of (write.SetAcl name acl) = 0
count_of (write.Remove name) = 0
count_of (write.Messages part other) = 0
count_of (write.Subscribe user name) = 0
count_of (write.Unsubscribe user name) = 0

abbrev pub counts_of : List Write → ℕ
counts_of [] = 0
counts_of (write ∷ writes) = count_of write + counts_of writes

-- the mailbox, if it is there, is its world's own, with room for what is written to its messages
abbrev pub HasEntryRoom : BatchWrite → Option MailboxEntry → Type 0
HasEntryRoom w None = Unit {0}
HasEntryRoom w (Some entry) = HasOwnRoomFor w.batch entry.messages

abbrev pub HasPartRoom : Names MailboxEntry → NamedWrite → Type 0
HasPartRoom entries w = HasEntryRoom w.write (map.get entries w.name)

-- in both mailboxes, if these are different ones
abbrev pub HasPartsRoom : Names MailboxEntry → NamedWrite → Option NamedWrite → Type 0
HasPartsRoom entries w None = HasPartRoom entries w
HasPartsRoom entries w (Some other) =
    is_same_name other.name w.name ≡ false → HasPartRoom entries w × HasPartRoom entries other

abbrev pub HasMessageRoom : Names MailboxEntry → Write → Type 0
HasMessageRoom entries (write.Put row) = Unit {0}
HasMessageRoom entries (write.SetAcl name acl) = Unit {0}
HasMessageRoom entries (write.Remove name) = Unit {0}
HasMessageRoom entries (write.Move old new arrivals) = Unit {0}
HasMessageRoom entries (write.Messages part other) = HasPartsRoom entries part other
HasMessageRoom entries (write.Subscribe user name) = Unit {0}
HasMessageRoom entries (write.Unsubscribe user name) = Unit {0}

-- only the first of the writes needs room inside of mailboxes: no other one writes to messages
abbrev pub HasFirstRoom : Names MailboxEntry → List Write → Type 0
HasFirstRoom entries [] = Unit {0}
HasFirstRoom entries (write ∷ writes) = HasMessageRoom entries write

-- it writes to no messages
abbrev pub is_tree_write : Write → Bool
is_tree_write (write.Put row) = true
is_tree_write (write.SetAcl name acl) = true
is_tree_write (write.Remove name) = true
is_tree_write (write.Move old new arrivals) = true
is_tree_write (write.Messages part other) = false
is_tree_write (write.Subscribe user name) = true
is_tree_write (write.Unsubscribe user name) = true

-- only the first writes to messages, if any does
abbrev pub IsLone : List Write → Type 0
IsLone [] = Unit {0}
IsLone (write ∷ writes) = list_all is_tree_write writes ≡ true

-- with room wherever one of the writes may need some
pub record HasRoomFor (change : List Write) (stored : Stored) : Type 0 where
  pub mailboxes : length change ≤ stored.mailboxes.spare
  pub epochs : counts_of change ≤ stored.epochs.spare
  pub first : HasFirstRoom stored.mailboxes.map change
  pub sets : AllByRecursion (HasNameRoom stored.subscriptions (length change)) change

-- ---- what is ready

-- with room for one more mailbox, and what else the write needs
pub record IsOneReady (stored : Stored) (write : Write) : Type 0 where
  pub mailboxes : 0 < stored.mailboxes.spare
  pub epochs : count_of write ≤ stored.epochs.spare
  pub messages : HasMessageRoom stored.mailboxes.map write
  pub set : HasNameRoom stored.subscriptions 1 write
  pub may : MayWrite write (world_of stored)

-- The writes can be made one after another, in the room that there is.
pub record AreReady (writes : List Write) (stored : Stored) : Type 0 where
  pub room : HasRoomFor writes stored
  pub lone : IsLone writes
  pub may : MayBeWritten writes (world_of stored)

-- The change is what is written for some effects by the world as it is. A change that was found before
-- another was committed need not be.
abbrev pub IsCurrent : (change : List Write) → World → Type 0
IsCurrent change world = (effects : List Effect) × AreApart effects × (writes_of effects world ≡ Ok change)

pub record IsReady (change : List Write) (stored : Stored) : Type 0 where
  pub room : HasRoomFor change stored
  pub current : IsCurrent change (world_of stored)

-- The second world is what some effects make of the first, each of them resolved by it.
abbrev pub IsMadeByEffects : (old new : World) → Type 0
IsMadeByEffects old new = (effects : List Effect) × AreApart effects × (new ≡ after_all effects old)

-- each user's room in the first is left in the second
abbrev pub KeepsRoom : Subscriptions → Subscriptions → Type 0
KeepsRoom old new =
    (user : List ℕ) (more : ℕ) → HasRoom more (map.get old.map user) → HasRoom more (map.get new.map user)

-- each user's room in the first is left in the second, but for one name
abbrev pub LeavesRoom : Subscriptions → Subscriptions → Type 0
LeavesRoom old new =
    (user : List ℕ) (more : ℕ)
    → HasRoom (more + 1) (map.get old.map user) → HasRoom more (map.get new.map user)

-- the room of the first is left in the second, but for one mailbox, one subscription and this many
-- UIDVALIDITYs
pub record Leaves (counted : ℕ) (old new : Stored) : Type 0 where
  pub mailboxes : old.mailboxes.spare ≤ new.mailboxes.spare + 1
  pub epochs : old.epochs.spare ≤ new.epochs.spare + counted
  pub users : LeavesRoom old.subscriptions new.subscriptions
