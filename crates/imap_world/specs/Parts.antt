-- What a store keeps of a world, and the world that it stands for.
use Rattle.std.specs.Prelude.{◌≡◌, List, ℕ, Bool, ◌&&◌, if◌then◌else◌, bytes_eq, Result, Ok, Err, Some}
use Rattle.std.specs.Prelude.{IsPermutation}
use Rattle.std.specs.FinMap as fin
use Rattle.std.specs.List.{AllZip, count_by}
use Rattle.std.specs.Ordering.{eq_by_cmp}
use Rattle.imap_batch.specs.Parts as mailbox
use Rattle.imap_batch.specs.PartsError.{PartsError}
use Rattle.imap_batch.specs.PartsError.TheVariants.{Bad, Memory}
use Rattle.imap_names.specs.Name.{Name}
use Rattle.imap_names.specs.Order.{Names, name_cmp}
use Rattle.imap_rights.specs.Acl.{IsAcl}
use Rattle.imap_rights.specs.Entries.{pairs_of}
use Rattle.imap_world.specs.declared.world_parts.MailboxRow.{MailboxRow}
use Rattle.imap_world.specs.declared.world_parts.WorldParts.{WorldParts}
use Rattle.imap_world.specs.Kept.{AreKept, IsSound}
use Rattle.imap_world.specs.Mailbox.{Mailbox}
use Rattle.imap_world.specs.Stored.{Stored, world_of}
use Rattle.imap_world.specs.Subscription.{Subscription}
use Rattle.imap_world.specs.World.{World, subscribed_by}

-- the row is that of the mailbox, under its name
pub record IsRowOf (row : MailboxRow) (e : Name × Mailbox) : Type 0 where
  pub name : e.0 ≡ row.name
  pub validity : (e.1).validity ≡ row.validity
  pub acl : IsPermutation (pairs_of row.acl.items) (fin.entries (e.1).acl)
  pub messages : mailbox.StandFor row.messages (e.1).messages

-- put in some order, the rows are those of the mailboxes, one by one
abbrev pub AreMailboxes : List MailboxRow → Names Mailbox → Type 0
AreMailboxes rows mailboxes =
    (ordered : List MailboxRow) × IsPermutation rows ordered × AllZip IsRowOf ordered (fin.entries mailboxes)

-- whether the row says that the user subscribed to the name
abbrev pub is_subscription : List ℕ → Name → Subscription → Bool
is_subscription user name row = bytes_eq user row.user && eq_by_cmp name_cmp name row.name

-- each name that a user subscribed to is there once, whatever the order, and no other
abbrev pub AreSubscriptions : List Subscription → World → Type 0
AreSubscriptions rows world =
    (user : List ℕ) (name : Name)
    → count_by (is_subscription user name) rows
    ≡ (if fin.contains_key (subscribed_by world user) name then 1 else 0)

-- the parts are those of a world, whatever their order
pub record StandFor (parts : WorldParts) (world : World) : Type 0 where
  pub mailboxes : AreMailboxes parts.mailboxes.items world.mailboxes
  pub epochs : IsPermutation parts.epochs.items (fin.entries world.epochs)
  pub subscriptions : AreSubscriptions parts.subscriptions.items world

-- what holds of every access control list
abbrev pub AreLists : Names Mailbox → Type 0
AreLists mailboxes = (name : Name) (m : Mailbox) → fin.get mailboxes name ≡ Some m → IsAcl m.acl

-- the world for which the parts stand; or they are bad, and stand for none; or memory ran out
abbrev pub Restores : WorldParts → Result Stored PartsError → Type 0
Restores parts (Ok stored) = StandFor parts (world_of stored)
Restores parts (Err Bad) =
    (world : World) → IsSound world → AreKept world.mailboxes → AreLists world.mailboxes
    → StandFor parts world → ⊥
Restores parts (Err Memory) = Unit {0}

-- parts stand for one world at most
abbrev pub StandForOne : Type 0
StandForOne =
    (parts : WorldParts) (s t : Stored) → AreKept (world_of s).mailboxes → AreKept (world_of t).mailboxes
    → StandFor parts (world_of s) → StandFor parts (world_of t) → world_of s ≡ world_of t
