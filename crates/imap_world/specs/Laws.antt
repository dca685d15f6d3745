-- What holds of worlds, whatever effects are made.
use Rattle.std.specs.Prelude.{◌≡◌, ◌⊎◌, ◌+◌, ◌<◌, ◌≤◌, ℕ, Bool, true, false, not, ◌&&◌, nat_lt, List, length}
use Rattle.std.specs.Prelude.{Option, Some, None, Ok, option_map}
use Rattle.std.specs.FinMap as map
use Rattle.std.specs.List.{AllByRecursion}
use Rattle.imap_batch.specs.Laws.{IsGrown}
use Rattle.imap_name_map.specs.Renaming.{moved_names}
use Rattle.imap_name_map.specs.Rows.{has_within}
use Rattle.imap_names.specs.Name.{Name}
use Rattle.imap_names.specs.Order.{Names, is_within, moved}
use Rattle.imap_rights.specs.Acl.{with_entry}
use Rattle.imap_world.specs.declared.change.Write.{Write}
use Rattle.imap_world.specs.declared.change.Write.TheVariants as write
use Rattle.imap_world.specs.declared.effect.Effect.TheVariants as effect
use Rattle.imap_world.specs.declared.effect.Effect.{Effect}
use Rattle.imap_world.specs.Mailbox.{Mailbox, new_mailbox}
use Rattle.imap_world.specs.Effects.{after_steps, after_writes, writes_for}
use Rattle.imap_world.specs.Kept.{AreKept, IsSound}
use Rattle.imap_world.specs.Moving.{arrivals_at}
use Rattle.imap_world.specs.Ready.{AreApart, IsCurrent, MayChangeParts}
use Rattle.imap_world.specs.Tree.{inherited}
use Rattle.imap_world.specs.World.{World, epoch, inbox}

-- The superiors of mailboxes stay there, and their validities stay counted.
abbrev pub WorldsStaySound : Type 0
WorldsStaySound = (world : World) (steps : List (List Effect))
    → AllByRecursion AreApart steps → IsSound world → IsSound (after_steps steps world)

-- What the type of a mailbox keeps goes on holding of the messages of each.
abbrev pub MessagesStayKept : Type 0
MessagesStayKept = (world : World) (steps : List (List Effect))
    → AllByRecursion AreApart steps → AreKept world.mailboxes → AreKept (after_steps steps world).mailboxes

-- a mailbox had this UIDVALIDITY under the name before, or it is above all that were used there
abbrev pub IsKeptOrNew : World → Name → ℕ → Type 0
IsKeptOrNew old name validity =
    (option_map (λ (m : Mailbox). m.validity) (map.get old.mailboxes name) ≡ Some validity)
    ⊎ (epoch old.epochs name < validity)

pub record KeepsValidities (old new : World) : Type 0 where
  pub epochs : (name : Name) → epoch old.epochs name ≤ epoch new.epochs name
  pub mailboxes : (name : Name) (mailbox : Mailbox)
      → map.get new.mailboxes name ≡ Some mailbox → IsKeptOrNew old name mailbox.validity

-- No UIDVALIDITY is used twice under a name (RFC 9051, section 2.3.1.1).
abbrev pub ValiditiesAreUsedOnce : Type 0
ValiditiesAreUsedOnce = (world : World) (steps : List (List Effect))
    → AllByRecursion AreApart steps → KeepsValidities world (after_steps steps world)

-- ---- messages

-- UIDVALIDITY is as before. UIDNEXT and the number of shared events didn't fall, and a session that was
-- brought up stays so (RFC 9051, section 2.3.1.1)
pub record IsGrownFrom (before after : Mailbox) : Type 0 where
  pub validity : before.validity ≡ after.validity
  pub messages : IsGrown before.messages after.messages

abbrev pub IsGrownFromSome : Mailbox → Option Mailbox → Type 0
IsGrownFromSome after None = ⊥
IsGrownFromSome after (Some before) = IsGrownFrom before after

-- it is what the mailbox of the name has become, or its UIDVALIDITY is above all that were used there
abbrev pub IsGrownOrNew : World → Name → Mailbox → Type 0
IsGrownOrNew old name mailbox =
    IsGrownFromSome mailbox (map.get old.mailboxes name) ⊎ (epoch old.epochs name < mailbox.validity)

pub record MessagesGrown (old new : World) : Type 0 where
  pub epochs : (name : Name) → epoch old.epochs name ≤ epoch new.epochs name
  pub mailboxes : (name : Name) (mailbox : Mailbox)
      → map.get new.mailboxes name ≡ Some mailbox → IsGrownOrNew old name mailbox

-- Under a name and a UIDVALIDITY messages only grow.
abbrev pub MessagesGrow : Type 0
MessagesGrow = (world : World) (steps : List (List Effect))
    → AllByRecursion AreApart steps → AreKept world.mailboxes → MessagesGrown world (after_steps steps world)

-- ---- changes that are current

-- A mailbox is made where none is, and moves to where nothing is, each with the next UIDVALIDITY that was never
-- used there. A list that is set is the mailbox's as it is, with one entry changed. What goes or moves is there.
-- What is written to messages is what is found for them as they are.
abbrev pub IsFresh : World → Write → Type 0
IsFresh world (write.Put row) =
    (map.contains_key world.mailboxes row.name ≡ false) × (row.validity ≡ epoch world.epochs row.name + 1)
IsFresh world (write.SetAcl name acl) =
    (mailbox : Mailbox) × (identifier : List ℕ) × (rights : ℕ)
    × (map.get world.mailboxes name ≡ Some mailbox) × (acl ≡ with_entry mailbox.acl identifier rights)
IsFresh world (write.Remove name) = map.contains_key world.mailboxes name ≡ true
IsFresh world (write.Move old new arrivals) =
    (map.contains_key world.mailboxes old ≡ true) × (has_within new world.mailboxes ≡ false)
    × (arrivals ≡ arrivals_at world.epochs (moved_names old new world.mailboxes))
IsFresh world (write.Messages part other) = MayChangeParts world.mailboxes part other
IsFresh world (write.Subscribe user name) = Unit {0}
IsFresh world (write.Unsubscribe user name) = Unit {0}

-- A change of which this isn't so is current no more, as when its name was taken or its mailbox went since it
-- was found.
abbrev pub CurrentIsFresh : Type 0
CurrentIsFresh =
    (change : List Write) (world : World) → IsCurrent change world → AllByRecursion (IsFresh world) change

-- ---- what commands make, name by name

-- a mailbox is made at the name, or right above others that are made, where none is yet
abbrev pub is_made_with : Names Mailbox → (name q : Name) → Bool
is_made_with mailboxes name q =
    is_within q name && (nat_lt 1 (length q) && not (map.contains_key mailboxes q))

-- a mailbox that is made at a name has the next UIDVALIDITY, the inherited list and no messages
abbrev pub entry_made : World → (owner : List ℕ) → Name → Mailbox
entry_made world owner name =
    new_mailbox (epoch world.epochs name + 1) (inherited world.mailboxes owner name)

-- A mailbox is made at the name, and at each superior of it that wasn't there. All else stays.
pub record IsCreated (owner : List ℕ) (name : Name) (old new : World) : Type 0 where
  pub made : (q : Name) → is_made_with old.mailboxes name q ≡ true
      → map.get new.mailboxes q ≡ Some (entry_made old owner q)
  pub counted : (q : Name) → is_made_with old.mailboxes name q ≡ true
      → epoch new.epochs q ≡ epoch old.epochs q + 1
  pub others : (q : Name) → is_made_with old.mailboxes name q ≡ false
      → map.get new.mailboxes q ≡ map.get old.mailboxes q
  pub uncounted : (q : Name) → is_made_with old.mailboxes name q ≡ false
      → epoch new.epochs q ≡ epoch old.epochs q
  pub subscriptions : new.subscriptions ≡ old.subscriptions

-- what CREATE makes (RFC 9051, section 6.3.4)
abbrev pub CreatesByName : Type 0
CreatesByName = (world : World) (owner : List ℕ) (name : Name) (writes : List Write)
    → IsSound world → writes_for (effect.Create owner name) world ≡ Ok writes
    → IsCreated owner name world (after_writes writes world)

-- a mailbox under its new name: it keeps its list and its messages, and has the next UIDVALIDITY
abbrev pub entry_moved : World → Name → Mailbox → Mailbox
entry_moved world name mailbox = record mailbox { validity = epoch world.epochs name + 1 }

-- Under the new names stands what stood under the old ones, where nothing is left. The superiors of the new
-- name that weren't there are made. All else stays, and so does each INBOX.
pub record IsRenamed (owner : List ℕ) (from to : Name) (old new : World) : Type 0 where
  pub came : (q : Name) → is_within to q ≡ true
      → map.get new.mailboxes q ≡ option_map (entry_moved old q) (map.get old.mailboxes (moved to from q))
  pub gone : (q : Name) → is_within from q ≡ true → map.get new.mailboxes q ≡ None
  pub made : (q : Name) → is_within to q ≡ false → is_made_with old.mailboxes to q ≡ true
      → map.get new.mailboxes q ≡ Some (entry_made old owner q)
  pub others : (q : Name)
      → is_within to q ≡ false → is_within from q ≡ false → is_made_with old.mailboxes to q ≡ false
      → map.get new.mailboxes q ≡ map.get old.mailboxes q
  pub inboxes : (user : List ℕ) → 0 < length user → map.contains_key old.mailboxes (inbox user) ≡ true
      → map.get new.mailboxes (inbox user) ≡ map.get old.mailboxes (inbox user)
  pub counted : (q : Name) → is_within to q ≡ true → map.contains_key new.mailboxes q ≡ true
      → epoch new.epochs q ≡ epoch old.epochs q + 1
  pub uncounted : (q : Name) → is_within to q ≡ true → map.contains_key new.mailboxes q ≡ false
      → epoch new.epochs q ≡ epoch old.epochs q
  pub counted_above : (q : Name) → is_within to q ≡ false → is_made_with old.mailboxes to q ≡ true
      → epoch new.epochs q ≡ epoch old.epochs q + 1
  pub uncounted_elsewhere : (q : Name) → is_within to q ≡ false → is_made_with old.mailboxes to q ≡ false
      → epoch new.epochs q ≡ epoch old.epochs q
  pub subscriptions : new.subscriptions ≡ old.subscriptions

-- what RENAME makes (RFC 9051, section 6.3.6)
abbrev pub RenamesByName : Type 0
RenamesByName = (world : World) (owner : List ℕ) (from to : Name) (writes : List Write)
    → IsSound world → writes_for (effect.Rename owner from to) world ≡ Ok writes
    → IsRenamed owner from to world (after_writes writes world)
