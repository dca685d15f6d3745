-- What is asked of the rows of a world, whatever their order.
use Rattle.std.specs.Prelude.{◌≡◌, ◌<◌, ◌≤◌, ℕ, true, false, List, [], ◌∷◌, ◌++◌, Some, Result, Ok, Err}
use Rattle.std.specs.Prelude.{bytes_eq, if◌then◌else◌, IsPermutation}
use Rattle.std.specs.FinMap as map
use Rattle.imap_batch.specs.Held.{IsKept}
use Rattle.imap_batch.specs.PartsError.{PartsError}
use Rattle.imap_batch.specs.PartsError.TheVariants.{Bad, Memory}
use Rattle.imap_name_map.specs.Rows as name
use Rattle.imap_names.specs.Name.{Name}
use Rattle.imap_names.specs.Order.{Names}
use Rattle.imap_world.specs.declared.mailbox_entry.MailboxEntry.{MailboxEntry}
use Rattle.imap_world.specs.declared.world_parts.MailboxRow.{MailboxRow}
use Rattle.imap_world.specs.Kept.{AreKept, superior_is_there}
use Rattle.imap_world.specs.Mailbox.{Mailbox, plain, plain_all}
use Rattle.imap_world.specs.Parts.{AreLists, AreMailboxes, AreSubscriptions, IsRowOf}
use Rattle.imap_world.specs.Stored.{Subscriptions, filled_sets, names_in}
use Rattle.imap_world.specs.Subscription.{Subscription}
use Rattle.imap_world.specs.World.{World, NameSet, epoch}
use Rattle.imap_rights.specs.Acl.{AclMap, IsAcl}
use Rattle.imap_rights.specs.Entries.{pairs_of}
use Rattle.imap_rights.specs.declared.acl.Entry.{Entry}

-- the map of these rows; or a name is there twice
abbrev pub RestoresMap : {X : Type 0} → List (Name × X) → Result (name.Rows X) PartsError → Type 0
RestoresMap rows (Ok rows_of) = IsPermutation rows (map.entries rows_of.map)
RestoresMap {X} rows (Err Bad) = (m : Names X) → IsPermutation rows (map.entries m) → ⊥
RestoresMap rows (Err Memory) = ⊥

-- the list of these entries; or there is none
abbrev pub RestoresAcl : List Entry → Result AclMap PartsError → Type 0
RestoresAcl rows (Ok acl) = IsPermutation (pairs_of rows) (map.entries acl)
RestoresAcl rows (Err Bad) = (acl : AclMap) → IsAcl acl → IsPermutation (pairs_of rows) (map.entries acl) → ⊥
RestoresAcl rows (Err Memory) = ⊥

-- the mailbox of the row was appended; or there is none; or memory ran out
abbrev pub PushesRow :
    MailboxRow → (old new : List (Name × MailboxEntry)) → Result (Unit {0}) PartsError → Type 0
PushesRow row old new (Ok done) =
    (e : Name × MailboxEntry) × (new ≡ old ++ e ∷ [])
    × IsRowOf row (e.0, plain e.1) × IsKept (plain e.1).messages
PushesRow row old new (Err Bad) =
    (e : Name × Mailbox) → IsRowOf row e → IsKept (e.1).messages → IsAcl (e.1).acl → ⊥
PushesRow row old new (Err Memory) = Unit {0}

-- the mailboxes of these rows; or there are none; or memory ran out
abbrev pub RestoresMailboxes : List MailboxRow → Result (name.Rows MailboxEntry) PartsError → Type 0
RestoresMailboxes rows (Ok made) = AreMailboxes rows (plain_all made.map) × AreKept (plain_all made.map)
RestoresMailboxes rows (Err Bad) =
    (mailboxes : Names Mailbox) → AreKept mailboxes → AreLists mailboxes → AreMailboxes rows mailboxes → ⊥
RestoresMailboxes rows (Err Memory) = Unit {0}

-- the names of a user
abbrev pub names_at : Subscriptions → List ℕ → NameSet
names_at sets user = names_in (map.get sets.map user)

-- the name is one more of the set; or it was there; or memory ran out
abbrev pub AddsName : Name → (old new : NameSet) → Result (Unit {0}) PartsError → Type 0
AddsName name old new (Ok done) = (map.contains_key old name ≡ false) × (new ≡ map.insert old name tt)
AddsName name old new (Err Bad) = map.contains_key old name ≡ true
AddsName name old new (Err Memory) = Unit {0}

-- the sets of all users, with one more name of one of them
abbrev pub HaveName : Subscription → (old new : Subscriptions) → Type 0
HaveName row old new =
    (user : List ℕ)
    → names_at new user
    ≡ (if bytes_eq user row.user then map.insert (names_at old user) row.name tt else names_at old user)

-- the name is one more of its user; or the user had it; or memory ran out
abbrev pub Subscribes : Subscription → (old new : Subscriptions) → Result (Unit {0}) PartsError → Type 0
Subscribes row old new (Ok done) =
    (map.contains_key (names_at old row.user) row.name ≡ false) × HaveName row old new
Subscribes row old new (Err Bad) = map.contains_key (names_at old row.user) row.name ≡ true
Subscribes row old new (Err Memory) = Unit {0}

-- the names of each user; or a user has a name twice; or memory ran out
abbrev pub RestoresNames : List Subscription → Result Subscriptions PartsError → Type 0
RestoresNames rows (Ok made) =
    (world : World) → world.subscriptions ≡ filled_sets made → AreSubscriptions rows world
RestoresNames rows (Err Bad) = (world : World) → AreSubscriptions rows world → ⊥
RestoresNames rows (Err Memory) = Unit {0}

-- none is 0
abbrev pub AreCounted : Names ℕ → Type 0
AreCounted epochs = (name : Name) (validity : ℕ) → map.get epochs name ≡ Some validity → 0 < validity

-- a mailbox of this UIDVALIDITY may be under the name
pub record IsPlaced (mailboxes : Names Mailbox) (epochs : Names ℕ) (name : Name) (validity : ℕ) : Type 0 where
  pub positive : 0 < validity
  pub used : validity ≤ epoch epochs name
  pub superior : superior_is_there mailboxes name ≡ true

abbrev pub ArePlaced : Names Mailbox → Names ℕ → Type 0
ArePlaced mailboxes epochs =
    (name : Name) (m : Mailbox) → map.get mailboxes name ≡ Some m → IsPlaced mailboxes epochs name m.validity
