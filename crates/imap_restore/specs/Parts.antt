-- What a store keeps of a world, by its tables.
use Rattle.std.specs.Prelude.{◌≡◌, ◌≢◌, ℕ, ℤ, pos, Bool, true, false, List, [], ◌∷◌, ◌++◌, filter, map, reverse, string_bytes}
use Rattle.std.specs.List.{AllByRecursion, AllZip, list_all}
use Rattle.std.specs.List.Sorted.{IsSortedByKey}
use Rattle.std.specs.Ordering.{int_cmp, int_eq, is_lt}
use Rattle.std.specs.Str.{is_utf8}
use Rattle.sqlite_rules.specs.Lists.{Has}
use Rattle.imap_mailbox.specs.declared.message.GoneMessage.{GoneMessage}
use Rattle.imap_mailbox.specs.declared.message.Message.{Message}
use Rattle.imap_mailbox.specs.declared.parts.MailboxParts.{MailboxParts}
use Rattle.imap_mailbox.specs.UserChange.{UserChange}
use Rattle.imap_names.specs.Name.{Name}
use Rattle.imap_names.specs.Valid.{IsName}
use Rattle.imap_stored_values.specs.Restored.{HasKeyOf, HasRights, IsAnEntry, IsEpochFor, IsFit, IsGoneFor}
use Rattle.imap_stored_values.specs.Restored.{IsMarkFor, IsRowFor, IsSubscriptionFor}
use Rattle.imap_restore.specs.declared.parts.MailboxWithOwn.{MailboxWithOwn}
use Rattle.imap_restore.specs.declared.parts.RowsBelow.{RowsBelow}
use Rattle.imap_rights.specs.declared.acl.Entry.{Entry}
use Rattle.imap_tables.specs.Contents.{AreNumbersApart}
use Rattle.imap_tables.specs.declared.stored.StoredEntry.{StoredEntry}
use Rattle.imap_tables.specs.declared.stored.StoredGone.{StoredGone}
use Rattle.imap_tables.specs.declared.stored.StoredMailbox.{StoredMailbox}
use Rattle.imap_tables.specs.declared.stored.StoredSeenFlag.{StoredSeenFlag}
use Rattle.imap_tables.specs.declared.stored.StoredMessage.{StoredMessage}
use Rattle.imap_tables.specs.declared.tables.StoredTables.{StoredTables}
use Rattle.imap_world.specs.Subscription.{Subscription}
use Rattle.imap_world.specs.declared.world_parts.MailboxRow.{MailboxRow}
use Rattle.imap_world.specs.declared.world_parts.WorldParts.{WorldParts}

-- ---- of a row below a mailbox

abbrev pub IsEntryFor : StoredEntry → Entry → Type 0
IsEntryFor row it = HasRights (string_bytes row.identifier) row.rights it × IsAnEntry it

abbrev pub IsMessageFor : StoredMessage → Message → Type 0
IsMessageFor row it = IsRowFor row.row it × IsFit it

abbrev pub IsGoneMessageFor : StoredGone → GoneMessage → Type 0
IsGoneMessageFor row it = IsGoneFor row.uid row.place it

abbrev pub IsChangeFor : StoredSeenFlag → UserChange → Type 0
IsChangeFor row it = IsMarkFor row.row it × (is_utf8 it.user ≡ true)

-- of the rows those below the mailbox with this id
abbrev pub below : {R : Type 0} → (mailbox : R → ℤ) → (id : ℤ) → List R → List R
below mailbox id rows = filter (λ row. int_eq (mailbox row) id) rows

-- the rows are in the order of their mailboxes
abbrev pub AreGrouped : {R : Type 0} → (mailbox : R → ℤ) → List R → Type 0
AreGrouped mailbox rows = IsSortedByKey mailbox int_cmp rows

-- none of the rows is of a mailbox with a lower id
abbrev pub IsFrom : {R : Type 0} → (mailbox : R → ℤ) → (id : ℤ) → List R → Type 0
IsFrom {R} mailbox id rows = AllByRecursion (λ row. is_lt (int_cmp (mailbox row) id) ≡ false) rows

-- the rows of the second are those of the first, in the order of their mailboxes
abbrev pub IsInOrder : {R : Type 0} → (mailbox : R → ℤ) → List R → List R → Type 0
IsInOrder mailbox rows grouped =
    AreGrouped mailbox grouped × ((id : ℤ) → below mailbox id grouped ≡ below mailbox id rows)

-- the tables of the second are those of the first, with the rows in the order of their mailboxes
pub record IsGrouped (t g : StoredTables) : Type 0 where
  pub mailboxes : g.mailboxes ≡ t.mailboxes
  pub entries : IsInOrder (λ r. r.mailbox) t.entries.items g.entries.items
  pub messages : IsInOrder (λ r. r.mailbox) t.messages.items g.messages.items
  pub gone : IsInOrder (λ r. r.mailbox) t.gone.items g.gone.items
  pub marks : IsInOrder (λ r. r.mailbox) t.marks.items g.marks.items
  pub epochs : g.epochs ≡ t.epochs
  pub subscriptions : g.subscriptions ≡ t.subscriptions

-- the rows below mailboxes are in the order of these
pub record HaveGroups (t : StoredTables) : Type 0 where
  pub entries : AreGrouped (λ r. r.mailbox) t.entries.items
  pub messages : AreGrouped (λ r. r.mailbox) t.messages.items
  pub gone : AreGrouped (λ r. r.mailbox) t.gone.items
  pub marks : AreGrouped (λ r. r.mailbox) t.marks.items

-- ---- of a mailbox

module _ (t : StoredTables) (s : StoredMailbox) where
  pub record AreOf (parts : MailboxParts) : Type 0 where
    pub next : parts.next ≡ s.uidnext
    pub shared : pos parts.shared ≡ s.shared
    pub messages : AllZip IsMessageFor (below (λ r. r.mailbox) s.id t.messages.items) parts.messages.items
    pub gone : AllZip IsGoneMessageFor (below (λ r. r.mailbox) s.id t.gone.items) parts.gone.items
    pub own : AllZip IsChangeFor (below (λ r. r.mailbox) s.id t.marks.items) parts.own.items

  pub record IsMailboxFor (row : MailboxRow) : Type 0 where
    pub name : HasKeyOf s.key row.name × IsName row.name
    pub validity : row.validity ≡ s.validity
    pub acl : AllZip IsEntryFor (below (λ r. r.mailbox) s.id t.entries.items) row.acl.items
    pub messages : AreOf row.messages

-- ---- of all

-- each row is below a mailbox whose id passes the test
abbrev pub AreKnown : {R : Type 0} → (mailbox : R → ℤ) → (test : ℤ → Bool) → List R → Type 0
AreKnown mailbox test rows = list_all (λ row. test (mailbox row)) rows ≡ true

-- a mailbox has the id
abbrev pub IsOneOf : List StoredMailbox → ℤ → Type 0
IsOneOf mailboxes id = (s : StoredMailbox) × Has mailboxes s × (s.id ≡ id)

-- the mailbox of each row is one of these
abbrev pub AreBelow : {R : Type 0} → (mailbox : R → ℤ) → List StoredMailbox → List R → Type 0
AreBelow {R} mailbox mailboxes rows = (row : R) → Has rows row → IsOneOf mailboxes (mailbox row)

-- each row below a mailbox is below one that is there
pub record HaveMailboxes (t : StoredTables) : Type 0 where
  pub entries : AreBelow (λ r. r.mailbox) t.mailboxes.items t.entries.items
  pub messages : AreBelow (λ r. r.mailbox) t.mailboxes.items t.messages.items
  pub gone : AreBelow (λ r. r.mailbox) t.mailboxes.items t.gone.items
  pub marks : AreBelow (λ r. r.mailbox) t.mailboxes.items t.marks.items

-- what is read again of the tables
pub record ArePartsFor (t : StoredTables) (parts : WorldParts) : Type 0 where
  pub known : HaveMailboxes t
  pub mailboxes : AllZip (IsMailboxFor t) t.mailboxes.items parts.mailboxes.items
  pub epochs : AllZip IsEpochFor t.epochs.items parts.epochs.items
  pub subscriptions : AllZip IsSubscriptionFor t.subscriptions.items parts.subscriptions.items

-- ---- tables of which parts can be read

module _ (t : StoredTables) where
  -- the rows below the mailbox keep something
  pub record HaveMessages (s : StoredMailbox) : Type 0 where
    pub shared : (n : ℕ) × (pos n ≡ s.shared)
    pub messages : (items : List Message)
        × AllZip IsMessageFor (below (λ r. r.mailbox) s.id t.messages.items) items
    pub gone : (items : List GoneMessage)
        × AllZip IsGoneMessageFor (below (λ r. r.mailbox) s.id t.gone.items) items
    pub own : (items : List UserChange)
        × AllZip IsChangeFor (below (λ r. r.mailbox) s.id t.marks.items) items

  pub record HasMailbox (s : StoredMailbox) : Type 0 where
    pub name : (name : Name) × HasKeyOf s.key name × IsName name
    pub acl : (items : List Entry)
        × AllZip IsEntryFor (below (λ r. r.mailbox) s.id t.entries.items) items
    pub messages : HaveMessages s

  pub record HasParts : Type 0 where
    pub known : HaveMailboxes t
    pub mailboxes : AllByRecursion HasMailbox t.mailboxes.items
    pub epochs : (items : List (Name × ℕ)) × AllZip IsEpochFor t.epochs.items items
    pub subscriptions : (items : List Subscription)
        × AllZip IsSubscriptionFor t.subscriptions.items items

-- ---- a mailbox of which users' own changes are read first

-- the rows are in the order of mailboxes
pub record AreInGroups (rows : RowsBelow) : Type 0 where
  pub entries : AreGrouped (λ r. r.mailbox) rows.entries.items
  pub messages : AreGrouped (λ r. r.mailbox) rows.messages.items
  pub gone : AreGrouped (λ r. r.mailbox) rows.gone.items

-- the rows below the mailbox keep these changes
abbrev pub IsOwn : List StoredSeenFlag → StoredMailbox → List UserChange → Type 0
IsOwn marks s own = AllZip IsChangeFor (below (λ r. r.mailbox) s.id marks) own

abbrev pub HasOwn : List StoredSeenFlag → StoredMailbox → Type 0
HasOwn marks s = (own : List UserChange) × IsOwn marks s own

-- it is the mailbox, with the changes that rows below it keep
abbrev pub IsWithOwn : List StoredSeenFlag → StoredMailbox → MailboxWithOwn → Type 0
IsWithOwn marks s it = (it.stored ≡ s) × IsOwn marks s it.own.items

module _ (t : StoredTables) (s : StoredMailbox) where
  -- the tables have these rows below the mailbox, and those of their marks that are below it keep these changes
  pub record HasRows (rows : RowsBelow) (own : List UserChange) : Type 0 where
    pub entries : t.entries ≡ rows.entries
    pub messages : below (λ r. r.mailbox) s.id t.messages.items
        ≡ below (λ r. r.mailbox) s.id rows.messages.items
    pub gone : t.gone ≡ rows.gone
    pub changes : IsOwn t.marks.items s own

-- what is read of the mailbox, whichever tables have its rows
abbrev pub IsMailboxOf : RowsBelow → MailboxWithOwn → MailboxRow → Type 0
IsMailboxOf rows it row =
    (t : StoredTables) → HasRows t it.stored rows it.own.items → IsMailboxFor t it.stored row

-- it can be read of tables that have its rows
abbrev pub HasMailboxOf : RowsBelow → MailboxWithOwn → Type 0
HasMailboxOf rows it =
    (t : StoredTables) × HasRows t it.stored rows it.own.items × HasMailbox t it.stored

-- ---- rows that are taken from the end of a table

-- the last row is below the mailbox, in a table that is turned round
abbrev pub is_first_below : {R : Type 0} → (mailbox : R → ℤ) → (id : ℤ) → List R → Bool
is_first_below mailbox id [] = false
is_first_below mailbox id (row ∷ rows) = int_eq (mailbox row) id

-- of the rows at the end these were read, the last first: what is read of the rows that are left comes before them
pub record ReadsEnd {R T : Type 0} (is_for : R → T → Type 0) (mailbox : R → ℤ) (id : ℤ) (rows left : List R)
    (items : List T) : Type 0 where
  pub more : (first : List T) → AllZip is_for (below mailbox id left) first
      → AllZip is_for (below mailbox id rows) (first ++ reverse items)
  pub back : (all : List T) → AllZip is_for (below mailbox id rows) all
      → (first : List T) × AllZip is_for (below mailbox id left) first

-- the rows below other mailboxes are left, in their order
pub record LeavesOthers {R : Type 0} (mailbox : R → ℤ) (id : ℤ) (rows left : List R) : Type 0 where
  pub grouped : AreGrouped mailbox rows → AreGrouped mailbox left
  pub others : (other : ℤ) → other ≢ id → below mailbox other left ≡ below mailbox other rows

-- all rows are left but for messages below the mailbox
pub record AreLeft (id : ℤ) (rows left : RowsBelow) : Type 0 where
  pub entries : left.entries ≡ rows.entries
  pub messages : LeavesOthers (λ r. r.mailbox) id rows.messages.items left.messages.items
  pub gone : left.gone ≡ rows.gone

-- no two mailboxes have one id
abbrev pub AreIdsApart : List StoredMailbox → Type 0
AreIdsApart mailboxes = AreNumbersApart (map (λ s. s.id) mailboxes)

abbrev pub AreOwnersApart : List MailboxWithOwn → Type 0
AreOwnersApart mailboxes = AreNumbersApart (map (λ it. it.stored.id) mailboxes)
