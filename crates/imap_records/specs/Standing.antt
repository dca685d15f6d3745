-- Tables that stand for a world.
use Rattle.std.specs.Prelude.{◌≡◌, ◌↔◌, ℕ, ℤ, true, List, ◌∷◌, Some}
use Rattle.std.specs.FinMap as map
use Rattle.sqlite.specs.declared.types.Value.TheVariants.{Int}
use Rattle.sqlite.specs.Order.{Row}
use Rattle.sqlite.specs.Tree.{Trees}
use Rattle.sqlite_rules.specs.Lists.{Has}
use Rattle.imap_mailbox.specs.declared.message.GoneMessage.{GoneMessage}
use Rattle.imap_mailbox.specs.declared.message.Message.{Message}
use Rattle.imap_mailbox.specs.declared.kept_change.KeptChange.{KeptChange}
use Rattle.imap_mailbox.specs.KeptRows.{AreKept}
use Rattle.imap_mailbox.specs.Own.{found_in, own_at}
use Rattle.imap_mailbox.specs.Summary.{Summary}
use Rattle.imap_names.specs.Name.{Name}
use Rattle.imap_names.specs.Order.{Names}
use Rattle.imap_names.specs.Valid.{IsName}
use Rattle.imap_records.specs.Columns.{entry_values, epoch_values, gone_values, mark_values, message_values}
use Rattle.imap_records.specs.Columns.{row_of_mailbox, subscription_values}
use Rattle.imap_rights.specs.Acl.{AclMap}
use Rattle.imap_world.specs.Mailbox.{Mailbox}
use Rattle.imap_world.specs.World.{World, subscribed_by}

-- ---- rows by their values

-- the row has these values after its rowid
pub record IsNumbered (Is : Row → Type 0) (row : Row) : Type 0 where
  pub rowid : ℤ
  pub values : Row
  pub shown : row ≡ Int rowid ∷ values
  pub meant : Is values

-- the rows are those with these values and no other, each with some rowid
pub record AreRows (rows : List Row) (Is : Row → Type 0) : Type 0 where
  pub sound : (row : Row) → Has rows row → IsNumbered Is row
  pub complete : (values : Row) → Is values → (rowid : ℤ) × Has rows (Int rowid ∷ values)

-- ---- what a mailbox has in the tables below it

pub record IsEntry (acl : AclMap) (id : ℤ) (values : Row) : Type 0 where
  pub identifier : List ℕ
  pub rights : ℕ
  pub there : Has (map.entries acl) (identifier, rights)
  pub shown : values ≡ entry_values id identifier rights

pub record IsMessage (messages : List Message) (id : ℤ) (values : Row) : Type 0 where
  pub message : Message
  pub there : Has messages message
  pub shown : values ≡ message_values id message

pub record IsGone (gone : List GoneMessage) (id : ℤ) (values : Row) : Type 0 where
  pub message : GoneMessage
  pub there : Has gone message
  pub shown : values ≡ gone_values id message

-- of each user the own changes that are kept
abbrev pub Kept : Type 0
Kept = (user : List ℕ) → List KeptChange

pub record IsMark (kept : Kept) (id : ℤ) (values : Row) : Type 0 where
  pub user : List ℕ
  pub change : KeptChange
  pub there : Has (kept user) change
  pub shown : values ≡ mark_values id user change

-- each user's own changes are found of those that are kept, which are in order
pub record AreFound (kept : Kept) (s : Summary) : Type 0 where
  pub order : (user : List ℕ) → AreKept 0 0 s.shared (kept user)
  pub found : (user : List ℕ) → found_in (kept user) ≡ own_at s.own user

-- the tables below a mailbox
pub data Child : Type 0 where
  entries : Child
  messages : Child
  gone : Child
  marks : Child

abbrev pub tree_of : Child → ℕ
tree_of entries = 2
tree_of messages = 4
tree_of gone = 6
tree_of marks = 8

abbrev pub IsOf : Child → Mailbox → Kept → (id : ℤ) → (values : Row) → Type 0
IsOf entries m kept id values = IsEntry m.acl id values
IsOf messages m kept id values = IsMessage m.messages.messages id values
IsOf gone m kept id values = IsGone m.messages.gone id values
IsOf marks m kept id values = IsMark kept id values

-- ---- what a world has in the tables, with these ids of its mailboxes

module _ (world : World) (id : Name → ℤ) where
  -- the row is that of a mailbox
  pub record IsMailbox (row : Row) : Type 0 where
    pub name : Name
    pub mailbox : Mailbox
    pub there : map.get world.mailboxes name ≡ Some mailbox
    pub shown : row ≡ row_of_mailbox name mailbox (id name)

  -- the row is below a mailbox, of which these own changes are kept
  pub record IsUnder (kept : Name → Kept) (child : Child) (values : Row) : Type 0 where
    pub name : Name
    pub mailbox : Mailbox
    pub there : map.get world.mailboxes name ≡ Some mailbox
    pub shown : IsOf child mailbox (kept name) (id name) values

pub record IsEpoch (epochs : Names ℕ) (values : Row) : Type 0 where
  pub name : Name
  pub greatest : ℕ
  pub there : map.get epochs name ≡ Some greatest
  pub shown : values ≡ epoch_values name greatest

pub record IsSubscription (world : World) (values : Row) : Type 0 where
  pub user : List ℕ
  pub name : Name
  pub there : map.contains_key (subscribed_by world user) name ≡ true
  pub shown : values ≡ subscription_values user name

-- the names in it are names of mailboxes: so each is known by its tree and path
pub record AreNames (world : World) : Type 0 where
  pub mailboxes : (name : Name) (m : Mailbox) → map.get world.mailboxes name ≡ Some m → IsName name
  pub epochs : (name : Name) (greatest : ℕ) → map.get world.epochs name ≡ Some greatest → IsName name
  pub subscriptions : (user : List ℕ) (name : Name)
      → map.contains_key (subscribed_by world user) name ≡ true → IsName name

-- no two mailboxes have one id
abbrev pub AreApart : World → (id : Name → ℤ) → Type 0
AreApart world id =
    (a b : Name) (m n : Mailbox)
    → map.get world.mailboxes a ≡ Some m → map.get world.mailboxes b ≡ Some n → id a ≡ id b → a ≡ b

-- of the own changes that are kept those of each mailbox are found
abbrev pub AreAllFound : World → (kept : Name → Kept) → Type 0
AreAllFound world kept =
    (name : Name) (m : Mailbox) → map.get world.mailboxes name ≡ Some m → AreFound (kept name) m.messages

-- The tables are those of the world, with some ids of its mailboxes. Of a user's own changes no more are kept than
-- all are found of.
pub record StandFor (db : Trees) (world : World) : Type 0 where
  pub id : Name → ℤ
  pub kept : Name → Kept
  pub apart : AreApart world id
  pub named : AreNames world
  pub found : AreAllFound world kept
  pub mailboxes : (row : Row) → Has (db 0) row ↔ IsMailbox world id row
  pub below : (child : Child) → AreRows (db (tree_of child)) (IsUnder world id kept child)
  pub epochs : AreRows (db 10) (IsEpoch world.epochs)
  pub subscriptions : AreRows (db 12) (IsSubscription world)
