-- Tables that hold a world.
use Rattle.std.specs.Prelude.{◌≡◌, ◌⊎◌, ◌&&◌, not, true, List, drop}
use Rattle.std.specs.List.{AllByRecursion, list_all}
use Rattle.sqlite.specs.Order.{Row}
use Rattle.sqlite.specs.Table.{Table}
use Rattle.sqlite.specs.Tree.{Trees}
use Rattle.sqlite_rules.specs.Lists.{Has}
use Rattle.sqlite_schema.specs.Rules.{are_typed, clashes, guards}
use Rattle.imap_names.specs.Name.{Name}
use Rattle.imap_records.specs.Standing.{StandFor}
use Rattle.imap_records.specs.Values.{WorldHasValues}
use Rattle.imap_message_tables.specs.Adopting.{first_of}
use Rattle.imap_message_tables.specs.Split.{IsSplit}
use Rattle.imap_tables.specs.Contents.{AreAddedStored, AreStored}
use Rattle.imap_tables.specs.Reading.{shown_at}
use Rattle.imap_tables.specs.declared.tables.AddedTables.{AddedTables}
use Rattle.imap_tables.specs.declared.tables.StoredTables.{StoredTables}
use Rattle.imap_tables.specs.Rows.{IsOrderly}
use Rattle.imap_tables.specs.Stored.{ShowsMeta}
use Rattle.imap_tables.specs.Steps.{AreEmpty}
use Rattle.imap_tables.specs.Tables.{added_tables, meta_tree, store_indexes, store_tables}
use Rattle.imap_rights.specs.Acl.{IsAcl}
use Rattle.imap_world.specs.Kept.{AreKept, IsSound}
use Rattle.imap_world.specs.Parts as parts
use Rattle.imap_world.specs.declared.mailbox_entry.MailboxEntry.{MailboxEntry}
use Rattle.imap_world.specs.declared.world_parts.WorldParts.{WorldParts}
use Rattle.imap_world.specs.World.{World}
use Rattle.imap_restore.specs.Parts.{ArePartsFor, HasParts}

-- the tables stand for the world, which is as its types keep it
pub record Stand (db : Trees) (world : World) : Type 0 where
  pub stands : StandFor db world
  pub values : WorldHasValues world
  pub sound : IsSound world
  pub kept : AreKept world.mailboxes

-- each row of `meta` is a text and a number
abbrev pub MetaShows : Trees → Type 0
MetaShows db = (row : Row) → Has (db meta_tree) row → ShowsMeta (shown_at 7 row)

-- they stand for the world, are in order, and can be read
abbrev pub Hold : (db : Trees) (world : World) → Type 0
Hold db world = Stand db world × IsOrderly db × MetaShows db

-- Rows have the columns of their tables, and no two rows of a table agree in a key. Tables that obey the
-- schema of a store are such, and those with one table of messages that fits them.
pub record AreKeptRows (db : Trees) : Type 0 where
  pub typed : (table : Table) → Has store_tables table → (row : Row) → Has (db table.tree) row
      → are_typed table.key 0 table.columns (drop 1 row) ≡ true
  pub unique : (table : Table) → Has store_tables table → (row : Row) → Has (db table.tree) row
      → list_all (λ i. not (guards i table && clashes i.order i.columns (db table.tree) row)) store_indexes
      ≡ true

-- A database whose messages stand in three tables keeps the world: the one table of messages that fits these
-- is what stands for it.
abbrev pub HoldSplit : (db : Trees) (world : World) → Type 0
HoldSplit db world = ((one : Trees) × IsSplit db one × Stand one world) × IsOrderly db × MetaShows db

-- a database keeps one world at most
abbrev pub OneIsHeld : Type 0
OneIsHeld = (db : Trees) (s t : World) → HoldSplit db s → HoldSplit db t → s ≡ t

-- A database of the first version keeps the world, each message in one row. It has none of the tables that
-- were added.
abbrev pub HoldFirst : (db : Trees) (world : World) → Type 0
HoldFirst db world = Hold (first_of db) world

-- this is read of the tables of a store, whose messages stand in three
pub record AreSplitRowsOf (db : Trees) (t : StoredTables) (added : AddedTables) : Type 0 where
  pub obeyed : AreKeptRows db
  pub stored : AreStored db t
  pub three : AreAddedStored db added

-- this is read of the tables of a store, whose messages stand in one row each
pub record AreRowsOf (db : Trees) (t : StoredTables) : Type 0 where
  pub obeyed : AreKeptRows db
  pub blank : AreEmpty added_tables db
  pub stored : AreStored db t

-- the world is that of the parts, and is as its types keep it
pub record IsMadeOf (kept_parts : WorldParts) (world : World) : Type 0 where
  pub stands : parts.StandFor kept_parts world
  pub sound : IsSound world
  pub kept : AreKept world.mailboxes
  pub lists : parts.AreLists world.mailboxes

-- each list is as its type keeps it
abbrev pub HasLists : List (Name × MailboxEntry) → Type 0
HasLists entries = AllByRecursion (λ e. IsAcl (e.1).acl) entries

-- nothing is kept by one of the rows, or no world is made of what is
abbrev pub IsUnmade : StoredTables → Type 0
IsUnmade t =
    (HasParts t → ⊥)
    ⊎ ((kept : WorldParts) × ArePartsFor t kept × ((world : World) → IsMadeOf kept world → ⊥))
