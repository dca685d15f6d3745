-- The tables of a store as they are read, with each message in one row.
use Rattle.std.specs.Prelude.{List, map}
use Rattle.std.specs.List.{AllZip}
use Rattle.sqlite.specs.Tree.{Trees}
use Rattle.imap_message_tables.specs.Joining.{AreJoined, Fit}
use Rattle.imap_message_tables.specs.Loading.{row_of_message}
use Rattle.imap_message_tables.specs.Split.{AreKeyed, IsSplit}
use Rattle.imap_message_tables.specs.Unique.{AreInOrder}
use Rattle.imap_message_tables.specs.declared.joined.JoinedMessage.{JoinedMessage}
use Rattle.imap_tables.specs.Contents.{AreAddedApart, AreAddedStored, AreNumbersApart, AreStored}
use Rattle.imap_tables.specs.Stored.{IsMessage}
use Rattle.imap_tables.specs.declared.stored.StoredMessage.{StoredMessage}
use Rattle.imap_tables.specs.declared.tables.AddedTables.{AddedTables}
use Rattle.imap_tables.specs.declared.tables.StoredTables.{StoredTables}

-- the message as it is read of its row in one table
abbrev pub IsInOneRow : JoinedMessage → StoredMessage → Type 0
IsInOneRow m stored = IsMessage (row_of_message m) stored

-- this is read of the tables of a store, where no two rows of a table of messages have one key
pub record AreTablesOf (db : Trees) (t : StoredTables) (added : AddedTables) : Type 0 where
  pub first : AreStored db t
  pub three : AreAddedStored db added
  pub distinct : AreAddedApart added
  pub order : AreInOrder db
  pub keyed : AreKeyed db

-- the rows of the three tables fit, and these are the messages that they are
pub record AreInOneRow (added : AddedTables) (messages : List StoredMessage) : Type 0 where
  pub fit : Fit added.heads.items added.bodies.items added.keywords.items
  pub joined : List JoinedMessage
  pub are : AreJoined added.heads.items added.bodies.items added.keywords.items joined
  pub each : AllZip IsInOneRow joined messages

-- this is read of the tables with one table of messages that fits
pub record IsReadInOne (db : Trees) (joined : StoredTables) : Type 0 where
  pub one : Trees
  pub split : IsSplit db one
  pub stored : AreStored one joined
  pub distinct : AreNumbersApart (map (λ it. it.rowid) joined.messages.items)

-- what is read of tables is this, with each message in one row
abbrev pub IsJoinOf : (t : StoredTables) (added : AddedTables) (joined : StoredTables) → Type 0
IsJoinOf t added joined = (db : Trees) → AreTablesOf db t added → IsReadInOne db joined

-- of such tables no table fits
abbrev pub FitNone : (t : StoredTables) (added : AddedTables) → Type 0
FitNone t added = (db one : Trees) → AreTablesOf db t added → IsSplit db one → ⊥
