-- What holds of messages in three tables.
use Rattle.std.specs.Prelude.{◌≡◌, ◌↔◌, ℕ, ℤ, List, []}
use Rattle.sqlite.specs.Order.{Row}
use Rattle.sqlite.specs.Table.{Table}
use Rattle.sqlite.specs.Tree.{Trees}
use Rattle.sqlite_rules.specs.Lists.{Has}
use Rattle.imap_tables.specs.Contents.{AllAddedShow, AllShow}
use Rattle.imap_tables.specs.Edits.{Adds, HasId, IsBelow, IsEpochOf, IsMarkOf, IsMessageOf, IsMetaOf}
use Rattle.imap_tables.specs.Edits.{IsNamed, IsSubOf, Removes, RemovesMailboxes, Replaces}
use Rattle.imap_message_tables.specs.Parts.{AddsOne, FlagsOne, MakesParts, RemovesOne}
use Rattle.imap_message_tables.specs.Parts.{parts_added, parts_flagged, parts_removed}
use Rattle.imap_message_tables.specs.Split.{AreWords, IsOther, IsSplit, Stands, Whole}
use Rattle.imap_tables.specs.Tables.{body_tree, keyword_tree, message2_tree, message_tree, store_tables}

-- one table at most fits, whatever the order of its rows
abbrev pub FitsOne : Type 0
FitsOne =
    (db one other : Trees) → IsSplit db one → IsSplit db other
    → (table : Table) → Has store_tables table → (row : Row)
    → Has (one table.tree) row ↔ Has (other table.tree) row

-- Rows of tables that fit one table can be read, if all rows of that table and the others can.
abbrev pub SplitShows : Type 0
SplitShows = (db one : Trees) → IsSplit db one → AllShow one → AllShow db × AllAddedShow db

-- tables without a message are those of the same tables, as those of a new store
abbrev pub EmptyFits : Type 0
EmptyFits =
    (db : Trees) → db message_tree ≡ [] → db message2_tree ≡ [] → db body_tree ≡ [] → db keyword_tree ≡ []
    → IsSplit db db

-- a message is added, under a UID that no row has
abbrev pub AddedFits : Type 0
AddedFits =
    (old new one : Trees) (mailbox : ℤ) (uid : ℕ) (date octets : List ℕ) (flags : ℕ)
    (words : List (List ℕ)) (place : ℤ)
    → AreWords words → ((row : Row) → Has (old message2_tree) row → IsMessageOf mailbox uid row → ⊥)
    → IsSplit old one → MakesParts mailbox uid (parts_added date octets flags words place) old new
    → (next : Trees) × IsSplit new next × AddsOne mailbox uid date octets flags words place one next

-- a message that stands there gets flags
abbrev pub FlaggedFits : Type 0
FlaggedFits =
    (old new one : Trees) (m : Whole) (flags : ℕ) (words : List (List ℕ)) (place : ℤ)
    → AreWords words → Stands old m → IsSplit old one
    → MakesParts m.mailbox m.uid (parts_flagged m.words flags words place) old new
    → (next : Trees) × IsSplit new next × FlagsOne m.mailbox m.uid flags words place one next

abbrev pub RemovedFits : Type 0
RemovedFits =
    (old new one : Trees) (mailbox : ℤ) (uid : ℕ) → IsSplit old one
    → MakesParts mailbox uid parts_removed old new
    → (next : Trees) × IsSplit new next × RemovesOne mailbox uid one next

-- mailboxes go with all that is below them
abbrev pub CascadeFits : Type 0
CascadeFits =
    (old new one : Trees) (tree path : List ℕ)
    → IsSplit old one → RemovesMailboxes old new (IsNamed tree path)
    → (next : Trees) × IsSplit new next × RemovesMailboxes one next (IsNamed tree path)

-- rows that a statement looks for in another table
pub data Test : Type 0 where
  Below : (mailbox : ℤ) → Test
  Named : (tree path : List ℕ) → Test
  OfId : (mailbox : ℤ) → Test
  OfEpoch : (tree path : List ℕ) → Test
  OfSub : (user tree path : List ℕ) → Test
  OfMark : (mailbox : ℤ) (user : List ℕ) (own : ℤ) → Test
  OfMeta : (key : List ℕ) → Test

abbrev pub Passes : Test → Row → Type 0
Passes (Below mailbox) = IsBelow mailbox
Passes (Named tree path) = IsNamed tree path
Passes (OfId mailbox) = HasId mailbox
Passes (OfEpoch tree path) = IsEpochOf tree path
Passes (OfSub user tree path) = IsSubOf user tree path
Passes (OfMark mailbox user own) = IsMarkOf mailbox user own
Passes (OfMeta key) = IsMetaOf key

-- a change of another table is one of the same table
abbrev pub OthersFit : Type 0
OthersFit =
    (old new one : Trees) (table : Table) → Has store_tables table → IsOther table.tree → IsSplit old one
    → ((row_at : ℤ → Row) → Adds old new table.tree row_at
    → (next : Trees) × IsSplit new next × Adds one next table.tree row_at)
    × ((t : Test) (heir : Row → Row) → Replaces old new table.tree (Passes t) heir
    → (next : Trees) × IsSplit new next × Replaces one next table.tree (Passes t) heir)
    × ((t : Test) → Removes old new table.tree (Passes t)
    → (next : Trees) × IsSplit new next × Removes one next table.tree (Passes t))
