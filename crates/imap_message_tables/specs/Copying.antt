-- A database of the first version is taken over: its one table of messages is emptied, and each row of it is
-- added to the three.
use Rattle.std.specs.Prelude.{◌≡◌, ◌↔◌, ℤ, pos, List, [], ◌∷◌, string_bytes}
use Rattle.sqlite.specs.declared.types.Value.TheVariants.{Int, Text as Words, Blob as Bytes}
use Rattle.sqlite.specs.Order.{Row}
use Rattle.sqlite.specs.Table.{Table}
use Rattle.sqlite.specs.Tree.{Trees}
use Rattle.sqlite_rules.specs.Lists.{Has}
use Rattle.imap_message_tables.specs.Split.{IsOther, IsSplit}
use Rattle.imap_message_tables.specs.Writing.{WritesBelow}
use Rattle.imap_tables.specs.Tables.{store_tables}
use Rattle.imap_tables.specs.declared.changes.ChangeBelow.TheVariants as below
use Rattle.imap_tables.specs.declared.stored.StoredMessage.{StoredMessage}

-- the values of its row in the one table, after the rowid
abbrev pub values_of : StoredMessage → Row
values_of m =
    Int m.mailbox ∷ Int (pos m.row.uid) ∷ Words (string_bytes m.row.date) ∷ Bytes m.row.octets
    ∷ Int (pos m.row.flags) ∷ Words (string_bytes m.row.keywords) ∷ Int m.row.place ∷ []

-- the message is added to the three tables
abbrev pub CopiesRow : StoredMessage → (old new : Trees) → Type 0
CopiesRow m old new = WritesBelow m.mailbox (below.AddMessage m.row) old new

abbrev pub CopiesRows : List StoredMessage → (old new : Trees) → Type 0
CopiesRows [] old new = new ≡ old
CopiesRows (m ∷ ms) old new = (mid : Trees) × CopiesRow m old mid × CopiesRows ms mid new

-- the rows are those of these messages and no other, each with some rowid
pub record AreRowsFor (rows : List Row) (messages : List StoredMessage) : Type 0 where
  pub sound : (row : Row) → Has rows row
      → (n : ℤ) × (m : StoredMessage) × Has messages m × (row ≡ Int n ∷ values_of m)
  pub complete : (m : StoredMessage) → Has messages m → (n : ℤ) × Has rows (Int n ∷ values_of m)

-- the tables of messages are empty, and the others are as before
pub record IsEmptied (old new : Trees) : Type 0 where
  pub message : new 4 ≡ []
  pub heads : new 16 ≡ []
  pub bodies : new 18 ≡ []
  pub words : new 20 ≡ []
  pub others : (table : Table) → Has store_tables table → IsOther table.tree
      → new table.tree ≡ old table.tree

-- the same rows up to the rowids of messages, and the same other tables
pub record IsSameButRowids (old one : Trees) : Type 0 where
  pub others : (table : Table) → Has store_tables table → IsOther table.tree
      → one table.tree ≡ old table.tree
  pub rows : (values : Row)
      → ((n : ℤ) × Has (one 4) (Int n ∷ values)) ↔ ((n : ℤ) × Has (old 4) (Int n ∷ values))

-- All rows of the one table are copied.
abbrev pub RowsAreCopied : Type 0
RowsAreCopied =
    (old emptied new : Trees) (messages : List StoredMessage)
    → AreRowsFor (old 4) messages → IsEmptied old emptied → CopiesRows messages emptied new
    → (one : Trees) × IsSplit new one × IsSameButRowids old one
