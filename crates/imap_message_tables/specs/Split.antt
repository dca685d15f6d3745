-- A database whose messages stand in three tables, and the same as if they stood in one.
use Rattle.std.specs.Prelude.{◌≡◌, ◌≢◌, ◌↔◌, ℕ, ℤ, List, []}
use Rattle.std.specs.List.{AllByRecursion, join_with_byte}
use Rattle.sqlite.specs.Order.{Row, column}
use Rattle.sqlite.specs.Table.{Table}
use Rattle.sqlite.specs.Tree.{Trees}
use Rattle.sqlite_rules.specs.Lists.{Has}
pub use Rattle.imap_syntax.specs.Keywords.{AreRising, IsBefore}
use Rattle.imap_tables.specs.Rows.{body_row, keyword_row, message2_row, message_row}
use Rattle.imap_tables.specs.Tables.{body_tree, keyword_tree, message2_tree, message_tree, store_tables}

-- ---- keywords of a message, which stand in the order of their octets

abbrev pub IsSpaceless : (word : List ℕ) → Type 0
IsSpaceless word = Has word 32 → ⊥

-- it isn't empty and has no space: else the text that joins several words isn't theirs alone
pub record IsPlain (word : List ℕ) : Type 0 where
  pub filled : word ≢ []
  pub spaceless : IsSpaceless word

-- the words of a message, in the order of their octets
pub record AreWords (words : List (List ℕ)) : Type 0 where
  pub rising : AreRising words
  pub plain : AllByRecursion IsPlain words

abbrev pub words_text : List (List ℕ) → List ℕ
words_text words = join_with_byte 32 words

-- ---- one message

-- a message as it stands in the tables, with the rowid of its row in `message2`
pub record Whole : Type 0 where
  pub mailbox : ℤ
  pub uid : ℕ
  pub date : List ℕ
  pub octets : List ℕ
  pub flags : ℕ
  pub words : List (List ℕ)
  pub place : ℤ
  pub rowid : ℤ

-- its row in the one table
abbrev pub one_of : Whole → Row
one_of m = message_row m.mailbox m.uid m.date m.octets m.flags (words_text m.words) m.place m.rowid

-- its rows in the three tables
abbrev pub head_of : Whole → Row
head_of m = message2_row m.mailbox m.uid m.date m.flags m.place m.rowid

abbrev pub body_of : Whole → (id : ℤ) → Row
body_of m id = body_row m.mailbox m.uid m.octets id

abbrev pub word_of : Whole → (word : List ℕ) (id : ℤ) → Row
word_of m word id = keyword_row m.mailbox m.uid word id

-- two rows are of one message
abbrev pub AreOfOne : Row → Row → Type 0
AreOfOne a b = (column a 1 ≡ column b 1) × (column a 2 ≡ column b 2)

-- the tree is none of those of messages
abbrev pub IsOther : (tree : ℕ) → Type 0
IsOther tree = (tree ≢ message_tree) × (tree ≢ message2_tree) × (tree ≢ body_tree) × (tree ≢ keyword_tree)

module _ (db : Trees) where
  -- the message stands in the three tables: its keyword rows are its words and no other
  pub record Stands (m : Whole) : Type 0 where
    pub head : Has (db message2_tree) (head_of m)
    pub body : (id : ℤ) × Has (db body_tree) (body_of m id)
    pub are_words : AreWords m.words
    pub words : (word : List ℕ) → Has m.words word ↔ ((id : ℤ) × Has (db keyword_tree) (word_of m word id))

  -- no two rows have one key, as the unique indexes of the three tables have it
  pub record AreKeyed : Type 0 where
    pub heads : (a b : Row) → Has (db message2_tree) a → Has (db message2_tree) b → AreOfOne a b → a ≡ b
    pub bodies : (a b : Row) → Has (db body_tree) a → Has (db body_tree) b → AreOfOne a b → a ≡ b
    pub words : (a b : Row) → Has (db keyword_tree) a → Has (db keyword_tree) b → AreOfOne a b
        → column a 3 ≡ column b 3 → a ≡ b

  -- the row is part of a message that stands in the three tables
  pub record IsHead (row : Row) : Type 0 where
    pub whole : Whole
    pub stands : Stands whole
    pub shown : row ≡ head_of whole

  pub record IsBody (row : Row) : Type 0 where
    pub whole : Whole
    pub stands : Stands whole
    pub id : ℤ
    pub shown : row ≡ body_of whole id

  pub record IsWord (row : Row) : Type 0 where
    pub whole : Whole
    pub stands : Stands whole
    pub word : List ℕ
    pub id : ℤ
    pub shown : row ≡ word_of whole word id

  -- the row is that of such a message, if it stood in one table
  pub record IsOne (row : Row) : Type 0 where
    pub whole : Whole
    pub stands : Stands whole
    pub shown : row ≡ one_of whole

  -- `one` is the same with the messages in one table
  pub record IsSplit (one : Trees) : Type 0 where
    pub empty : db message_tree ≡ []
    pub blank : (one message2_tree ≡ []) × (one body_tree ≡ []) × (one keyword_tree ≡ [])
    pub others : (table : Table) → Has store_tables table → IsOther table.tree
        → one table.tree ≡ db table.tree
    pub keyed : AreKeyed
    pub rows : (row : Row) → Has (one message_tree) row ↔ IsOne row
    -- nothing is left over: no message without a body, no body or keyword without a message
    pub heads : (row : Row) → Has (db message2_tree) row → IsHead row
    pub bodies : (row : Row) → Has (db body_tree) row → IsBody row
    pub words : (row : Row) → Has (db keyword_tree) row → IsWord row

-- whatever one table fits before, R makes of it one that fits after
abbrev pub MakesSplit : (R : Trees → Trees → Type 0) → (old new : Trees) → Type 0
MakesSplit R old new = (one : Trees) → IsSplit old one → (next : Trees) × IsSplit new next × R one next
