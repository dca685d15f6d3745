-- The rows of the tables as the store of trees has them: first the rowid.
use Rattle.std.specs.Prelude.{◌≡◌, ℤ, ℕ, pos, List, [], ◌∷◌, Bool, true, false, if◌then◌else◌}
use Rattle.std.specs.Prelude.{string_bytes}
use Rattle.std.specs.Global.{Global}
use Rattle.std.specs.declared.string.String.{String}
use Rattle.std.specs.Ordering.{is_eq}
use Rattle.sqlite.specs.declared.types.Value.{Value}
use Rattle.sqlite.specs.declared.types.Value.TheVariants.{Null, Int, Text as Words, Blob as Bytes}
use Rattle.sqlite.specs.Kind.{Kind}
use Rattle.sqlite.specs.Kind.TheVariants as kind
use Rattle.sqlite.specs.Order.{Row, value_cmp}
use Rattle.sqlite.specs.Table.{Table}
use Rattle.sqlite.specs.Tree.{Trees, rowid}
use Rattle.sqlite_rules.specs.Lists.{Has}
use Rattle.sqlite_schema.specs.declared.schema.Column.{Column}
use Rattle.imap_tables.specs.Tables.{store_tables}

-- the rowid of a mailbox's row is its column `id`, which then has no value of its own
abbrev pub mailbox_row : (id : ℤ) (tree path : List ℕ) (validity uidnext : ℕ) (shared : ℤ) → Row
mailbox_row id tree path validity uidnext shared =
    Int id ∷ Null ∷ Words tree ∷ Words path ∷ Int (pos validity) ∷ Int (pos uidnext) ∷ Int shared ∷ []

abbrev pub acl_row : (mailbox : ℤ) (identifier : List ℕ) (rights : ℕ) (rowid : ℤ) → Row
acl_row mailbox identifier rights rowid =
    Int rowid ∷ Int mailbox ∷ Words identifier ∷ Int (pos rights) ∷ []

abbrev pub message_row : (mailbox : ℤ) (uid : ℕ) (date octets : List ℕ) (flags : ℕ) (keywords : List ℕ)
    (place : ℤ) (rowid : ℤ) → Row
message_row mailbox uid date octets flags keywords place rowid =
    Int rowid ∷ Int mailbox ∷ Int (pos uid) ∷ Words date ∷ Bytes octets ∷ Int (pos flags) ∷ Words keywords
    ∷ Int place ∷ []

abbrev pub gone_row : (mailbox : ℤ) (uid : ℕ) (place : ℤ) (rowid : ℤ) → Row
gone_row mailbox uid place rowid = Int rowid ∷ Int mailbox ∷ Int (pos uid) ∷ Int place ∷ []

abbrev pub message2_row : (mailbox : ℤ) (uid : ℕ) (date : List ℕ) (flags : ℕ) (place : ℤ) (rowid : ℤ) → Row
message2_row mailbox uid date flags place rowid =
    Int rowid ∷ Int mailbox ∷ Int (pos uid) ∷ Words date ∷ Int (pos flags) ∷ Int place ∷ []

abbrev pub body_row : (mailbox : ℤ) (uid : ℕ) (octets : List ℕ) (rowid : ℤ) → Row
body_row mailbox uid octets rowid = Int rowid ∷ Int mailbox ∷ Int (pos uid) ∷ Bytes octets ∷ []

abbrev pub keyword_row : (mailbox : ℤ) (uid : ℕ) (word : List ℕ) (rowid : ℤ) → Row
keyword_row mailbox uid word rowid = Int rowid ∷ Int mailbox ∷ Int (pos uid) ∷ Words word ∷ []

-- 1 or 0
abbrev pub flag_of : Bool → ℤ
flag_of set = if set then pos 1 else pos 0

abbrev pub mark_row : (mailbox : ℤ) (user : List ℕ) (own before : ℤ) (uid : ℕ) (seen : Bool)
    (rowid : ℤ) → Row
mark_row mailbox user own before uid seen rowid =
    Int rowid ∷ Int mailbox ∷ Words user ∷ Int own ∷ Int before ∷ Int (pos uid) ∷ Int (flag_of seen) ∷ []

abbrev pub epoch_row : (tree path : List ℕ) (greatest : ℕ) (rowid : ℤ) → Row
epoch_row tree path greatest rowid = Int rowid ∷ Words tree ∷ Words path ∷ Int (pos greatest) ∷ []

abbrev pub sub_row : (user tree path : List ℕ) (rowid : ℤ) → Row
sub_row user tree path rowid = Int rowid ∷ Words user ∷ Words tree ∷ Words path ∷ []

abbrev pub meta_row : (key : List ℕ) (value : ℕ) (rowid : ℤ) → Row
meta_row key value rowid = Int rowid ∷ Words key ∷ Int (pos value) ∷ []

-- a row that shows a text alone
abbrev pub text_row : String Global → Row
text_row text = Words (string_bytes text) ∷ []

-- ---- tables that are in order

-- the value may stand in a column of this kind
abbrev pub IsOfKind : Kind → Value → Type 0
IsOfKind kind.Integer v = (n : ℤ) × (v ≡ Int n)
IsOfKind kind.Text v = (text : List ℕ) × (v ≡ Words text)
IsOfKind kind.Blob v = (octets : List ℕ) × (v ≡ Bytes octets)
IsOfKind _ v = ⊥

-- the column that is the rowid alone may be NULL, and is
abbrev pub IsInIf : (not_null : Bool) → Kind → Value → Type 0
IsInIf true kind v = IsOfKind kind v
IsInIf false kind v = v ≡ Null

abbrev pub IsIn : Column → Value → Type 0
IsIn c v = IsInIf c.not_null c.kind v

abbrev pub AreIn : List Column → Row → Type 0
AreIn [] values = values ≡ []
AreIn (c ∷ columns) [] = ⊥
AreIn (c ∷ columns) (v ∷ values) = IsIn c v × AreIn columns values

-- a rowid, and then a value for each column
abbrev pub IsRowOf : Table → Row → Type 0
IsRowOf table [] = ⊥
IsRowOf table (v ∷ values) = ((id : ℤ) × (v ≡ Int id)) × AreIn table.columns values

abbrev pub are_tied : Row → Row → Bool
are_tied a b = is_eq (value_cmp (rowid a) (rowid b))

-- no two rows have one rowid
abbrev pub AreApart : List Row → Type 0
AreApart [] = Unit {0}
AreApart (row ∷ rows) = ((other : Row) → Has rows other → are_tied row other ≡ false) × AreApart rows

-- each table has rows with its columns, and rowids that differ
pub record IsOrderly (db : Trees) : Type 0 where
  pub rows : (table : Table) → Has store_tables table → (row : Row) → Has (db table.tree) row
      → IsRowOf table row
  pub apart : (table : Table) → Has store_tables table → AreApart (db table.tree)
