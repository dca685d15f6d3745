-- The tables of a store. Whole numbers, texts and octets alone, none of them NULL.
use Rattle.std.specs.Prelude.{ℕ, Bool, if◌then◌else◌, true, false, List, [], ◌∷◌, codes, Some, None}
use Rattle.sqlite.specs.Collation.TheVariants.{Binary}
use Rattle.sqlite.specs.declared.types.Value.TheVariants.{Null}
use Rattle.sqlite.specs.Table.{Table}
use Rattle.sqlite.specs.Schema.{Schema}
use Rattle.sqlite.specs.Kind.{Kind}
use Rattle.sqlite.specs.Kind.TheVariants.{Integer, Text, Blob}
use Rattle.sqlite_schema.specs.declared.schema.Column.{Column}
use Rattle.sqlite_schema.specs.declared.schema.Action.TheVariants.{Cascade, NoAction}
use Rattle.sqlite_schema.specs.declared.schema.Reference.{Reference}
use Rattle.sqlite_schema.specs.declared.schema.Index.{Index}

-- ---- the trees of the tables; the one after each is that of its index

abbrev pub mailbox_tree : ℕ
mailbox_tree = 0

abbrev pub acl_tree : ℕ
acl_tree = 2

abbrev pub message_tree : ℕ
message_tree = 4

abbrev pub gone_tree : ℕ
gone_tree = 6

abbrev pub mark_tree : ℕ
mark_tree = 8

abbrev pub epoch_tree : ℕ
epoch_tree = 10

abbrev pub sub_tree : ℕ
sub_tree = 12

abbrev pub meta_tree : ℕ
meta_tree = 14

abbrev pub message2_tree : ℕ
message2_tree = 16

abbrev pub body_tree : ℕ
body_tree = 18

abbrev pub keyword_tree : ℕ
keyword_tree = 20

-- ---- the tables

abbrev pub column_of : Kind → List ℕ → Column
column_of kind name = record {
  name = name;
  kind = kind;
  is_strict = true;
  not_null = true;
  default = Null;
  collation = Binary;
}

-- a table of columns that are not null; its key is the columns `primary`
abbrev pub table_of : List ℕ → ℕ → List Column → List ℕ → List Reference → Table
table_of name tree columns primary references = record {
  name = name;
  tree = tree;
  columns = columns;
  key = None;
  primary = primary;
  uniques = primary ∷ [];
  orders = (record { digits = 0 }) ∷ [];
  checks = [];
  references = references;
  computed = [];
  stamps = record { places = []; terms = []; formats = [] };
  is_counted = false;
}

-- the column that is the rowid
abbrev pub id_column : Column
id_column = record {
  name = codes "id";
  kind = Integer;
  is_strict = true;
  not_null = false;
  default = Null;
  collation = Binary;
}

-- a mailbox; no two have one tree and path
abbrev pub mailbox_table : Table
mailbox_table = record {
  name = codes "mailbox";
  tree = mailbox_tree;
  columns = id_column ∷ column_of Text (codes "tree") ∷ column_of Text (codes "path")
      ∷ column_of Integer (codes "validity") ∷ column_of Integer (codes "uidnext")
      ∷ column_of Integer (codes "shared") ∷ [];
  key = Some 0;
  primary = 0 ∷ [];
  uniques = (2 ∷ 3 ∷ []) ∷ [];
  orders = (record { digits = 0 }) ∷ [];
  checks = [];
  references = [];
  computed = [];
  stamps = record { places = []; terms = []; formats = [] };
  is_counted = false;
}

-- what is below a mailbox goes with it
abbrev pub to_mailbox : Reference
to_mailbox = record {
  columns = 1 ∷ [];
  parent = codes "mailbox";
  parent_columns = codes "id" ∷ [];
  on_delete = Cascade;
  on_update = NoAction;
  is_deferred = false;
}

abbrev pub references_of : Bool → List Reference
references_of is_below = if is_below then to_mailbox ∷ [] else []

-- a table below a mailbox
abbrev pub child_table : List ℕ → ℕ → List Column → List ℕ → Table
child_table name tree columns key =
    table_of name tree (column_of Integer (codes "mailbox") ∷ columns) (1 ∷ key) (to_mailbox ∷ [])

-- an entry of an access control list
abbrev pub acl_table : Table
acl_table =
    child_table (codes "acl") acl_tree
    (column_of Text (codes "identifier") ∷ column_of Integer (codes "rights") ∷ []) (2 ∷ [])

-- a message that is there, in one row, as the first version has it; now the table is empty
abbrev pub message_table : Table
message_table =
    child_table (codes "message") message_tree
    (column_of Integer (codes "uid") ∷ column_of Text (codes "date") ∷ column_of Blob (codes "octets")
    ∷ column_of Integer (codes "flags") ∷ column_of Text (codes "keywords")
    ∷ column_of Integer (codes "place") ∷ []) (2 ∷ [])

-- a message that was expunged
abbrev pub gone_table : Table
gone_table =
    child_table (codes "gone") gone_tree
    (column_of Integer (codes "uid") ∷ column_of Integer (codes "place") ∷ []) (2 ∷ [])

-- a user's change of his own \Seen
abbrev pub mark_table : Table
mark_table =
    child_table (codes "mark") mark_tree
    (column_of Text (codes "user") ∷ column_of Integer (codes "own") ∷ column_of Integer (codes "before")
    ∷ column_of Integer (codes "uid") ∷ column_of Integer (codes "seen") ∷ []) (2 ∷ 3 ∷ [])

-- the greatest UIDVALIDITY that was used under a name
abbrev pub epoch_table : Table
epoch_table =
    table_of (codes "epoch") epoch_tree
    (column_of Text (codes "tree") ∷ column_of Text (codes "path")
    ∷ column_of Integer (codes "greatest") ∷ []) (1 ∷ 2 ∷ []) []

-- a name to which a user subscribed
abbrev pub sub_table : Table
sub_table =
    table_of (codes "sub") sub_tree
    (column_of Text (codes "user") ∷ column_of Text (codes "tree") ∷ column_of Text (codes "path") ∷ [])
    (1 ∷ 2 ∷ 3 ∷ []) []

-- what is said of the store as a whole
abbrev pub meta_table : Table
meta_table =
    table_of (codes "meta") meta_tree (column_of Text (codes "key") ∷ column_of Integer (codes "value") ∷ [])
    (1 ∷ []) []

-- a message that is there, without its octets and keywords
abbrev pub message2_table : Table
message2_table =
    child_table (codes "message2") message2_tree
    (column_of Integer (codes "uid") ∷ column_of Text (codes "date") ∷ column_of Integer (codes "flags")
    ∷ column_of Integer (codes "place") ∷ []) (2 ∷ [])

-- its octets
abbrev pub body_table : Table
body_table =
    child_table (codes "body") body_tree
    (column_of Integer (codes "uid") ∷ column_of Blob (codes "octets") ∷ []) (2 ∷ [])

-- one of its keywords
abbrev pub keyword_table : Table
keyword_table =
    child_table (codes "keyword") keyword_tree
    (column_of Integer (codes "uid") ∷ column_of Text (codes "word") ∷ []) (2 ∷ 3 ∷ [])

abbrev pub index_of : List ℕ → ℕ → ℕ → List ℕ → Index
index_of name tree table columns = record {
  name = name;
  tree = tree;
  table = table;
  columns = columns;
  order = record { digits = 0 };
  is_unique = true;
}

-- the three tables of messages, which the second version added
abbrev pub added_tables : List Table
added_tables = message2_table ∷ body_table ∷ keyword_table ∷ []

abbrev pub store_tables : List Table
store_tables =
    mailbox_table ∷ acl_table ∷ message_table ∷ gone_table ∷ mark_table ∷ epoch_table ∷ sub_table
    ∷ meta_table ∷ message2_table ∷ body_table ∷ keyword_table ∷ []

abbrev pub added_indexes : List Index
added_indexes =
    index_of (codes "sqlite_autoindex_message2_1") 17 message2_tree (1 ∷ 2 ∷ [])
    ∷ index_of (codes "sqlite_autoindex_body_1") 19 body_tree (1 ∷ 2 ∷ [])
    ∷ index_of (codes "sqlite_autoindex_keyword_1") 21 keyword_tree (1 ∷ 2 ∷ 3 ∷ []) ∷ []

abbrev pub store_indexes : List Index
store_indexes =
    index_of (codes "sqlite_autoindex_mailbox_1") 1 mailbox_tree (2 ∷ 3 ∷ [])
    ∷ index_of (codes "sqlite_autoindex_acl_1") 3 acl_tree (1 ∷ 2 ∷ [])
    ∷ index_of (codes "sqlite_autoindex_message_1") 5 message_tree (1 ∷ 2 ∷ [])
    ∷ index_of (codes "sqlite_autoindex_gone_1") 7 gone_tree (1 ∷ 2 ∷ [])
    ∷ index_of (codes "sqlite_autoindex_mark_1") 9 mark_tree (1 ∷ 2 ∷ 3 ∷ [])
    ∷ index_of (codes "sqlite_autoindex_epoch_1") 11 epoch_tree (1 ∷ 2 ∷ [])
    ∷ index_of (codes "sqlite_autoindex_sub_1") 13 sub_tree (1 ∷ 2 ∷ 3 ∷ [])
    ∷ index_of (codes "sqlite_autoindex_meta_1") 15 meta_tree (1 ∷ [])
    ∷ index_of (codes "sqlite_autoindex_message2_1") 17 message2_tree (1 ∷ 2 ∷ [])
    ∷ index_of (codes "sqlite_autoindex_body_1") 19 body_tree (1 ∷ 2 ∷ [])
    ∷ index_of (codes "sqlite_autoindex_keyword_1") 21 keyword_tree (1 ∷ 2 ∷ 3 ∷ []) ∷ []

abbrev pub store_schema : Schema
store_schema = record { tables = store_tables; indexes = store_indexes; views = [] }

abbrev pub no_schema : Schema
no_schema = record { tables = []; indexes = []; views = [] }

-- the tables below a mailbox
abbrev pub tables_below : List Table
tables_below =
    acl_table ∷ message_table ∷ gone_table ∷ mark_table ∷ message2_table ∷ body_table ∷ keyword_table ∷ []
