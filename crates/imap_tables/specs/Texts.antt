-- The texts that make the tables, in turn.
use Rattle.std.specs.Prelude.{ℕ, List, [], ◌∷◌, ◌++◌, codes, take, slice_index_or}
use Rattle.sqlite.specs.Table.{Table}
use Rattle.sqlite.specs.Schema.{Schema}
use Rattle.imap_tables.specs.Tables.{store_schema, mailbox_table}

abbrev pub create_mailbox : List ℕ
create_mailbox =
    codes "CREATE TABLE mailbox (id INTEGER PRIMARY KEY, tree TEXT NOT NULL, "
    ++ codes "path TEXT NOT NULL, validity INTEGER NOT NULL, uidnext INTEGER NOT NULL, "
    ++ codes "shared INTEGER NOT NULL, UNIQUE (tree, path)) STRICT"

abbrev pub create_acl : List ℕ
create_acl =
    codes "CREATE TABLE acl (mailbox INTEGER NOT NULL REFERENCES mailbox (id) ON DELETE CASCADE, "
    ++ codes "identifier TEXT NOT NULL, rights INTEGER NOT NULL, PRIMARY KEY (mailbox, "
    ++ codes "identifier)) STRICT"

abbrev pub create_message : List ℕ
create_message =
    codes "CREATE TABLE message (mailbox INTEGER NOT NULL REFERENCES mailbox (id) ON DELETE CASCADE, "
    ++ codes "uid INTEGER NOT NULL, date TEXT NOT NULL, octets BLOB NOT NULL, "
    ++ codes "flags INTEGER NOT NULL, keywords TEXT NOT NULL, place INTEGER NOT NULL, "
    ++ codes "PRIMARY KEY (mailbox, uid)) STRICT"

abbrev pub create_gone : List ℕ
create_gone =
    codes "CREATE TABLE gone (mailbox INTEGER NOT NULL REFERENCES mailbox (id) ON DELETE CASCADE, "
    ++ codes "uid INTEGER NOT NULL, place INTEGER NOT NULL, PRIMARY KEY (mailbox, uid)) STRICT"

abbrev pub create_mark : List ℕ
create_mark =
    codes "CREATE TABLE mark (mailbox INTEGER NOT NULL REFERENCES mailbox (id) ON DELETE CASCADE, "
    ++ codes "user TEXT NOT NULL, own INTEGER NOT NULL, before INTEGER NOT NULL, "
    ++ codes "uid INTEGER NOT NULL, seen INTEGER NOT NULL, PRIMARY KEY (mailbox, user, "
    ++ codes "own)) STRICT"

abbrev pub create_epoch : List ℕ
create_epoch =
    codes "CREATE TABLE epoch (tree TEXT NOT NULL, path TEXT NOT NULL, "
    ++ codes "greatest INTEGER NOT NULL, PRIMARY KEY (tree, path)) STRICT"

abbrev pub create_sub : List ℕ
create_sub =
    codes "CREATE TABLE sub (user TEXT NOT NULL, tree TEXT NOT NULL, path TEXT NOT NULL, "
    ++ codes "PRIMARY KEY (user, tree, path)) STRICT"

abbrev pub create_meta : List ℕ
create_meta =
    codes "CREATE TABLE meta (key TEXT NOT NULL PRIMARY KEY, value INTEGER NOT NULL) STRICT"

abbrev pub create_message2 : List ℕ
create_message2 =
    codes "CREATE TABLE message2 (mailbox INTEGER NOT NULL REFERENCES mailbox (id) ON DELETE CASCADE, "
    ++ codes "uid INTEGER NOT NULL, date TEXT NOT NULL, flags INTEGER NOT NULL, "
    ++ codes "place INTEGER NOT NULL, PRIMARY KEY (mailbox, uid)) STRICT"

abbrev pub create_body : List ℕ
create_body =
    codes "CREATE TABLE body (mailbox INTEGER NOT NULL REFERENCES mailbox (id) ON DELETE CASCADE, "
    ++ codes "uid INTEGER NOT NULL, octets BLOB NOT NULL, PRIMARY KEY (mailbox, uid)) STRICT"

abbrev pub create_keyword : List ℕ
create_keyword =
    codes "CREATE TABLE keyword (mailbox INTEGER NOT NULL REFERENCES mailbox (id) ON DELETE CASCADE, "
    ++ codes "uid INTEGER NOT NULL, word TEXT NOT NULL, PRIMARY KEY (mailbox, uid, word)) STRICT"

abbrev pub text_at : ℕ → List ℕ
text_at n =
    slice_index_or
    (create_mailbox ∷ create_acl ∷ create_message ∷ create_gone ∷ create_mark ∷ create_epoch ∷ create_sub
    ∷ create_meta ∷ create_message2 ∷ create_body ∷ create_keyword ∷ []) n []

abbrev pub table_at : ℕ → Table
table_at n = slice_index_or store_schema.tables n mailbox_table

-- each table has one index, so the schema grows by one of each
abbrev pub schema_at : ℕ → Schema
schema_at n =
    record { tables = take n store_schema.tables; indexes = take n store_schema.indexes; views = [] }

-- that of the first version, which had each message in one row
abbrev pub first_schema : Schema
first_schema = schema_at 8
