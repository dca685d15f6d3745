-- The rows of a store, by what is read of them.
use Rattle.std.proofs.Common.{◌≡◌, ◌≤◌, ◌+◌, ◌&&◌, not, ℕ, ℤ, true, List, [], ◌∷◌, drop, length, Option, Some, refl, ap, arith}
use Rattle.std.specs.List.{AllByRecursion, list_all}
use Rattle.std.proofs.lemmas.Bool.{and_parts}
use Rattle.sqlite.specs.Effect.{IsDatabase}
use Rattle.sqlite.specs.Order.{Row, column}
use Rattle.sqlite.specs.Table.{Table}
use Rattle.sqlite.specs.Tree.{Trees}
use Rattle.sqlite.specs.declared.types.Value.{Value}
use Rattle.sqlite.specs.declared.types.Value.TheVariants.{Null, Int, Real, Text as Words, Blob as Bytes}
use Rattle.sqlite_rules.specs.Lists.{Has}
use Rattle.sqlite_rules.proofs.ListLemmas.{all_has}
use Rattle.sqlite.specs.Ops.{is_null}
use Rattle.sqlite_schema.specs.Rules.{are_typed, clashes, guards, has_computed, passes}
use Rattle.sqlite_schema.specs.declared.schema.Column.{Column}
use Rattle.sqlite_schema.specs.declared.schema.Constraint.TheVariants.{Datatype, Unique}
use Rattle.imap_restore.specs.Holding.{AreKeptRows}
use Rattle.imap_tables.specs.Reading.{shown_at}
use Rattle.imap_tables.specs.Rows.{acl_row, epoch_row, gone_row, mailbox_row, mark_row, message_row, meta_row, sub_row}
use Rattle.imap_tables.specs.Stored.{IsEntry, IsEpoch, IsGone, IsMailbox, IsMark, IsMessage, IsMeta, IsSubscription}
use Rattle.imap_tables.specs.Tables.{mailbox_table, store_indexes, store_schema, store_tables}
use Rattle.imap_tables.specs.declared.stored.StoredEntry.{StoredEntry}
use Rattle.imap_tables.specs.declared.stored.StoredEpoch.{StoredEpoch}
use Rattle.imap_tables.specs.declared.stored.StoredGone.{StoredGone}
use Rattle.imap_tables.specs.declared.stored.StoredMailbox.{StoredMailbox}
use Rattle.imap_tables.specs.declared.stored.StoredSeenFlag.{StoredSeenFlag}
use Rattle.imap_tables.specs.declared.stored.StoredMessage.{StoredMessage}
use Rattle.imap_tables.specs.declared.stored.StoredMeta.{StoredMeta}
use Rattle.imap_tables.specs.declared.stored.StoredSubscription.{StoredSubscription}
use Rattle.std.specs.Prelude.{string_bytes}

-- ---- rows are no longer than their table is wide

typed_length : (key : Option ℕ) (at : ℕ) (cs : List Column) (vs : Row) → are_typed key at cs vs ≡ true → length vs ≤ length cs
typed_length key at [] [] h = omega (arith)
typed_length key at [] (v ∷ vs) h = absurd (cc h)
typed_length key at (c ∷ cs) [] h = omega (arith)
typed_length key at (c ∷ cs) (v ∷ vs) h = let rest = typed_length key (at + 1) cs vs (and_parts _ _ h).1 in omega (arith, rest)

-- the rows of a database obey its schema
typed_by : (db : Trees) → IsDatabase (record { schema = store_schema; trees = db }) → (table : Table) → Has store_tables table → (row : Row) → Has (db table.tree) row
    → are_typed table.key 0 table.columns (drop 1 row) ≡ true
typed_by db is table listed row h =
    (and_parts _ (has_computed table row)
    (all_has (λ r. passes Datatype store_schema db table r ≡ true) (db table.tree) row
    (all_has (λ (t : Table). AllByRecursion (λ r. passes Datatype store_schema db t r ≡ true) (db t.tree)) store_tables table (is.obeys.rules Datatype) listed) h)).0

pub typed : (db : Trees) → AreKeptRows db → (table : Table) → Has store_tables table → (row : Row) → Has (db table.tree) row → are_typed table.key 0 table.columns (drop 1 row) ≡ true
typed db is table listed row h = is.typed table listed row h

-- and no two agree in a key
unique_by : (db : Trees) → IsDatabase (record { schema = store_schema; trees = db }) → (table : Table) → Has store_tables table → (row : Row) → Has (db table.tree) row
    → list_all (λ i. not (guards i table && clashes i.order i.columns (db table.tree) row)) store_indexes ≡ true
unique_by db is table listed row h =
    all_has (λ r. passes Unique store_schema db table r ≡ true) (db table.tree) row
    (all_has (λ (t : Table). AllByRecursion (λ r. passes Unique store_schema db t r ≡ true) (db t.tree)) store_tables table (is.obeys.rules Unique) listed) h

pub kept_rows : (db : Trees) → IsDatabase (record { schema = store_schema; trees = db }) → AreKeptRows db
kept_rows db is = record { typed = typed_by db is; unique = unique_by db is }

pub few : (db : Trees) → AreKeptRows db → (table : Table) → Has store_tables table → (row : Row) → Has (db table.tree) row → length (drop 1 row) ≤ length table.columns
few db is table listed row h = typed_length table.key 0 table.columns (drop 1 row) (typed db is table listed row h)

pub null_int : (n : ℤ) → Null ≡ Int n → ⊥
null_int n e = cc e

pub null_words : (t : List ℕ) → Null ≡ Words t → ⊥
null_words t e = cc e

pub entry_form : (row : Row) (x : StoredEntry) → length (drop 1 row) ≤ 3 → IsEntry (shown_at 1 row) x → row ≡ acl_row x.mailbox (string_bytes x.identifier) x.rights x.rowid
entry_form [] x low is = absurd (null_int _ (ap (λ r. column r 3) is.0))
entry_form (a ∷ []) x low is = absurd (null_int _ (ap (λ r. column r 3) is.0))
entry_form (a ∷ b ∷ []) x low is = absurd (null_int _ (ap (λ r. column r 3) is.0))
entry_form (a ∷ b ∷ c ∷ []) x low is = absurd (null_int _ (ap (λ r. column r 3) is.0))
entry_form (a ∷ b ∷ c ∷ d ∷ []) x low is = is.0
entry_form (a ∷ b ∷ c ∷ d ∷ y ∷ ys) x low is = absurd (omega (arith, low))

pub message_form : (row : Row) (x : StoredMessage) → length (drop 1 row) ≤ 7 → IsMessage (shown_at 2 row) x → row ≡ message_row x.mailbox x.row.uid (string_bytes x.row.date) x.row.octets x.row.flags (string_bytes x.row.keywords) x.row.place x.rowid
message_form [] x low is = absurd (null_int _ (ap (λ r. column r 7) is.0))
message_form (a ∷ []) x low is = absurd (null_int _ (ap (λ r. column r 7) is.0))
message_form (a ∷ b ∷ []) x low is = absurd (null_int _ (ap (λ r. column r 7) is.0))
message_form (a ∷ b ∷ c ∷ []) x low is = absurd (null_int _ (ap (λ r. column r 7) is.0))
message_form (a ∷ b ∷ c ∷ d ∷ []) x low is = absurd (null_int _ (ap (λ r. column r 7) is.0))
message_form (a ∷ b ∷ c ∷ d ∷ e ∷ []) x low is = absurd (null_int _ (ap (λ r. column r 7) is.0))
message_form (a ∷ b ∷ c ∷ d ∷ e ∷ f ∷ []) x low is = absurd (null_int _ (ap (λ r. column r 7) is.0))
message_form (a ∷ b ∷ c ∷ d ∷ e ∷ f ∷ g ∷ []) x low is = absurd (null_int _ (ap (λ r. column r 7) is.0))
message_form (a ∷ b ∷ c ∷ d ∷ e ∷ f ∷ g ∷ h ∷ []) x low is = is.0
message_form (a ∷ b ∷ c ∷ d ∷ e ∷ f ∷ g ∷ h ∷ y ∷ ys) x low is = absurd (omega (arith, low))

pub gone_form : (row : Row) (x : StoredGone) → length (drop 1 row) ≤ 3 → IsGone (shown_at 3 row) x → row ≡ gone_row x.mailbox x.uid x.place x.rowid
gone_form [] x low is = absurd (null_int _ (ap (λ r. column r 3) is.0))
gone_form (a ∷ []) x low is = absurd (null_int _ (ap (λ r. column r 3) is.0))
gone_form (a ∷ b ∷ []) x low is = absurd (null_int _ (ap (λ r. column r 3) is.0))
gone_form (a ∷ b ∷ c ∷ []) x low is = absurd (null_int _ (ap (λ r. column r 3) is.0))
gone_form (a ∷ b ∷ c ∷ d ∷ []) x low is = is.0
gone_form (a ∷ b ∷ c ∷ d ∷ y ∷ ys) x low is = absurd (omega (arith, low))

pub mark_form : (row : Row) (x : StoredSeenFlag) → length (drop 1 row) ≤ 6 → IsMark (shown_at 4 row) x → row ≡ mark_row x.mailbox (string_bytes x.row.user) x.row.own x.row.before x.row.uid x.row.seen x.rowid
mark_form [] x low is = absurd (null_int _ (ap (λ r. column r 6) is.0))
mark_form (a ∷ []) x low is = absurd (null_int _ (ap (λ r. column r 6) is.0))
mark_form (a ∷ b ∷ []) x low is = absurd (null_int _ (ap (λ r. column r 6) is.0))
mark_form (a ∷ b ∷ c ∷ []) x low is = absurd (null_int _ (ap (λ r. column r 6) is.0))
mark_form (a ∷ b ∷ c ∷ d ∷ []) x low is = absurd (null_int _ (ap (λ r. column r 6) is.0))
mark_form (a ∷ b ∷ c ∷ d ∷ e ∷ []) x low is = absurd (null_int _ (ap (λ r. column r 6) is.0))
mark_form (a ∷ b ∷ c ∷ d ∷ e ∷ f ∷ []) x low is = absurd (null_int _ (ap (λ r. column r 6) is.0))
mark_form (a ∷ b ∷ c ∷ d ∷ e ∷ f ∷ g ∷ []) x low is = is.0
mark_form (a ∷ b ∷ c ∷ d ∷ e ∷ f ∷ g ∷ y ∷ ys) x low is = absurd (omega (arith, low))

pub epoch_form : (row : Row) (x : StoredEpoch) → length (drop 1 row) ≤ 3 → IsEpoch (shown_at 5 row) x → row ≡ epoch_row (string_bytes x.key.tree) (string_bytes x.key.path) x.greatest x.rowid
epoch_form [] x low is = absurd (null_int _ (ap (λ r. column r 3) is.0))
epoch_form (a ∷ []) x low is = absurd (null_int _ (ap (λ r. column r 3) is.0))
epoch_form (a ∷ b ∷ []) x low is = absurd (null_int _ (ap (λ r. column r 3) is.0))
epoch_form (a ∷ b ∷ c ∷ []) x low is = absurd (null_int _ (ap (λ r. column r 3) is.0))
epoch_form (a ∷ b ∷ c ∷ d ∷ []) x low is = is.0
epoch_form (a ∷ b ∷ c ∷ d ∷ y ∷ ys) x low is = absurd (omega (arith, low))

pub sub_form : (row : Row) (x : StoredSubscription) → length (drop 1 row) ≤ 3 → IsSubscription (shown_at 6 row) x → row ≡ sub_row (string_bytes x.user) (string_bytes x.key.tree) (string_bytes x.key.path) x.rowid
sub_form [] x low is = absurd (null_words _ (ap (λ r. column r 3) is))
sub_form (a ∷ []) x low is = absurd (null_words _ (ap (λ r. column r 3) is))
sub_form (a ∷ b ∷ []) x low is = absurd (null_words _ (ap (λ r. column r 3) is))
sub_form (a ∷ b ∷ c ∷ []) x low is = absurd (null_words _ (ap (λ r. column r 3) is))
sub_form (a ∷ b ∷ c ∷ d ∷ []) x low is = is
sub_form (a ∷ b ∷ c ∷ d ∷ y ∷ ys) x low is = absurd (omega (arith, low))

pub meta_form : (row : Row) (x : StoredMeta) → length (drop 1 row) ≤ 2 → IsMeta (shown_at 7 row) x → row ≡ meta_row (string_bytes x.key) x.value x.rowid
meta_form [] x low is = absurd (null_int _ (ap (λ r. column r 2) is.0))
meta_form (a ∷ []) x low is = absurd (null_int _ (ap (λ r. column r 2) is.0))
meta_form (a ∷ b ∷ []) x low is = absurd (null_int _ (ap (λ r. column r 2) is.0))
meta_form (a ∷ b ∷ c ∷ []) x low is = is.0
meta_form (a ∷ b ∷ c ∷ y ∷ ys) x low is = absurd (omega (arith, low))

-- NULL is the only value that is NULL
is_null_is : (v : Value) → is_null v ≡ true → v ≡ Null
is_null_is Null h = refl
is_null_is (Int n) h = absurd (cc h)
is_null_is (Real x) h = absurd (cc h)
is_null_is (Words t) h = absurd (cc h)
is_null_is (Bytes b) h = absurd (cc h)

pub mailbox_form : (row : Row) (x : StoredMailbox) → are_typed (Some 0) 0 mailbox_table.columns (drop 1 row) ≡ true → IsMailbox (shown_at 0 row) x
    → row ≡ mailbox_row x.id (string_bytes x.key.tree) (string_bytes x.key.path) x.validity x.uidnext x.shared
mailbox_form [] x ty is = absurd (null_int _ (ap (λ r. column r 5) is.0))
mailbox_form (a ∷ []) x ty is = absurd (null_int _ (ap (λ r. column r 5) is.0))
mailbox_form (a ∷ b ∷ []) x ty is = absurd (null_int _ (ap (λ r. column r 5) is.0))
mailbox_form (a ∷ b ∷ c ∷ []) x ty is = absurd (null_int _ (ap (λ r. column r 5) is.0))
mailbox_form (a ∷ b ∷ c ∷ d ∷ []) x ty is = absurd (null_int _ (ap (λ r. column r 5) is.0))
mailbox_form (a ∷ b ∷ c ∷ d ∷ e ∷ []) x ty is = absurd (null_int _ (ap (λ r. column r 5) is.0))
mailbox_form (a ∷ b ∷ c ∷ d ∷ e ∷ f ∷ []) x ty is = absurd (null_int _ (ap (λ r. column r 5) is.0))
mailbox_form (a ∷ b ∷ c ∷ d ∷ e ∷ f ∷ g ∷ []) x ty is =
    let null = is_null_is b (and_parts (is_null b) _ ty).0 in
    λ i. column (is.0 i) 0 ∷ null i ∷ column (is.0 i) 1 ∷ column (is.0 i) 2 ∷ column (is.0 i) 3 ∷ column (is.0 i) 4 ∷ column (is.0 i) 5 ∷ []
mailbox_form (a ∷ b ∷ c ∷ d ∷ e ∷ f ∷ g ∷ y ∷ ys) x ty is = let le = typed_length (Some 0) 0 mailbox_table.columns (b ∷ c ∷ d ∷ e ∷ f ∷ g ∷ y ∷ ys) ty in absurd (omega (arith, le))
