-- What each statement makes of the tables.
use Rattle.std.proofs.Common.{◌≡◌, inl, inr, ℕ, ℤ, pos, Bool, true, false, length, List, [], ◌∷◌, map, drop, Ok, refl, sym, ap, subst, ◌∙◌, arith, ne_eqb}
use Rattle.std.specs.Prelude.{◌==◌, ◌/◌}
use Rattle.std.specs.List.{flat_map, filter_map}
use Rattle.sqlite.specs.declared.types.Value.TheVariants.{Null, Int, Text as Words}
use Rattle.sqlite.specs.Order.{Row, column}
use Rattle.sqlite.specs.Table.{Table}
use Rattle.sqlite.specs.Tree.{Trees, put_row}
use Rattle.sqlite.specs.Term.{Term, col, lit}
use Rattle.sqlite_sql.specs.Term.{eval_all}
use Rattle.sqlite.specs.Query.{inner, end}
use Rattle.sqlite.specs.Edit.{edit_of}
use Rattle.sqlite.specs.Rowids.TheVariants.{Chosen, Given}
use Rattle.sqlite.specs.Source.TheVariants.{Values}
use Rattle.sqlite.specs.Command.TheVariants.{Insert, Update, Delete}
use Rattle.sqlite.specs.Effect.{value_rows}
use Rattle.sqlite.specs.State.{State, Executes}
use Rattle.sqlite_schema.specs.Rules.{parent_key}
use Rattle.sqlite_schema.specs.declared.schema.Keys.TheVariants.{Enforced}
use Rattle.sqlite_rules.specs.Action.{works, work_by, deed_for, pairs, Writes as Going}
use Rattle.sqlite_rules.specs.Calls.{ids_of}
use Rattle.sqlite_rules.specs.Cast.{cast_row}
use Rattle.sqlite_rules.specs.Edit.{numbered as with_rowids, taken_by, without_all}
use Rattle.sqlite_rules.proofs.ActionLemmas.{no_works}
use Rattle.sqlite_tied.specs.Compute.{everything}
use Rattle.imap_tables.specs.Edits.{Adds, HasId, IsBelow, IsEpochOf, IsMarkOf, IsNamed, IsSubOf, Removes, RemovesMailboxes, Replaces, counted_row, moved_row}
use Rattle.imap_tables.specs.Rows.{IsOrderly, IsRowOf, acl_row, epoch_row, flag_of, gone_row, mailbox_row, mark_row, meta_row, sub_row}
use Rattle.imap_tables.specs.Tables.{store_schema, mailbox_table, acl_table, gone_table, mark_table, epoch_table, sub_table, meta_table}
use Rattle.imap_tables.proofs.Added.{Becomes, added_orderly, adds}
use Rattle.imap_tables.proofs.Casts.{cast_int, cast_null}
use Rattle.imap_tables.proofs.Dropped.{dropped_orderly, drops, went}
use Rattle.imap_tables.proofs.Edited.{IsPlainTable, deleted, inserted, updated}
use Rattle.imap_tables.proofs.Replaced.{AreTests, removed_orderly, removes, replaced_orderly, replaces}
use Rattle.imap_tables.proofs.Shapes.{mailbox_is}
use Rattle.imap_tables.proofs.Statements as text
use Rattle.imap_tables.proofs.Tested.{tests_entries, tests_epoch, tests_id, tests_mark, tests_name, tests_sub}
use Rattle.imap_tables.proofs.Turned.{Made}

-- ---- the tables by their places

mailboxes : IsPlainTable 0 mailbox_table
mailboxes = record { listed = inl refl; found = refl; uncounted = refl; unstamped = refl }

entries : IsPlainTable 1 acl_table
entries = record { listed = inr (inl refl); found = refl; uncounted = refl; unstamped = refl }

gones : IsPlainTable 3 gone_table
gones = record { listed = inr (inr (inr (inl refl))); found = refl; uncounted = refl; unstamped = refl }

marks : IsPlainTable 4 mark_table
marks = record { listed = inr (inr (inr (inr (inl refl)))); found = refl; uncounted = refl; unstamped = refl }

epochs : IsPlainTable 5 epoch_table
epochs = record { listed = inr (inr (inr (inr (inr (inl refl))))); found = refl; uncounted = refl; unstamped = refl }

subs : IsPlainTable 6 sub_table
subs = record { listed = inr (inr (inr (inr (inr (inr (inl refl)))))); found = refl; uncounted = refl; unstamped = refl }

pub metas : IsPlainTable 7 meta_table
metas = record { listed = inr (inr (inr (inr (inr (inr (inr (inl refl))))))); found = refl; uncounted = refl; unstamped = refl }

-- ---- rows that are inserted

pub inserts : (at : ℕ) (table : Table) → IsPlainTable at table → (old new : State) (params : Row) (sql : List ℕ) (terms : List Term) (width count : ℕ) → text.IsText sql (Insert at (Values terms width))
    → (source : Row) (row_of : ℤ → Row) → Becomes table source row_of → value_rows params width (length terms / width) terms ≡ source ∷ []
    → old.now.schema ≡ store_schema → Executes sql params old new (Ok count) → Made (λ db after. Adds db after table.tree row_of) old new
inserts at table plain old new params sql terms width count means source row_of becomes values has h =
    let it = inserted at table plain old new params has sql terms width count means h in
    let goes = subst (λ rows. Going store_schema Enforced old.now.trees (edit_of old.now.trees table [] Chosen 0 rows) (Ok new.now.trees)) (it.are ∙ values) it.goes in
    record {
      schema = it.schema;
      made = λ orderly. (adds old.now.trees new.now.trees table plain.listed source row_of becomes goes, added_orderly old.now.trees new.now.trees table plain.listed source row_of becomes goes orderly);
    }

module _ (old new : State) (count : ℕ) (has : old.now.schema ≡ store_schema) where
  pub puts_mailbox : (tree path : List ℕ) (validity : ℕ) → Executes text.insert_mailbox (Words tree ∷ Words path ∷ Int (pos validity) ∷ []) old new (Ok count)
      → Made (λ db after. Adds db after 0 (λ id. mailbox_row id tree path validity 1 (pos 0))) old new
  puts_mailbox tree path validity h =
      inserts 0 mailbox_table mailboxes old new (Words tree ∷ Words path ∷ Int (pos validity) ∷ []) text.insert_mailbox text.mailbox_terms 7 count text.insert_mailbox_is
      (Null ∷ Null ∷ Words tree ∷ Words path ∷ Int (pos validity) ∷ Int (pos 1) ∷ Int (pos 0) ∷ []) (λ id. mailbox_row id tree path validity 1 (pos 0))
      (record {
        row = λ before. rw (cast_null, cast_int (pos validity), cast_int (pos 1), cast_int (pos 0)) refl;
        rowid_is = λ id. refl;
        fits = λ id. ((id, refl), (refl, ((tree, refl), ((path, refl), ((pos validity, refl), ((pos 1, refl), ((pos 0, refl), refl)))))));
      }) refl has h

  pub puts_entry : (mailbox : ℤ) (identifier : List ℕ) (rights : ℕ) → Executes text.insert_acl (Int mailbox ∷ Words identifier ∷ Int (pos rights) ∷ []) old new (Ok count)
      → Made (λ db after. Adds db after 2 (acl_row mailbox identifier rights)) old new
  puts_entry mailbox identifier rights h =
      inserts 1 acl_table entries old new (Int mailbox ∷ Words identifier ∷ Int (pos rights) ∷ []) text.insert_acl (lit Null ∷ col 0 0 ∷ col 0 1 ∷ col 0 2 ∷ []) 4 count text.insert_acl_is
      (Null ∷ Int mailbox ∷ Words identifier ∷ Int (pos rights) ∷ []) (acl_row mailbox identifier rights)
      (record {
        row = λ before. rw (cast_null, cast_int mailbox, cast_int (pos rights)) refl;
        rowid_is = λ id. refl;
        fits = λ id. ((id, refl), ((mailbox, refl), ((identifier, refl), ((pos rights, refl), refl))));
      }) refl has h

  pub puts_gone : (mailbox : ℤ) (uid : ℕ) (place : ℤ) → Executes text.insert_gone (Int mailbox ∷ Int (pos uid) ∷ Int place ∷ []) old new (Ok count)
      → Made (λ db after. Adds db after 6 (gone_row mailbox uid place)) old new
  puts_gone mailbox uid place h =
      inserts 3 gone_table gones old new (Int mailbox ∷ Int (pos uid) ∷ Int place ∷ []) text.insert_gone (lit Null ∷ col 0 0 ∷ col 0 1 ∷ col 0 2 ∷ []) 4 count text.insert_gone_is
      (Null ∷ Int mailbox ∷ Int (pos uid) ∷ Int place ∷ []) (gone_row mailbox uid place)
      (record {
        row = λ before. rw (cast_null, cast_int mailbox, cast_int (pos uid), cast_int place) refl;
        rowid_is = λ id. refl;
        fits = λ id. ((id, refl), ((mailbox, refl), ((pos uid, refl), ((place, refl), refl))));
      }) refl has h

  pub puts_mark : (mailbox : ℤ) (user : List ℕ) (own before : ℤ) (uid : ℕ) (seen : Bool)
      → Executes text.insert_mark (Int mailbox ∷ Words user ∷ Int own ∷ Int before ∷ Int (pos uid) ∷ Int (flag_of seen) ∷ []) old new (Ok count)
      → Made (λ db after. Adds db after 8 (mark_row mailbox user own before uid seen)) old new
  puts_mark mailbox user own before uid seen h =
      inserts 4 mark_table marks old new (Int mailbox ∷ Words user ∷ Int own ∷ Int before ∷ Int (pos uid) ∷ Int (flag_of seen) ∷ []) text.insert_mark
      (lit Null ∷ col 0 0 ∷ col 0 1 ∷ col 0 2 ∷ col 0 3 ∷ col 0 4 ∷ col 0 5 ∷ []) 7 count text.insert_mark_is
      (Null ∷ Int mailbox ∷ Words user ∷ Int own ∷ Int before ∷ Int (pos uid) ∷ Int (flag_of seen) ∷ []) (mark_row mailbox user own before uid seen)
      (record {
        row = λ rows. rw (cast_null, cast_int mailbox, cast_int own, cast_int before, cast_int (pos uid), cast_int (flag_of seen)) refl;
        rowid_is = λ id. refl;
        fits = λ id. ((id, refl), ((mailbox, refl), ((user, refl), ((own, refl), ((before, refl), ((pos uid, refl), ((flag_of seen, refl), refl)))))));
      }) refl has h

  pub puts_epoch : (tree path : List ℕ) (greatest : ℕ) → Executes text.insert_epoch (Words tree ∷ Words path ∷ Int (pos greatest) ∷ []) old new (Ok count)
      → Made (λ db after. Adds db after 10 (epoch_row tree path greatest)) old new
  puts_epoch tree path greatest h =
      inserts 5 epoch_table epochs old new (Words tree ∷ Words path ∷ Int (pos greatest) ∷ []) text.insert_epoch (lit Null ∷ col 0 0 ∷ col 0 1 ∷ col 0 2 ∷ []) 4 count text.insert_epoch_is
      (Null ∷ Words tree ∷ Words path ∷ Int (pos greatest) ∷ []) (epoch_row tree path greatest)
      (record {
        row = λ before. rw (cast_null, cast_int (pos greatest)) refl;
        rowid_is = λ id. refl;
        fits = λ id. ((id, refl), ((tree, refl), ((path, refl), ((pos greatest, refl), refl))));
      }) refl has h

  pub puts_sub : (user tree path : List ℕ) → Executes text.insert_sub (Words user ∷ Words tree ∷ Words path ∷ []) old new (Ok count)
      → Made (λ db after. Adds db after 12 (sub_row user tree path)) old new
  puts_sub user tree path h =
      inserts 6 sub_table subs old new (Words user ∷ Words tree ∷ Words path ∷ []) text.insert_sub (lit Null ∷ col 0 0 ∷ col 0 1 ∷ col 0 2 ∷ []) 4 count text.insert_sub_is
      (Null ∷ Words user ∷ Words tree ∷ Words path ∷ []) (sub_row user tree path)
      (record {
        row = λ before. rw cast_null refl;
        rowid_is = λ id. refl;
        fits = λ id. ((id, refl), ((user, refl), ((tree, refl), ((path, refl), refl))));
      }) refl has h

  pub puts_meta : (key : List ℕ) (value : ℕ) → Executes text.insert_meta (Words key ∷ Int (pos value) ∷ []) old new (Ok count)
      → Made (λ db after. Adds db after 14 (meta_row key value)) old new
  puts_meta key value h =
      inserts 7 meta_table metas old new (Words key ∷ Int (pos value) ∷ []) text.insert_meta (lit Null ∷ col 0 0 ∷ col 0 1 ∷ []) 3 count text.insert_meta_is
      (Null ∷ Words key ∷ Int (pos value) ∷ []) (meta_row key value)
      (record {
        row = λ before. rw (cast_null, cast_int (pos value)) refl;
        rowid_is = λ id. refl;
        fits = λ id. ((id, refl), ((key, refl), ((pos value, refl), refl)));
      }) refl has h

  -- ---- rows that are deleted

  pub drops_mailbox : (tree path : List ℕ) → Executes text.delete_mailbox (Words tree ∷ Words path ∷ []) old new (Ok count)
      → Made (λ db after. RemovesMailboxes db after (IsNamed tree path)) old new
  drops_mailbox tree path h =
      let params : Row = Words tree ∷ Words path ∷ [] in
      let it = deleted 0 mailbox_table mailboxes old new params has text.delete_mailbox (text.rowids_where 0 text.named) count text.delete_mailbox_is h in
      let db = old.now.trees in
      let next = new.now.trees in
      let are = tests_name db [] tree path in
      record {
        schema = it.schema;
        made = λ orderly.
            let w = went db next orderly text.named params it.rows (IsNamed tree path) are it.answer it.goes in
            (drops db next orderly text.named params it.rows (IsNamed tree path) are it.answer w, dropped_orderly db next orderly text.named params it.rows (IsNamed tree path) are it.answer w);
      }

-- nothing refers to what isn't a mailbox
quiet_acl : (olds news : List Row) → works store_schema Enforced 0 2 olds news ≡ []
unfolding everything
quiet_acl olds news = by (length news == 0)
  where
    by : (b : Bool) → flat_map (λ child. filter_map (λ ref. work_by 0 2 (pairs olds news) child ref (deed_for Enforced b ref) (parent_key store_schema.tables ref)) child.references) store_schema.tables ≡ []
    by true = refl
    by false = refl

quiet_mark : (olds : List Row) → works store_schema Enforced 0 8 olds [] ≡ []
unfolding everything
quiet_mark olds = refl

quiet_epoch : (olds : List Row) → works store_schema Enforced 0 10 olds [] ≡ []
unfolding everything
quiet_epoch olds = refl

quiet_sub : (olds : List Row) → works store_schema Enforced 0 12 olds [] ≡ []
unfolding everything
quiet_sub olds = refl

-- the rows of a table that pass tests
pub removing : (at : ℕ) (table : Table) → IsPlainTable at table → (old new : State) (params : Row) (sql : List ℕ) (tests : List Term) (count : ℕ)
    → text.IsText sql (Delete at (record { lets = []; body = text.rowids_where table.tree tests })) → (P : Row → Type 0) → (IsOrderly old.now.trees → AreTests old.now.trees table tests params P)
    → ((olds : List Row) → works store_schema Enforced 0 table.tree olds [] ≡ []) → old.now.schema ≡ store_schema → Executes sql params old new (Ok count)
    → Made (λ db after. Removes db after table.tree P) old new
removing at table plain old new params sql tests count means P are quiet has h =
    let it = deleted at table plain old new params has sql (text.rowids_where table.tree tests) count means h in
    let db = old.now.trees in
    let next = new.now.trees in
    record {
      schema = it.schema;
      made = λ orderly. (
        removes db next table plain.listed orderly tests (col 1 0 ∷ []) params it.rows P (are orderly) it.answer (λ row. refl) (quiet _) it.goes,
        removed_orderly db next table plain.listed orderly tests (col 1 0 ∷ []) params it.rows P (are orderly) it.answer (λ row. refl) (quiet _) it.goes,
      );
    }

module _ (old new : State) (count : ℕ) (has : old.now.schema ≡ store_schema) where
  pub drops_entries : (mailbox : ℤ) → Executes text.delete_acl (Int mailbox ∷ []) old new (Ok count) → Made (λ db after. Removes db after 2 (IsBelow mailbox)) old new
  drops_entries mailbox h =
      removing 1 acl_table entries old new (Int mailbox ∷ []) text.delete_acl text.below count text.delete_acl_is (IsBelow mailbox) (λ o. tests_entries old.now.trees o [] mailbox) (λ olds. quiet_acl olds []) has h

  pub drops_mark : (mailbox : ℤ) (user : List ℕ) (own : ℤ) → Executes text.delete_mark (Int mailbox ∷ Words user ∷ Int own ∷ []) old new (Ok count)
      → Made (λ db after. Removes db after 8 (IsMarkOf mailbox user own)) old new
  drops_mark mailbox user own h =
      removing 4 mark_table marks old new (Int mailbox ∷ Words user ∷ Int own ∷ []) text.delete_mark text.marked count text.delete_mark_is (IsMarkOf mailbox user own)
      (λ o. tests_mark old.now.trees o [] mailbox user own) quiet_mark has h

  pub drops_epoch : (tree path : List ℕ) → Executes text.delete_epoch (Words tree ∷ Words path ∷ []) old new (Ok count) → Made (λ db after. Removes db after 10 (IsEpochOf tree path)) old new
  drops_epoch tree path h =
      removing 5 epoch_table epochs old new (Words tree ∷ Words path ∷ []) text.delete_epoch text.under count text.delete_epoch_is (IsEpochOf tree path)
      (λ o. tests_epoch old.now.trees [] tree path) quiet_epoch has h

  pub drops_sub : (user tree path : List ℕ) → Executes text.delete_sub (Words user ∷ Words tree ∷ Words path ∷ []) old new (Ok count)
      → Made (λ db after. Removes db after 12 (IsSubOf user tree path)) old new
  drops_sub user tree path h =
      removing 6 sub_table subs old new (Words user ∷ Words tree ∷ Words path ∷ []) text.delete_sub text.subscribed count text.delete_sub_is (IsSubOf user tree path)
      (λ o. tests_sub old.now.trees [] user tree path) quiet_sub has h

-- ---- rows that are updated

pub replacing : (at : ℕ) (table : Table) → IsPlainTable at table → (old new : State) (params : Row) (sql : List ℕ) (tests project : List Term) (count : ℕ)
    → text.IsText sql (Update at (record { lets = []; body = text.plain_query (inner table.tree end) tests project })) → (P : Row → Type 0) → (IsOrderly old.now.trees → AreTests old.now.trees table tests params P)
    → (heir : Row → Row) → ((row : Row) → eval_all project (params ∷ row ∷ []) ≡ column row 0 ∷ heir row)
    → ((row : Row) → IsRowOf table row → cast_row table (heir row) ≡ heir row) → ((row : Row) → IsRowOf table row → IsRowOf table (heir row))
    → ((rows : List Row) → works store_schema Enforced 0 table.tree (taken_by old.now.trees (edit_of old.now.trees table (ids_of rows) Given 1 rows)) (edit_of old.now.trees table (ids_of rows) Given 1 rows).news ≡ [])
    → old.now.schema ≡ store_schema → Executes sql params old new (Ok count) → Made (λ db after. Replaces db after table.tree P heir) old new
replacing at table plain old new params sql tests project count means P are heir shown casts fits quiet has h =
    let q = text.plain_query (inner table.tree end) tests project in
    let it = updated at table plain old new params has sql q count means h in
    let db = old.now.trees in
    let next = new.now.trees in
    record {
      schema = it.schema;
      made = λ orderly. (
        replaces db next table plain.listed orderly tests project params it.rows P (are orderly) it.answer (λ row. ap (λ r. column r 0) (shown row)) heir shown
            (λ row there. casts row (orderly.rows table plain.listed row there)) (λ row there. fits row (orderly.rows table plain.listed row there)) (quiet it.rows) it.goes,
        replaced_orderly db next table plain.listed orderly tests project params it.rows P (are orderly) it.answer (λ row. ap (λ r. column r 0) (shown row)) heir shown
            (λ row there. casts row (orderly.rows table plain.listed row there)) (λ row there. fits row (orderly.rows table plain.listed row there)) (quiet it.rows) it.goes,
      );
    }

-- an update of mailboxes sets nothing off
quiet_if : (b : Bool) → b ≡ false → (moves : List (Row × Row))
    → flat_map (λ child. filter_map (λ ref. work_by 0 0 moves child ref (deed_for Enforced b ref) (parent_key store_schema.tables ref)) child.references) store_schema.tables ≡ []
unfolding everything
quiet_if true is moves = absurd (cc)
quiet_if false is moves = refl

updates_nothing : (olds : List Row) (n : Row) (ns : List Row) → works store_schema Enforced 0 0 olds (n ∷ ns) ≡ []
updates_nothing olds n ns = quiet_if (length (n ∷ ns) == 0) (ne_eqb (length (n ∷ ns)) 0 (omega arith)) (pairs olds (n ∷ ns))

quiet_mailbox : (db : Trees) (all : List Row) → works store_schema Enforced 0 0 (taken_by db (edit_of db mailbox_table (ids_of all) Given 1 all)) (edit_of db mailbox_table (ids_of all) Given 1 all).news ≡ []
quiet_mailbox db [] = no_works store_schema Enforced 0 0 []
quiet_mailbox db (r ∷ rs) =
    let left = without_all (db 0) (ids_of (r ∷ rs)) in
    let n = cast_row mailbox_table (drop 1 r) in
    updates_nothing (taken_by db (edit_of db mailbox_table (ids_of (r ∷ rs)) Given 1 (r ∷ rs))) n (with_rowids Given (put_row n left) (map (λ s. cast_row mailbox_table (drop 1 s)) rs))

cast_moved : (path : List ℕ) (validity : ℕ) (row : Row) → IsRowOf mailbox_table row → cast_row mailbox_table (moved_row path validity row) ≡ moved_row path validity row
cast_moved path validity row h =
    let m = mailbox_is row h in
    subst (λ r. cast_row mailbox_table (moved_row path validity r) ≡ moved_row path validity r) (sym m.is) (rw (cast_null, cast_int m.id, cast_int (pos validity), cast_int m.uidnext, cast_int m.shared) refl)

fits_moved : (path : List ℕ) (validity : ℕ) (row : Row) → IsRowOf mailbox_table row → IsRowOf mailbox_table (moved_row path validity row)
fits_moved path validity row h =
    let m = mailbox_is row h in
    subst (λ r. IsRowOf mailbox_table (moved_row path validity r)) (sym m.is)
    ((m.id, refl), (refl, ((m.tree, refl), ((path, refl), ((pos validity, refl), ((m.uidnext, refl), ((m.shared, refl), refl)))))))

cast_counted : (uidnext : ℕ) (shared : ℤ) (row : Row) → IsRowOf mailbox_table row → cast_row mailbox_table (counted_row uidnext shared row) ≡ counted_row uidnext shared row
cast_counted uidnext shared row h =
    let m = mailbox_is row h in
    subst (λ r. cast_row mailbox_table (counted_row uidnext shared r) ≡ counted_row uidnext shared r) (sym m.is) (rw (cast_null, cast_int m.id, cast_int m.validity, cast_int (pos uidnext), cast_int shared) refl)

fits_counted : (uidnext : ℕ) (shared : ℤ) (row : Row) → IsRowOf mailbox_table row → IsRowOf mailbox_table (counted_row uidnext shared row)
fits_counted uidnext shared row h =
    let m = mailbox_is row h in
    subst (λ r. IsRowOf mailbox_table (counted_row uidnext shared r)) (sym m.is)
    ((m.id, refl), (refl, ((m.tree, refl), ((m.path, refl), ((m.validity, refl), ((pos uidnext, refl), ((shared, refl), refl)))))))

module _ (old new : State) (count : ℕ) (has : old.now.schema ≡ store_schema) where
  pub moves_mailbox : (tree path to : List ℕ) (validity : ℕ) → Executes text.move_mailbox (Words tree ∷ Words path ∷ Words to ∷ Int (pos validity) ∷ []) old new (Ok count)
      → Made (λ db after. Replaces db after 0 (IsNamed tree path) (moved_row to validity)) old new
  moves_mailbox tree path to validity h =
      replacing 0 mailbox_table mailboxes old new (Words tree ∷ Words path ∷ Words to ∷ Int (pos validity) ∷ []) text.move_mailbox text.named text.moved_row count text.move_mailbox_is (IsNamed tree path)
      (λ o. tests_name old.now.trees (Words to ∷ Int (pos validity) ∷ []) tree path) (moved_row to validity) (λ row. refl) (cast_moved to validity) (fits_moved to validity) (quiet_mailbox old.now.trees) has h

  pub counts_mailbox : (mailbox : ℤ) (uidnext : ℕ) (shared : ℤ) → Executes text.count_mailbox (Int mailbox ∷ Int (pos uidnext) ∷ Int shared ∷ []) old new (Ok count)
      → Made (λ db after. Replaces db after 0 (HasId mailbox) (counted_row uidnext shared)) old new
  counts_mailbox mailbox uidnext shared h =
      replacing 0 mailbox_table mailboxes old new (Int mailbox ∷ Int (pos uidnext) ∷ Int shared ∷ []) text.count_mailbox (text.is_given 0 0 ∷ []) text.counted_row count text.count_mailbox_is (HasId mailbox)
      (λ o. tests_id old.now.trees o (Int (pos uidnext) ∷ Int shared ∷ []) mailbox) (counted_row uidnext shared) (λ row. refl) (cast_counted uidnext shared) (fits_counted uidnext shared) (quiet_mailbox old.now.trees) has h
