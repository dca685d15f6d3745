-- What each statement makes of the three tables of messages, and of a store of the first version.
use Rattle.std.proofs.Common.{◌≡◌, inl, inr, ℕ, ℤ, pos, Bool, true, false, length, List, [], ◌∷◌, Ok, refl, sym, subst, ◌∙◌}
use Rattle.std.specs.Prelude.{◌==◌, ◌/◌}
use Rattle.std.specs.List.{flat_map, filter_map}
use Rattle.sqlite.specs.declared.types.Value.TheVariants.{Null, Int, Text as Words, Blob as Bytes}
use Rattle.sqlite.specs.Order.{Row}
use Rattle.sqlite.specs.Table.{Table}
use Rattle.sqlite.specs.Term.{Term, col, lit}
use Rattle.sqlite.specs.Edit.{edit_of}
use Rattle.sqlite.specs.Rowids.TheVariants.{Chosen, Given}
use Rattle.sqlite.specs.Source.TheVariants.{Values}
use Rattle.sqlite.specs.Command.TheVariants.{Insert}
use Rattle.sqlite.specs.Effect.{value_rows}
use Rattle.sqlite.specs.State.{State, Executes}
use Rattle.sqlite_schema.specs.Rules.{parent_key}
use Rattle.sqlite_schema.specs.declared.schema.Keys.TheVariants.{Enforced}
use Rattle.sqlite_rules.specs.Action.{works, work_by, deed_for, pairs, Writes as Going}
use Rattle.sqlite_rules.specs.Calls.{ids_of}
use Rattle.sqlite_rules.specs.Cast.{cast_row}
use Rattle.sqlite_rules.specs.Edit.{taken_by}
use Rattle.sqlite_rules.specs.Lists.{Has}
use Rattle.sqlite_tied.specs.Compute.{everything}
use Rattle.imap_tables.specs.Edits.{Adds, AddsApart, Empties, IsKeywordOf, IsMessageOf, IsMetaOf, Removes, Replaces, flagged_head, valued_row}
use Rattle.imap_tables.specs.Rows.{IsRowOf, body_row, keyword_row, message2_row}
use Rattle.imap_tables.specs.Tables.{store_schema, body_table, keyword_table, message_table, message2_table, meta_table}
use Rattle.imap_tables.proofs.Added.{Becomes, added_apart, added_orderly}
use Rattle.imap_tables.proofs.Casts.{cast_int, cast_null}
use Rattle.imap_tables.proofs.Edited.{IsPlainTable, inserted}
use Rattle.imap_tables.proofs.Effects.{inserts, metas, removing, replacing}
use Rattle.imap_tables.proofs.Shapes.{head_is, number_is}
use Rattle.imap_tables.proofs.Statements as text
use Rattle.imap_tables.proofs.Tested.{bodies_listed, heads_listed, keywords_listed, tests_body, tests_head, tests_keyword, tests_keywords, tests_meta}
use Rattle.imap_tables.proofs.Turned.{Made}

messages : IsPlainTable 2 message_table
messages = record { listed = inr (inr (inl refl)); found = refl; uncounted = refl; unstamped = refl }

heads : IsPlainTable 8 message2_table
heads = record { listed = heads_listed; found = refl; uncounted = refl; unstamped = refl }

bodies : IsPlainTable 9 body_table
bodies = record { listed = bodies_listed; found = refl; uncounted = refl; unstamped = refl }

keywords : IsPlainTable 10 keyword_table
keywords = record { listed = keywords_listed; found = refl; uncounted = refl; unstamped = refl }

-- ---- rows that are inserted

-- a row that is inserted, and no two rows agree in a key then
inserts_apart : (at : ℕ) (table : Table) → IsPlainTable at table → (old new : State) (params : Row) (sql : List ℕ) (terms : List Term) (width count : ℕ) → text.IsText sql (Insert at (Values terms width))
    → (source : Row) (row_of : ℤ → Row) → Becomes table source row_of → value_rows params width (length terms / width) terms ≡ source ∷ []
    → old.now.schema ≡ store_schema → Executes sql params old new (Ok count) → Made (λ db after. AddsApart db after table.tree row_of) old new
inserts_apart at table plain old new params sql terms width count means source row_of becomes values has h =
    let it = inserted at table plain old new params has sql terms width count means h in
    let goes = subst (λ rows. Going store_schema Enforced old.now.trees (edit_of old.now.trees table [] Chosen 0 rows) (Ok new.now.trees)) (it.are ∙ values) it.goes in
    record {
      schema = it.schema;
      made = λ orderly. (added_apart old.now.trees new.now.trees table plain.listed source row_of becomes goes, added_orderly old.now.trees new.now.trees table plain.listed source row_of becomes goes orderly);
    }

module _ (old new : State) (count : ℕ) (has : old.now.schema ≡ store_schema) where
  pub puts_head : (mailbox : ℤ) (uid : ℕ) (date : List ℕ) (flags : ℕ) (place : ℤ)
      → Executes text.insert_head (Int mailbox ∷ Int (pos uid) ∷ Words date ∷ Int (pos flags) ∷ Int place ∷ []) old new (Ok count)
      → Made (λ db after. AddsApart db after 16 (message2_row mailbox uid date flags place)) old new
  puts_head mailbox uid date flags place h =
      inserts_apart 8 message2_table heads old new (Int mailbox ∷ Int (pos uid) ∷ Words date ∷ Int (pos flags) ∷ Int place ∷ []) text.insert_head text.head_terms 6 count text.insert_head_is
      (Null ∷ Int mailbox ∷ Int (pos uid) ∷ Words date ∷ Int (pos flags) ∷ Int place ∷ []) (message2_row mailbox uid date flags place)
      (record {
        row = λ before. rw (cast_null, cast_int mailbox, cast_int (pos uid), cast_int (pos flags), cast_int place) refl;
        rowid_is = λ id. refl;
        fits = λ id. ((id, refl), ((mailbox, refl), ((pos uid, refl), ((date, refl), ((pos flags, refl), ((place, refl), refl))))));
      }) refl has h

  pub puts_body : (mailbox : ℤ) (uid : ℕ) (octets : List ℕ) → Executes text.insert_body (Int mailbox ∷ Int (pos uid) ∷ Bytes octets ∷ []) old new (Ok count)
      → Made (λ db after. Adds db after 18 (body_row mailbox uid octets)) old new
  puts_body mailbox uid octets h =
      inserts 9 body_table bodies old new (Int mailbox ∷ Int (pos uid) ∷ Bytes octets ∷ []) text.insert_body (lit Null ∷ col 0 0 ∷ col 0 1 ∷ col 0 2 ∷ []) 4 count text.insert_body_is
      (Null ∷ Int mailbox ∷ Int (pos uid) ∷ Bytes octets ∷ []) (body_row mailbox uid octets)
      (record {
        row = λ before. rw (cast_null, cast_int mailbox, cast_int (pos uid)) refl;
        rowid_is = λ id. refl;
        fits = λ id. ((id, refl), ((mailbox, refl), ((pos uid, refl), ((octets, refl), refl))));
      }) refl has h

  pub puts_keyword : (mailbox : ℤ) (uid : ℕ) (word : List ℕ) → Executes text.insert_keyword (Int mailbox ∷ Int (pos uid) ∷ Words word ∷ []) old new (Ok count)
      → Made (λ db after. Adds db after 20 (keyword_row mailbox uid word)) old new
  puts_keyword mailbox uid word h =
      inserts 10 keyword_table keywords old new (Int mailbox ∷ Int (pos uid) ∷ Words word ∷ []) text.insert_keyword (lit Null ∷ col 0 0 ∷ col 0 1 ∷ col 0 2 ∷ []) 4 count text.insert_keyword_is
      (Null ∷ Int mailbox ∷ Int (pos uid) ∷ Words word ∷ []) (keyword_row mailbox uid word)
      (record {
        row = λ before. rw (cast_null, cast_int mailbox, cast_int (pos uid)) refl;
        rowid_is = λ id. refl;
        fits = λ id. ((id, refl), ((mailbox, refl), ((pos uid, refl), ((word, refl), refl))));
      }) refl has h

-- ---- nothing refers to these tables

quiet_message : (olds : List Row) → works store_schema Enforced 0 4 olds [] ≡ []
unfolding everything
quiet_message olds = refl

quiet_head : (olds news : List Row) → works store_schema Enforced 0 16 olds news ≡ []
unfolding everything
quiet_head olds news = by (length news == 0)
  where
    by : (b : Bool) → flat_map (λ child. filter_map (λ ref. work_by 0 16 (pairs olds news) child ref (deed_for Enforced b ref) (parent_key store_schema.tables ref)) child.references) store_schema.tables ≡ []
    by true = refl
    by false = refl

quiet_body : (olds : List Row) → works store_schema Enforced 0 18 olds [] ≡ []
unfolding everything
quiet_body olds = refl

quiet_keyword : (olds : List Row) → works store_schema Enforced 0 20 olds [] ≡ []
unfolding everything
quiet_keyword olds = refl

quiet_meta : (olds news : List Row) → works store_schema Enforced 0 14 olds news ≡ []
unfolding everything
quiet_meta olds news = by (length news == 0)
  where
    by : (b : Bool) → flat_map (λ child. filter_map (λ ref. work_by 0 14 (pairs olds news) child ref (deed_for Enforced b ref) (parent_key store_schema.tables ref)) child.references) store_schema.tables ≡ []
    by true = refl
    by false = refl

-- ---- rows that are deleted

none_there : (rows : List Row) → ((row : Row) → Has rows row → ⊥) → rows ≡ []
none_there [] none = refl
none_there (row ∷ rows) none = absurd (none row (inl refl))

module _ (old new : State) (count : ℕ) (has : old.now.schema ≡ store_schema) where
  pub drops_head : (mailbox : ℤ) (uid : ℕ) → Executes text.delete_head (Int mailbox ∷ Int (pos uid) ∷ []) old new (Ok count)
      → Made (λ db after. Removes db after 16 (IsMessageOf mailbox uid)) old new
  drops_head mailbox uid h =
      removing 8 message2_table heads old new (Int mailbox ∷ Int (pos uid) ∷ []) text.delete_head text.numbered count text.delete_head_is (IsMessageOf mailbox uid)
      (λ o. tests_head old.now.trees o [] mailbox uid) (λ olds. quiet_head olds []) has h

  pub drops_body : (mailbox : ℤ) (uid : ℕ) → Executes text.delete_body (Int mailbox ∷ Int (pos uid) ∷ []) old new (Ok count)
      → Made (λ db after. Removes db after 18 (IsMessageOf mailbox uid)) old new
  drops_body mailbox uid h =
      removing 9 body_table bodies old new (Int mailbox ∷ Int (pos uid) ∷ []) text.delete_body text.numbered count text.delete_body_is (IsMessageOf mailbox uid)
      (λ o. tests_body old.now.trees o [] mailbox uid) quiet_body has h

  pub drops_keywords : (mailbox : ℤ) (uid : ℕ) → Executes text.delete_keywords (Int mailbox ∷ Int (pos uid) ∷ []) old new (Ok count)
      → Made (λ db after. Removes db after 20 (IsMessageOf mailbox uid)) old new
  drops_keywords mailbox uid h =
      removing 10 keyword_table keywords old new (Int mailbox ∷ Int (pos uid) ∷ []) text.delete_keywords text.numbered count text.delete_keywords_is (IsMessageOf mailbox uid)
      (λ o. tests_keywords old.now.trees o [] mailbox uid) quiet_keyword has h

  pub drops_keyword : (mailbox : ℤ) (uid : ℕ) (word : List ℕ) → Executes text.delete_keyword (Int mailbox ∷ Int (pos uid) ∷ Words word ∷ []) old new (Ok count)
      → Made (λ db after. Removes db after 20 (IsKeywordOf mailbox uid word)) old new
  drops_keyword mailbox uid word h =
      removing 10 keyword_table keywords old new (Int mailbox ∷ Int (pos uid) ∷ Words word ∷ []) text.delete_keyword text.worded count text.delete_keyword_is (IsKeywordOf mailbox uid word)
      (λ o. tests_keyword old.now.trees o [] mailbox uid word) quiet_keyword has h

  pub drops_messages : Executes text.delete_messages [] old new (Ok count) → Made (λ db after. Empties db after 4) old new
  drops_messages h =
      let it = removing 2 message_table messages old new [] text.delete_messages [] count text.delete_messages_is (λ row. Unit {0})
      (λ o. record { sound = λ row there passes. tt; complete = λ row there is. refl }) quiet_message has h in
      record {
        schema = it.schema;
        made = λ orderly.
            let done = it.made orderly in
            (record { empty = none_there (new.now.trees 4) (λ row there. ((done.0.left row).0 there).1 tt); others = done.0.others }, done.1);
      }

-- ---- rows that are updated

cast_flagged : (flags : ℕ) (place : ℤ) (row : Row) → IsRowOf message2_table row → cast_row message2_table (flagged_head flags place row) ≡ flagged_head flags place row
cast_flagged flags place row h =
    let m = head_is row h in
    subst (λ r. cast_row message2_table (flagged_head flags place r) ≡ flagged_head flags place r) (sym m.is)
    (rw (cast_int m.rowid, cast_int m.mailbox, cast_int m.uid, cast_int (pos flags), cast_int place) refl)

fits_flagged : (flags : ℕ) (place : ℤ) (row : Row) → IsRowOf message2_table row → IsRowOf message2_table (flagged_head flags place row)
fits_flagged flags place row h =
    let m = head_is row h in
    subst (λ r. IsRowOf message2_table (flagged_head flags place r)) (sym m.is)
    ((m.rowid, refl), ((m.mailbox, refl), ((m.uid, refl), ((m.date, refl), ((pos flags, refl), ((place, refl), refl))))))

cast_valued : (value : ℕ) (row : Row) → IsRowOf meta_table row → cast_row meta_table (valued_row value row) ≡ valued_row value row
cast_valued value row h =
    let m = number_is row h in
    subst (λ r. cast_row meta_table (valued_row value r) ≡ valued_row value r) (sym m.is) (rw (cast_int m.rowid, cast_int (pos value)) refl)

fits_valued : (value : ℕ) (row : Row) → IsRowOf meta_table row → IsRowOf meta_table (valued_row value row)
fits_valued value row h =
    let m = number_is row h in
    subst (λ r. IsRowOf meta_table (valued_row value r)) (sym m.is) ((m.rowid, refl), ((m.key, refl), ((pos value, refl), refl)))

module _ (old new : State) (count : ℕ) (has : old.now.schema ≡ store_schema) where
  pub flags_head : (mailbox : ℤ) (uid flags : ℕ) (place : ℤ)
      → Executes text.flag_head (Int mailbox ∷ Int (pos uid) ∷ Int (pos flags) ∷ Int place ∷ []) old new (Ok count)
      → Made (λ db after. Replaces db after 16 (IsMessageOf mailbox uid) (flagged_head flags place)) old new
  flags_head mailbox uid flags place h =
      replacing 8 message2_table heads old new (Int mailbox ∷ Int (pos uid) ∷ Int (pos flags) ∷ Int place ∷ []) text.flag_head text.numbered text.flagged_head count text.flag_head_is
      (IsMessageOf mailbox uid) (λ o. tests_head old.now.trees o (Int (pos flags) ∷ Int place ∷ []) mailbox uid) (flagged_head flags place) (λ row. refl)
      (cast_flagged flags place) (fits_flagged flags place)
      (λ rows. quiet_head (taken_by old.now.trees (edit_of old.now.trees message2_table (ids_of rows) Given 1 rows)) (edit_of old.now.trees message2_table (ids_of rows) Given 1 rows).news) has h

  pub sets_meta : (key : List ℕ) (value : ℕ) → Executes text.update_meta (Words key ∷ Int (pos value) ∷ []) old new (Ok count)
      → Made (λ db after. Replaces db after 14 (IsMetaOf key) (valued_row value)) old new
  sets_meta key value h =
      replacing 7 meta_table metas old new (Words key ∷ Int (pos value) ∷ []) text.update_meta (text.is_given 1 0 ∷ []) text.valued_row count text.update_meta_is
      (IsMetaOf key) (λ o. tests_meta old.now.trees (Int (pos value) ∷ []) key) (valued_row value) (λ row. refl) (cast_valued value) (fits_valued value)
      (λ rows. quiet_meta (taken_by old.now.trees (edit_of old.now.trees meta_table (ids_of rows) Given 1 rows)) (edit_of old.now.trees meta_table (ids_of rows) Given 1 rows).news) has h
