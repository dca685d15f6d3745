-- What the texts that make the tables mean, and do.
use Rattle.std.proofs.Common.{◌≡◌, inl, inr, eqb, codes, ℕ, zero, suc, ◌+◌, ◌<◌, List, [], ◌∷◌, false, None, Ok, Err, OnOk, Result, refl, sym, ap, subst, ◌∙◌, arith}
use Rattle.std.specs.List.{AllByRecursion}
use Rattle.sqlite.specs.Command.TheVariants.{CreateTable}
use Rattle.sqlite.specs.Table.{Table}
use Rattle.sqlite.specs.Schema.{Schema}
use Rattle.sqlite.specs.Tree.{Trees}
use Rattle.sqlite.specs.Compile.{table_defined_by}
use Rattle.sqlite.specs.Change.{created, next_tree}
use Rattle.sqlite_catalog.specs.Change.{KeepsRows}
use Rattle.sqlite.specs.Does.{Tally, lacks_sequence}
use Rattle.sqlite_tied.specs.Compute.{everything}
use Rattle.sqlite.specs.Listing.{understood}
use Rattle.sqlite.specs.Effect.{Database}
use Rattle.sqlite.specs.State.{State, HasCleanDisk, Writes, Executes, ExecutesInside}
use Rattle.sqlite.specs.declared.error.Error.{Error}
use Rattle.sqlite.proofs.Callers.{IsPlain, command_of, statement_of, runs_as}
use Rattle.imap_tables.specs.Texts.{text_at, table_at, schema_at}
use Rattle.sqlite_rules.specs.Lists.{Has}
use Rattle.imap_tables.specs.Edits.{Adds, KeepsOthers}
use Rattle.imap_tables.specs.Rows.{AreApart, IsOrderly, meta_row}
use Rattle.imap_tables.specs.Steps.{HasSchema, AreEmpty, IsCall, IsNewStore, KeepTables, MakesNext, MakesStore, MakesTables, Turns, store_version}
use Rattle.imap_tables.proofs.Tested.{bodies_listed, heads_listed, keywords_listed}
use Rattle.imap_tables.specs.Tables.{body_table, keyword_table, message2_table, store_tables, mailbox_table, acl_table, message_table, gone_table, mark_table, epoch_table, sub_table, meta_table}
use Rattle.imap_tables.proofs.Dropped.{ne}
use Rattle.imap_tables.proofs.Edited.{went, same_value}

-- the text makes this table after that schema
pub record IsMaking (sql : List ℕ) (schema : Schema) (table : Table) (after : Schema) : Type 0 where
  pub command : command_of (understood schema sql) ≡ CreateTable
  pub text : statement_of sql (understood schema sql) ≡ sql
  pub plain : IsPlain (understood schema sql)
  pub defined : table_defined_by sql ≡ Ok (record table { tree = 0 })
  pub counted : lacks_sequence (created schema table) ≡ false
  pub created_is : created schema (record table { tree = 0 }) ≡ after
  pub tree : next_tree schema ≡ table.tree
  pub grows : (db : Trees) → AreEmpty schema.tables db → db table.tree ≡ [] → AreEmpty after.tables db

makes_mailbox : IsMaking (text_at 0) (schema_at 0) (table_at 0) (schema_at 1)
unfolding understood everything
makes_mailbox = record { command = refl; text = refl; plain = (refl, refl); defined = refl; counted = refl; created_is = refl; tree = refl; grows = λ db was here. (here, tt) }

makes_acl : IsMaking (text_at 1) (schema_at 1) (table_at 1) (schema_at 2)
unfolding understood everything
makes_acl = record { command = refl; text = refl; plain = (refl, refl); defined = refl; counted = refl; created_is = refl; tree = refl; grows = λ db was here. (was.0, (here, tt)) }

makes_message : IsMaking (text_at 2) (schema_at 2) (table_at 2) (schema_at 3)
unfolding understood everything
makes_message = record { command = refl; text = refl; plain = (refl, refl); defined = refl; counted = refl; created_is = refl; tree = refl; grows = λ db was here. (was.0, (was.1.0, (here, tt))) }

makes_gone : IsMaking (text_at 3) (schema_at 3) (table_at 3) (schema_at 4)
unfolding understood everything
makes_gone = record { command = refl; text = refl; plain = (refl, refl); defined = refl; counted = refl; created_is = refl; tree = refl; grows = λ db was here. (was.0, (was.1.0, (was.1.1.0, (here, tt)))) }

makes_mark : IsMaking (text_at 4) (schema_at 4) (table_at 4) (schema_at 5)
unfolding understood everything
makes_mark = record { command = refl; text = refl; plain = (refl, refl); defined = refl; counted = refl; created_is = refl; tree = refl; grows = λ db was here. (was.0, (was.1.0, (was.1.1.0, (was.1.1.1.0, (here, tt))))) }

makes_epoch : IsMaking (text_at 5) (schema_at 5) (table_at 5) (schema_at 6)
unfolding understood everything
makes_epoch = record { command = refl; text = refl; plain = (refl, refl); defined = refl; counted = refl; created_is = refl; tree = refl; grows = λ db was here. (was.0, (was.1.0, (was.1.1.0, (was.1.1.1.0, (was.1.1.1.1.0, (here, tt)))))) }

makes_sub : IsMaking (text_at 6) (schema_at 6) (table_at 6) (schema_at 7)
unfolding understood everything
makes_sub = record { command = refl; text = refl; plain = (refl, refl); defined = refl; counted = refl; created_is = refl; tree = refl; grows = λ db was here. (was.0, (was.1.0, (was.1.1.0, (was.1.1.1.0, (was.1.1.1.1.0, (was.1.1.1.1.1.0, (here, tt))))))) }

makes_meta : IsMaking (text_at 7) (schema_at 7) (table_at 7) (schema_at 8)
unfolding understood everything
makes_meta = record { command = refl; text = refl; plain = (refl, refl); defined = refl; counted = refl; created_is = refl; tree = refl; grows = λ db was here. (was.0, (was.1.0, (was.1.1.0, (was.1.1.1.0, (was.1.1.1.1.0, (was.1.1.1.1.1.0, (was.1.1.1.1.1.1.0, (here, tt)))))))) }

makes_message2 : IsMaking (text_at 8) (schema_at 8) (table_at 8) (schema_at 9)
unfolding understood everything
makes_message2 = record { command = refl; text = refl; plain = (refl, refl); defined = refl; counted = refl; created_is = refl; tree = refl; grows = λ db was here. (was.0, (was.1.0, (was.1.1.0, (was.1.1.1.0, (was.1.1.1.1.0, (was.1.1.1.1.1.0, (was.1.1.1.1.1.1.0, (was.1.1.1.1.1.1.1.0, (here, tt))))))))) }

makes_body : IsMaking (text_at 9) (schema_at 9) (table_at 9) (schema_at 10)
unfolding understood everything
makes_body = record { command = refl; text = refl; plain = (refl, refl); defined = refl; counted = refl; created_is = refl; tree = refl; grows = λ db was here. (was.0, (was.1.0, (was.1.1.0, (was.1.1.1.0, (was.1.1.1.1.0, (was.1.1.1.1.1.0, (was.1.1.1.1.1.1.0, (was.1.1.1.1.1.1.1.0, (was.1.1.1.1.1.1.1.1.0, (here, tt)))))))))) }

makes_keyword : IsMaking (text_at 10) (schema_at 10) (table_at 10) (schema_at 11)
unfolding understood everything
makes_keyword = record { command = refl; text = refl; plain = (refl, refl); defined = refl; counted = refl; created_is = refl; tree = refl; grows = λ db was here. (was.0, (was.1.0, (was.1.1.0, (was.1.1.1.0, (was.1.1.1.1.0, (was.1.1.1.1.1.0, (was.1.1.1.1.1.1.0, (was.1.1.1.1.1.1.1.0, (was.1.1.1.1.1.1.1.1.0, (was.1.1.1.1.1.1.1.1.1.0, (here, tt))))))))))) }

pub making : (n : ℕ) → n < 11 → IsMaking (text_at n) (schema_at n) (table_at n) (schema_at (n + 1))
making zero low = makes_mailbox
making (suc zero) low = makes_acl
making (suc (suc zero)) low = makes_message
making (suc (suc (suc zero))) low = makes_gone
making (suc (suc (suc (suc zero)))) low = makes_mark
making (suc (suc (suc (suc (suc zero))))) low = makes_epoch
making (suc (suc (suc (suc (suc (suc zero)))))) low = makes_sub
making (suc (suc (suc (suc (suc (suc (suc zero))))))) low = makes_meta
making (suc (suc (suc (suc (suc (suc (suc (suc zero)))))))) low = makes_message2
making (suc (suc (suc (suc (suc (suc (suc (suc (suc zero))))))))) low = makes_body
making (suc (suc (suc (suc (suc (suc (suc (suc (suc (suc zero)))))))))) low = makes_keyword
making (suc (suc (suc (suc (suc (suc (suc (suc (suc (suc (suc n))))))))))) low = absurd (omega (arith, low))

still_empty : (tables : List Table) (old new : Trees) → AllByRecursion (λ t. new t.tree ≡ old t.tree) tables → AreEmpty tables old → AreEmpty tables new
still_empty [] old new kept h = tt
still_empty (t ∷ tables) old new kept h = (kept.0 ∙ h.0, still_empty tables old new kept.1 h.1)

-- A table is made at the end of the schema, with no row, and those before it keep their rows.
pub makes : (sql : List ℕ) (schema after : Schema) (table : Table) → IsMaking sql schema table after → (old new : State) (count : ℕ) → old.now.schema ≡ schema → Executes sql [] old new (Ok count)
    → (new.now.schema ≡ after) × (AreEmpty schema.tables old.now.trees → AreEmpty after.tables new.now.trees) × KeepTables schema.tables old.now.trees new.now.trees × (new.now.trees table.tree ≡ [])
makes sql schema after table m old new count has h =
    let w = subst (λ t. Writes old new None CreateTable t [] count) m.text (runs_as sql [] old new schema has CreateTable m.command m.plain count h) in
    let all = went w.changed in
    let first = went all.1 in
    let made = first.1 in
    let both : Ok made.table ≡ Ok (record table { tree = 0 }) = sym made.defined ∙ m.defined in
    let same : made.table ≡ record table { tree = 0 } = cc in
    let is : first.0.schema ≡ created schema (record table { tree = 0 }) = made.is ∙ ap (λ s. created s made.table) has ∙ ap (created schema) same in
    let none : lacks_sequence first.0.schema ≡ false = ap lacks_sequence is ∙ m.counted in
    let now : new.now ≡ first.0 = ap (λ (p : Tally × Database). p.1) (same_value all.2) ∙ same_value (rw none at first.2) in
    let empty : new.now.trees (next_tree schema) ≡ [] = ap (λ (d : Database). d.trees (next_tree schema)) now ∙ subst (λ s. first.0.trees (next_tree s) ≡ []) has made.empty in
    let kept : KeepsRows schema.tables old.now.trees new.now.trees = subst (λ (d : Database). KeepsRows schema.tables old.now.trees d.trees) (sym now) (subst (λ s. KeepsRows s.tables old.now.trees first.0.trees) has made.others) in (
      ap (λ (d : Database). d.schema) now ∙ is ∙ m.created_is,
      λ was. m.grows new.now.trees (still_empty schema.tables old.now.trees new.now.trees kept was) (subst (λ t. new.now.trees t ≡ []) m.tree empty),
      kept,
      subst (λ t. new.now.trees t ≡ []) m.tree empty,
    )

pub next_made : (n : ℕ) (old new : State) (r : Result ℕ Error) → n < 11 → HasSchema (schema_at n) old → HasCleanDisk old → ExecutesInside 0 (text_at n) [] old new r → OnOk r (MakesNext n old new)
next_made n old new (Err e) low has clean h = tt
next_made n old new (Ok count) low has clean h =
    let it = makes (text_at n) (schema_at n) (schema_at (n + 1)) (table_at n) (making n low) old new count (has clean h.1.was_open) h.0 in
    record { schema = it.0; empty = it.1; kept = it.2; blank = it.3; shown = h.1 }

-- ---- the version

empty_has : (tables : List Table) (db : Trees) (t : Table) → AreEmpty tables db → Has tables t → db t.tree ≡ []
empty_has [] db t h none = absurd none
empty_has (u ∷ tables) db t h (inl e) = subst (λ (v : Table). db v.tree ≡ []) (sym e) h.0
empty_has (u ∷ tables) db t h (inr more) = empty_has tables db t h.1 more

pub empty_orderly : (db : Trees) → AreEmpty store_tables db → IsOrderly db
empty_orderly db h = record {
  rows = λ t l row has. absurd (subst (λ rs. Has rs row) (empty_has store_tables db t h l) has);
  apart = λ t l. subst AreApart (sym (empty_has store_tables db t h l)) tt;
}

still : (db next : Trees) → AreEmpty store_tables db → KeepsOthers db next 14 → (t : Table) → Has store_tables t → eqb t.tree 14 ≡ false → next t.tree ≡ []
still db next h others t l apart = others t l (ne t.tree 14 apart) ∙ empty_has store_tables db t h l

versioned : (db next : Trees) → AreEmpty store_tables db → Adds db next 14 (meta_row (codes "version") store_version) → IsNewStore next
versioned db next h it = record {
  version = (it.id, it.added);
  only = λ row has. elim (it.only row has) [
    | inl is ↦ (it.id, is)
    | inr was ↦ absurd (subst (λ rs. Has rs row) (empty_has store_tables db meta_table h (inr (inr (inr (inr (inr (inr (inr (inl refl))))))))) was)
  ];
  empty = (
    still db next h it.others mailbox_table (inl refl) refl,
    (
      still db next h it.others acl_table (inr (inl refl)) refl,
      (
        still db next h it.others message_table (inr (inr (inl refl))) refl,
        (
          still db next h it.others gone_table (inr (inr (inr (inl refl)))) refl,
          (
            still db next h it.others mark_table (inr (inr (inr (inr (inl refl))))) refl,
            (
              still db next h it.others epoch_table (inr (inr (inr (inr (inr (inl refl)))))) refl,
              (still db next h it.others sub_table (inr (inr (inr (inr (inr (inr (inl refl))))))) refl, tt),
            ),
          ),
        ),
      ),
    ),
  );
  added = (
    still db next h it.others message2_table heads_listed refl,
    (still db next h it.others body_table bodies_listed refl, (still db next h it.others keyword_table keywords_listed refl, tt)),
  );
}

pub made_store : (mid new : State) → MakesTables mid → IsCall mid new (Turns (λ db after. Adds db after 14 (meta_row (codes "version") store_version)) mid new) → HasCleanDisk new
    → MakesStore new
made_store mid new tables call clean =
    let it = call.made clean tables.mode in
    let done = it.made (λ _. empty_orderly mid.now.trees tables.empty) in
    record { schema = it.schema; made = versioned mid.now.trees new.now.trees tables.empty done.0; order = done.1; mode = it.mode }

pub made_after : (mid new : State) → (HasCleanDisk mid → MakesTables mid) → IsCall mid new (Turns (λ db after. Adds db after 14 (meta_row (codes "version") store_version)) mid new)
    → HasCleanDisk new → MakesStore new
made_after mid new tables call clean = made_store mid new (tables (omega (arith, call.survives.clean, clean))) call clean
