-- The tables that the second version adds, made in turn.
use Rattle.std.proofs.Common.{◌≡◌, ℕ, ◌++◌, IsTrue, OnOk, List, [], ◌∷◌, Ok, Err, Result, ◌∙◌, arith}
use Rattle.sqlite.specs.State.{State, HasCleanDisk, Survives}
use Rattle.sqlite.specs.Table.{Table}
use Rattle.sqlite.specs.Tree.{Trees}
use Rattle.sqlite.proofs.InsideLemmas.{keeps_then}
use Rattle.sqlite.proofs.StateLemmas.{survives_then}
use Rattle.imap_tables.specs.Steps.{HasSchema, IsBegun, IsCall, KeepTables, MakesAdded, MakesNext}
use Rattle.imap_tables.specs.Tables.{body_table, message2_table}
use Rattle.imap_tables.specs.Texts.{first_schema, schema_at}

both_kept : (tables : List Table) (old mid new : Trees) → KeepTables tables old mid → KeepTables tables mid new → KeepTables tables old new
both_kept [] old mid new a b = tt
both_kept (t ∷ tables) old mid new a b = (b.0 ∙ a.0, both_kept tables old mid new a.1 b.1)

kept_before : (tables more : List Table) (old new : Trees) → KeepTables (tables ++ more) old new → KeepTables tables old new
kept_before [] more old new h = tt
kept_before (t ∷ tables) more old new h = (h.0, kept_before tables more old new h.1)

pub first_added : (old new : State) → MakesNext 8 old new → MakesAdded 9 old new
first_added old new h = record { was_open = h.shown.was_open; schema = h.schema; kept = h.kept; blank = (h.blank, tt); mode = h.shown.mode }

pub second_added : (old mid new : State) → MakesAdded 9 old mid → MakesNext 9 mid new → MakesAdded 10 old new
second_added old mid new a h = record {
  was_open = a.was_open;
  schema = h.schema;
  kept = both_kept first_schema.tables old.now.trees mid.now.trees new.now.trees a.kept (kept_before first_schema.tables (message2_table ∷ []) mid.now.trees new.now.trees h.kept);
  blank = (h.kept.1.1.1.1.1.1.1.1.0 ∙ a.blank.0, (h.blank, tt));
  mode = h.shown.mode;
}

pub third_added : (old mid new : State) → MakesAdded 10 old mid → MakesNext 10 mid new → MakesAdded 11 old new
third_added old mid new a h = record {
  was_open = a.was_open;
  schema = h.schema;
  kept = both_kept first_schema.tables old.now.trees mid.now.trees new.now.trees a.kept (kept_before first_schema.tables (message2_table ∷ body_table ∷ []) mid.now.trees new.now.trees h.kept);
  blank = (h.kept.1.1.1.1.1.1.1.1.0 ∙ a.blank.0, (h.kept.1.1.1.1.1.1.1.1.1.0 ∙ a.blank.1.0, (h.blank, tt)));
  mode = h.shown.mode;
}

module _ (old mid new : State) where
  early : Survives mid new (λ _. ⊥) → HasCleanDisk new → HasCleanDisk mid
  early s clean = omega (arith, s.clean, clean)

  -- two calls, the first of which went well
  pub both_called : {A B C : Type 0} {X E : Type 0} (r : Result X E) → IsCall old mid A → (A → IsTrue mid.in_transaction) → IsCall mid new (OnOk r B) → (A → B → C) → IsCall old new (OnOk r C)
  both_called {A} {B} {C} {X} {E} r a mode b combine = record {
    made = λ clean inside. let was = a.made (early b.survives clean) inside in by r was (b.made clean (mode was));
    kept = λ clean inside. let was = a.made (early b.survives clean) inside in keeps_then old mid new (a.kept (early b.survives clean) inside) (b.kept clean (mode was));
    survives = survives_then old mid new _ _ _ (λ _ db none. none) (λ _ db none. none) a.survives b.survives;
  }
    where
      by : (s : Result X E) → A → OnOk s B → OnOk s C
      by (Err e) was h = tt
      by (Ok x) was h = combine was h

  pub made_has : {A : Type 0} (n : ℕ) → IsBegun old → IsCall old mid A → (A → mid.now.schema ≡ schema_at n) → HasSchema (schema_at n) mid
  made_has n begun call has clean live = has (call.made clean (begun (omega (arith, call.survives.clean, clean))))
