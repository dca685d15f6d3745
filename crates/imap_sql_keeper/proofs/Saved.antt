-- Connections at rest, before and after calls.
use Rattle.std.proofs.Common.{◌≡◌, false, IsTrue, OnErr, OnOk, [], Result, Ok, Err, sym, ap, subst, ◌∙◌, arith}
use Rattle.sqlite.specs.Effect.{Database}
use Rattle.sqlite.specs.Schema.{Schema}
use Rattle.sqlite.specs.State.{State, HasCleanDisk, Survives}
use Rattle.sqlite.specs.Tree.{Trees}
use Rattle.imap_tables.specs.Rows.{IsOrderly}
use Rattle.imap_tables.specs.Steps.{IsBack, IsStore, Saves}
use Rattle.imap_sql_keeper.specs.Keeping.{IsAtRest, Keeps, Made, Rests}
use Rattle.imap_world.specs.World.{World}
use Rattle.imap_restore.specs.Holding.{HoldSplit}

pub on_ok : {X E A B : Type 0} (r : Result X E) → (A → B) → OnOk r A → OnOk r B
on_ok (Ok x) f a = f a
on_ok (Err e) f a = tt

pub on_both : {X E A B C : Type 0} (r : Result X E) → (A → B → C) → OnOk r A → OnOk r B → OnOk r C
on_both (Ok x) f a b = f a b
on_both (Err e) f a b = tt

pub on_err : {X E A B : Type 0} (r : Result X E) → (A → B) → OnErr r A → OnErr r B
on_err (Ok x) f a = tt
on_err (Err e) f a = f a

module _ {tables : Schema} (old new : State) (C : Trees → Type 0) (rest : Rests tables old) (s : Survives old new C) where
  pub early : HasCleanDisk new → HasCleanDisk old
  early clean = omega (arith, s.clean, clean)

  -- the tables are as before
  pub same_trees : HasCleanDisk new → IsBack old new → new.now ≡ old.now
  same_trees clean b = b.now_is ∙ sym (rest.settled (early clean) b.was_open)

  pub rest_back : new.in_transaction ≡ false → (HasCleanDisk new → IsTrue new.is_open → IsBack old new) → Rests tables new
  rest_back autocommit back = record {
    autocommit = autocommit;
    settled = λ clean live. let b = back clean live in b.now_is ∙ sym b.committed_is;
    schema = λ clean live. let b = back clean live in ap (λ (d : Database). d.schema) (same_trees clean b) ∙ rest.schema (early clean) b.was_open;
  }

  -- a world that was kept is kept
  pub back_keeps : (HasCleanDisk new → IsTrue new.is_open → IsBack old new) → (world : World) → Keeps old world → Keeps new world
  back_keeps back world kept clean live =
      let b = back clean live in
      subst (λ (d : Database). HoldSplit d.trees world) (sym (same_trees clean b)) (kept (early clean) b.was_open)

module _ (old new : State) (C : Trees → Type 0) (rest : IsAtRest old) (s : Survives old new C) where
  pub rest_saved : {X E : Type 0} (P : Trees → Trees → Type 0) (r : Result X E) → new.in_transaction ≡ false
      → (HasCleanDisk new → OnOk r (Saves P old new)) → (HasCleanDisk new → IsTrue new.is_open → OnErr r (IsBack old new)) → IsAtRest new
  rest_saved P (Ok x) autocommit after before = record {
    autocommit = autocommit;
    settled = λ clean live. sym (after clean).committed;
    schema = λ clean live. (after clean).schema;
  }
  rest_saved P (Err e) autocommit after before = rest_back old new C rest s autocommit before

module _ (old : State) (rest : IsAtRest old) (store : IsStore old) where
  -- tables that are as before
  pub none_made : HasCleanDisk old → IsTrue old.is_open → (db : Trees) → db ≡ old.now.trees → Made [] old db
  none_made clean live db same = record { was_open = live; made = same; orderly = subst IsOrderly (sym same) (store clean live).1 }

-- those of the last commit
pub committed_trees : (old : State) → IsAtRest old → HasCleanDisk old → IsTrue old.is_open → (db : Trees) → db ≡ old.committed.trees → db ≡ old.now.trees
committed_trees old rest clean live db is = is ∙ ap (λ (d : Database). d.trees) (sym (rest.settled clean live))
