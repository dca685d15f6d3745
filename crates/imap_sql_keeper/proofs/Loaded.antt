-- A world that was loaded.
use Rattle.std.proofs.Common.{◌≡◌, IsTrue, sym, subst}
use Rattle.sqlite.specs.Effect.{Database, IsDatabase}
use Rattle.sqlite.specs.State.{State, HasCleanDisk, IsLive, Survives}
use Rattle.sqlite.specs.Tree.{Trees}
use Rattle.imap_records.proofs.OneWorld.{stand_for_one}
use Rattle.imap_restore.specs.Holding.{AreSplitRowsOf, HoldSplit}
use Rattle.imap_restore.proofs.Forms.{kept_rows}
use Rattle.imap_restore.proofs.Split.{all_shown, stand_in}
use Rattle.imap_sql_keeper.specs.Keeping.{AreAllRead, IsAtRest, Keeps}
use Rattle.imap_sql_keeper.proofs.Saved.{early, same_trees}
use Rattle.imap_tables.specs.Contents.{AllAddedShow, AllShow}
use Rattle.imap_tables.specs.Steps.{IsBack}
use Rattle.imap_tables.specs.declared.tables.AddedTables.{AddedTables}
use Rattle.imap_tables.specs.declared.tables.StoredTables.{StoredTables}
use Rattle.imap_world.specs.World.{World}

module _ (old new : State) (rest : IsAtRest old) (s : Survives old new (λ _. ⊥)) where
  -- where nothing is read of a row, there is no world
  pub none_kept : (HasCleanDisk new → IsTrue old.is_open) → (HasCleanDisk new → AllShow old.now.trees → AllAddedShow old.now.trees → ⊥) → HasCleanDisk new → (world : World) → Keeps old world → ⊥
  none_kept was none clean world kept =
      let shown = all_shown old.now.trees world (kept (early old new (λ _. ⊥) rest s clean) (was clean)) in none clean shown.0 shown.1

module _ (old new : State) (rest : IsAtRest old) (s : Survives old new (λ _. ⊥)) (live : IsLive old) (t : StoredTables) (added : AddedTables)
    (read : HasCleanDisk new → AreAllRead old.now.trees (t, added)) (was : HasCleanDisk new → IsTrue old.is_open) where
  -- what was read is all that the tables have
  pub all_read : HasCleanDisk new → AreSplitRowsOf old.now.trees t added
  all_read clean = record {
    obeyed = kept_rows old.now.trees (subst (λ schema. IsDatabase (record { schema = schema; trees = old.now.trees })) (rest.schema (early old new (λ _. ⊥) rest s clean) (was clean)) (live (was clean)).0);
    stored = (read clean).0;
    three = (read clean).1;
  }

  module _ (world : World) (holds : (db : Trees) → AreSplitRowsOf db t added → HoldSplit db world) where
    pub loaded : (HasCleanDisk new → IsTrue new.is_open → IsBack old new) → Keeps new world
    loaded back clean live_now =
        subst (λ (d : Database). HoldSplit d.trees world) (sym (same_trees old new (λ _. ⊥) rest s clean (back clean live_now))) (holds old.now.trees (all_read clean))

    pub one_loaded : HasCleanDisk new → (other : World) → Keeps old other → world ≡ other
    one_loaded clean other kept =
        let (one, split, a) = (holds old.now.trees (all_read clean)).0 in
        let b = stand_in old.now.trees one other split (kept (early old new (λ _. ⊥) rest s clean) (was clean)).0 in
        stand_for_one one world other a.kept b.kept a.values b.values a.stands b.stands
