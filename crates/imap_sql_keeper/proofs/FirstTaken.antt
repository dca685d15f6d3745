-- Tables of the first version, while they are taken over.
use Rattle.std.proofs.Common.{◌≡◌, IsTrue, List, refl, sym, ap, subst, ◌∙◌, arith}
use Rattle.sqlite.specs.Effect.{Database, IsDatabase}
use Rattle.sqlite.specs.State.{State, HasCleanDisk, IsLive, Survives}
use Rattle.sqlite.specs.Tree.{Trees}
use Rattle.sqlite.proofs.StateLemmas.{survives_then}
use Rattle.imap_keeper.specs.Keeping.{LeavesOnly}
use Rattle.imap_message_tables.specs.Adopting.{AdoptsRows, first_of}
use Rattle.imap_message_tables.proofs.Adopted.{adopted_fits}
use Rattle.imap_restore.specs.Holding.{AreRowsOf, HoldFirst}
use Rattle.imap_restore.proofs.First.{first_messages, first_rows}
use Rattle.imap_restore.proofs.TakenOver.{taken_holds, version_taken}
use Rattle.imap_sql_keeper.specs.Adopting.{IsFirst, IsTakenOver}
use Rattle.imap_sql_keeper.specs.Keeping.{Rests}
use Rattle.imap_sql_keeper.proofs.Saved.{early, same_trees}
use Rattle.imap_tables.specs.Contents.{AreStored}
use Rattle.imap_tables.specs.Edits.{valued_row}
use Rattle.imap_tables.specs.Rows.{IsOrderly}
use Rattle.imap_tables.specs.Steps.{IsBack, Saves, store_version}
use Rattle.imap_tables.specs.Texts.{first_schema}
use Rattle.imap_tables.specs.declared.stored.StoredMessage.{StoredMessage}
use Rattle.imap_tables.specs.declared.tables.StoredTables.{StoredTables}
use Rattle.imap_world.specs.World.{World}

-- ---- what was read of them

module _ (old mid : State) (rest : Rests first_schema old) (s : Survives old mid (λ _. ⊥)) (live : IsLive old) (t : StoredTables)
    (read : HasCleanDisk mid → AreStored old.now.trees t) (was : HasCleanDisk mid → IsTrue old.is_open) where
  is_first : HasCleanDisk mid → IsDatabase (record { schema = first_schema; trees = old.now.trees })
  is_first clean = subst (λ schema. IsDatabase (record { schema = schema; trees = old.now.trees })) (rest.schema (early old mid (λ _. ⊥) rest s clean) (was clean)) (live (was clean)).0

  pub rows_are : HasCleanDisk mid → AreRowsOf (first_of old.now.trees) t
  rows_are clean = first_rows old.now.trees (is_first clean) t (read clean)

  -- ---- they are moved

  module _ (first : HasCleanDisk old → IsTrue old.is_open → IsFirst old.now.trees) (items : List StoredMessage) (are : items ≡ t.messages.items) where
    taken : HasCleanDisk mid → (db : Trees) → AdoptsRows items old.now.trees db → IsOrderly db → IsTakenOver old.now.trees db
    taken clean db made orderly =
        let (says, world, held) = first (early old mid (λ _. ⊥) rest s clean) (was clean) in
        let (row, there, version) = says in
        let (one, split, same) = adopted_fits old.now.trees db t.messages.items (first_messages old.now.trees (is_first clean) t (read clean)) (subst (λ l. AdoptsRows l old.now.trees db) are made) in
        record {
          world = world;
          held = held;
          holds = taken_holds old.now.trees db one split same orderly world held;
          version = (valued_row store_version row, version_taken (first_of old.now.trees) db one split same row there version.0, (version.0, refl));
        }

    module _ (back : HasCleanDisk mid → IsTrue mid.is_open → IsBack old mid) where
      same_now : HasCleanDisk mid → IsTrue mid.is_open → mid.now ≡ old.now
      same_now clean open_now = same_trees old mid (λ _. ⊥) rest s clean (back clean open_now)

      moved : (db : Trees) → HasCleanDisk mid → IsTrue mid.is_open → AdoptsRows items mid.now.trees db → IsOrderly db → IsTakenOver old.now.trees db
      moved db clean open_now made orderly = taken clean db (subst (λ (d : Database). AdoptsRows items d.trees db) (same_now clean open_now) made) orderly

      module _ (new : State) (t2 : Survives mid new (λ db. IsTrue mid.is_open × AdoptsRows items mid.now.trees db × IsOrderly db)) where
        soon : HasCleanDisk new → HasCleanDisk mid
        soon clean = omega (arith, t2.clean, clean)

        pub saved_taken : HasCleanDisk new → Saves (AdoptsRows items) mid new → IsTakenOver old.now.trees new.now.trees
        saved_taken clean it = moved new.now.trees (soon clean) it.was_open it.made it.orderly

        pub crash_taken : Survives old new (λ db. IsTrue old.is_open × IsTakenOver old.now.trees db)
        crash_taken = survives_then old mid new (λ _. ⊥) _ (λ db. IsTrue old.is_open × IsTakenOver old.now.trees db) (λ _ db none. absurd none)
            (λ clean db it. (was (soon clean), moved db (soon clean) it.0 it.1 it.2)) s t2

        pub alone_taken : HasCleanDisk new → Saves (AdoptsRows items) mid new → ((db : Trees) → new.may_leave db → db ≡ new.committed.trees) → LeavesOnly new.may_leave (IsTakenOver old.now.trees)
        alone_taken clean it alone db may = subst (IsTakenOver old.now.trees) (sym (alone db may ∙ ap (λ (d : Database). d.trees) it.committed)) (saved_taken clean it)

-- ---- one call after the other

module _ (old mid : State) (rest : Rests first_schema old) (s : Survives old mid (λ _. ⊥)) (back : HasCleanDisk mid → IsTrue mid.is_open → IsBack old mid) where
  same_mid : HasCleanDisk mid → IsTrue mid.is_open → mid.now ≡ old.now
  same_mid clean open_now = same_trees old mid (λ _. ⊥) rest s clean (back clean open_now)

  -- what holds of the tables before holds of them after
  pub first_still : (HasCleanDisk mid → IsFirst old.now.trees) → HasCleanDisk mid → IsTrue mid.is_open → IsFirst mid.now.trees
  first_still first clean open_now = subst (λ (d : Database). IsFirst d.trees) (sym (same_mid clean open_now)) (first clean)

  pub world_before : HasCleanDisk mid → IsTrue mid.is_open → (world : World) × HoldFirst mid.now.trees world → (world : World) × HoldFirst old.now.trees world
  world_before clean open_now it = (it.0, subst (λ (d : Database). HoldFirst d.trees it.0) (same_mid clean open_now) it.1)

  pub taken_before : (db : Trees) → HasCleanDisk mid → IsTrue mid.is_open → IsTakenOver mid.now.trees db → IsTakenOver old.now.trees db
  taken_before db clean open_now = subst (λ (d : Database). IsTakenOver d.trees db) (same_mid clean open_now)
