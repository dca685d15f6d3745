-- A world after a change.
use Rattle.std.proofs.Common.{inl, inr, IsTrue, List, ◌∷◌, [], ap, subst}
use Rattle.sqlite.specs.State.{State, HasCleanDisk}
use Rattle.sqlite.specs.Tree.{Trees}
use Rattle.imap_records.specs.Standing.{StandFor}
use Rattle.imap_records.specs.Values.{WorldHasValues}
use Rattle.imap_message_tables.proofs.Written.{writing_fits}
use Rattle.imap_restore.specs.Holding.{HoldSplit, Stand}
use Rattle.imap_restore.proofs.Split.{meta_here, meta_there}
use Rattle.imap_sql_keeper.specs.Keeping.{Keeps, LeavesMade, Made}
use Rattle.imap_tables.specs.Changes.{MakesAll}
use Rattle.imap_tables.specs.declared.changes.RowChange.{RowChange}
use Rattle.imap_world.specs.Effects.{after_result, after_writes}
use Rattle.imap_world.specs.Kept.{AreKept, IsSound}
use Rattle.imap_world.specs.Ready.{IsCurrent}
use Rattle.imap_world.specs.World.{World}
use Rattle.imap_world.specs.declared.change.Write.{Write}
use Rattle.imap_world.proofs.Histories.{all_stay_kept, steps_stay_sound}
use Rattle.imap_keeper.specs.Keeping.{LeavesOr}
use Rattle.imap_sql_keeper.proofs.Meta.{still_shows}

module _ (change : List Write) (rows : List RowChange)
    (stands : (world : World) (old new : Trees) → IsCurrent change world → StandFor old world → MakesAll rows old new → StandFor new (after_writes change world))
    (values : (world : World) → IsCurrent change world → WorldHasValues world → WorldHasValues (after_writes change world)) where
  pub changed : (world : World) (old new : Trees) → IsCurrent change world → Stand old world → MakesAll rows old new → Stand new (after_writes change world)
  changed world old new current s made = record {
    stands = stands world old new current s.stands made;
    values = values world current s.values;
    sound = subst IsSound (ap (λ r. after_result r world) current.2) (steps_stay_sound world (current.0 ∷ []) (current.1, tt) s.sound);
    kept = subst (λ (w : World). AreKept w.mailboxes) (ap (λ r. after_result r world) current.2) (all_stay_kept world (current.0 ∷ []) (current.1, tt) s.kept);
  }

  module _ (old new : State) (early : HasCleanDisk new → HasCleanDisk old) (world : World) (kept : Keeps old world) (current : IsCurrent change world) where
    pub made_holds : HasCleanDisk new → (db : Trees) → Made rows old db → HoldSplit db (after_writes change world)
    made_holds clean db it =
        let was = kept (early clean) it.was_open in
        let (one, split, stand) = was.0 in
        let (next, fits, made) = writing_fits rows old.now.trees db it.made one split in
        ((next, fits, changed world one next current stand made), it.orderly, meta_here db next fits (still_shows rows one next made (meta_there old.now.trees one split was.2)))

    pub made_keeps : (HasCleanDisk new → IsTrue new.is_open → Made rows old new.now.trees) → Keeps new (after_writes change world)
    made_keeps after clean live = made_holds clean new.now.trees (after clean live)

    pub made_leaves : HasCleanDisk new → LeavesMade rows old new → LeavesOr old.may_leave new.may_leave (λ db. HoldSplit db (after_writes change world))
    made_leaves clean leaves db may = elim (leaves db may) [ inl was ↦ inl was | inr it ↦ inr (made_holds clean db it) ]
