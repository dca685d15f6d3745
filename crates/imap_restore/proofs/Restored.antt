-- The tables hold the world that was made of them.
use Rattle.std.proofs.Common.{Ok, Err, Result}
use Rattle.std.specs.Prelude.{IfOk}
use Rattle.sqlite.specs.Tree.{Trees}
use Rattle.imap_records.proofs.OneWorld.{filled_again}
use Rattle.imap_tables.specs.Contents.{AreAllApart}
use Rattle.imap_tables.specs.declared.tables.StoredTables.{StoredTables}
use Rattle.imap_world.specs.Stored.{Stored, world_of}
use Rattle.imap_world.specs.World.{World}
use Rattle.imap_world.specs.declared.world_parts.WorldParts.{WorldParts}
use Rattle.imap_restore.specs.Holding.{AreRowsOf, Hold, IsMadeOf}
use Rattle.imap_restore.specs.Parts.{ArePartsFor}
use Rattle.imap_restore.proofs.Held.{world_has}
use Rattle.imap_restore.proofs.Orderly.{meta_shows, tables_orderly}
use Rattle.imap_restore.proofs.Owners.{Read}
use Rattle.imap_restore.proofs.Standing.{tables_stand}

pub if_ok : {X E : Type 0} {P Q : X → Type 0} (r : Result X E) → ((x : X) → P x → Q x) → IfOk r P → IfOk r Q
if_ok (Ok x) f p = f x p
if_ok (Err e) f p = tt

pub holds : (db : Trees) (t : StoredTables) → AreRowsOf db t → AreAllApart t → (parts : WorldParts) → ArePartsFor t parts → (s : Stored) → IsMadeOf parts (world_of s)
    → Hold db (world_of s)
holds db t are distinct parts restored s made =
    let w : World = world_of s in
    let c : Read db w = record { rows = record { t = t; are = are }; distinct = distinct; parts = parts; restored = restored; stand = made.stands } in
    (record { stands = tables_stand db w c; values = world_has db w c made.lists (filled_again s.subscriptions); sound = made.sound; kept = made.kept }, tables_orderly db w c, meta_shows db w c)
