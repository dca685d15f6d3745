-- Tables that hold a world are never refused.
use Rattle.std.proofs.Common.{inl, inr}
use Rattle.sqlite.specs.Tree.{Trees}
use Rattle.imap_tables.specs.Contents.{AreAllApart}
use Rattle.imap_tables.specs.declared.tables.StoredTables.{StoredTables}
use Rattle.imap_world.specs.World.{World}
use Rattle.imap_restore.specs.Holding.{AreRowsOf, Hold, IsUnmade}
use Rattle.imap_restore.proofs.Parted.{has_parts}
use Rattle.imap_restore.proofs.Rowids.{rowids_differ}
use Rattle.imap_restore.proofs.TableRows.{Rows}
use Rattle.imap_restore.proofs.Whole.{made_again}

pub are_apart : (db : Trees) (w : World) → Hold db w → (t : StoredTables) → AreRowsOf db t → AreAllApart t
are_apart db w hold t are = rowids_differ db (record { t = t; are = are }) hold.1

pub never_unmade : (db : Trees) (w : World) → Hold db w → (b : Rows db) → AreAllApart b.t → IsUnmade b.t → ⊥
never_unmade db w hold b distinct (inl none) = none (has_parts db w hold b)
never_unmade db w hold b distinct (inr it) = it.2 w (made_again db w hold b distinct it.0 it.1)
