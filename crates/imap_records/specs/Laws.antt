-- What holds of tables that stand for worlds.
use Rattle.std.specs.Prelude.{◌≡◌}
use Rattle.std.specs.FinMap as map
use Rattle.sqlite.specs.Tree.{Trees}
use Rattle.imap_records.specs.Standing.{StandFor}
use Rattle.imap_records.specs.Values.{WorldHasValues}
use Rattle.imap_tables.specs.Steps.{IsNewStore}
use Rattle.imap_world.specs.Kept.{AreKept}
use Rattle.imap_world.specs.World.{World}

-- new tables stand for the world without mailboxes
abbrev pub NewStoresStand : Type 0
NewStoresStand =
    (db : Trees) (world : World)
    → IsNewStore db → world.mailboxes ≡ map.empty → world.epochs ≡ map.empty → world.subscriptions ≡ map.empty
    → StandFor db world

-- tables stand for one world at most
abbrev pub StandForOne : Type 0
StandForOne =
    (db : Trees) (s t : World)
    → AreKept s.mailboxes → AreKept t.mailboxes → WorldHasValues s → WorldHasValues t
    → StandFor db s → StandFor db t → s ≡ t
