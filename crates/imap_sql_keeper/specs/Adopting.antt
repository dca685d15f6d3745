-- A database that is taken over.
use Rattle.std.specs.Prelude.{◌≡◌, ◌≢◌, ◌⊎◌, ℕ, pos, codes}
use Rattle.sqlite.specs.Order.{Row, column}
use Rattle.sqlite.specs.State.{State}
use Rattle.sqlite.specs.Tree.{Trees}
use Rattle.sqlite.specs.declared.types.Value.TheVariants.{Int, Text as Words}
use Rattle.sqlite_rules.specs.Lists.{Has}
use Rattle.imap_restore.specs.Holding.{HoldFirst, HoldSplit, MetaShows}
use Rattle.imap_tables.specs.Reading.{shown_at}
use Rattle.imap_tables.specs.Rows.{IsOrderly}
use Rattle.imap_tables.specs.Steps.{IsNewStore, first_version, gaps_version, store_version}
use Rattle.imap_tables.specs.Tables.{meta_tree, no_schema, store_schema}
use Rattle.imap_tables.specs.Texts.{first_schema}
use Rattle.imap_world.specs.World.{World}

-- the values that are read of a row of `meta` say that the tables are of this version
abbrev pub IsVersion : (version : ℕ) → (shown : Row) → Type 0
IsVersion version shown = (column shown 1 ≡ Words (codes "version")) × (column shown 2 ≡ Int (pos version))

-- the tables say that they are of this version
abbrev pub SaysVersion : (version : ℕ) → Trees → Type 0
SaysVersion version db = (row : Row) × Has (db meta_tree) row × IsVersion version (shown_at 7 row)

-- the tables say that they are of a version that is read as it is: a store of the later one may lack own
-- changes of users among the others
abbrev pub SaysStore : Trees → Type 0
SaysStore db = SaysVersion store_version db ⊎ SaysVersion gaps_version db

-- the tables are new, and in order
abbrev pub IsNew : Trees → Type 0
IsNew db = IsNewStore db × IsOrderly db

-- tables of the first version say that they are, and hold a world
abbrev pub IsFirst : Trees → Type 0
IsFirst db = SaysVersion first_version db × (world : World) × HoldFirst db world

-- the tables hold the world that those of the first version held, and say that they are of this version
pub record IsTakenOver (first db : Trees) : Type 0 where
  pub world : World
  pub held : HoldFirst first world
  pub holds : HoldSplit db world
  pub version : SaysVersion store_version db

-- the tables were made, where there were none; or they are as before, and of a version that is read as it is;
-- or they were of the first version
abbrev pub FindsStore : (old new : State) → Type 0
FindsStore old new =
    ((old.now.schema ≡ no_schema) × IsNewStore new.now.trees × IsOrderly new.now.trees)
    ⊎ (((new.now ≡ old.now) × SaysStore old.now.trees)
    ⊎ ((old.now.schema ≡ first_schema) × IsTakenOver old.now.trees new.now.trees))

-- these tables may be committed: new ones where there were none, or those that take the place of the first
-- version's
abbrev pub IsAdopted : State → Trees → Type 0
IsAdopted s db =
    ((s.now.schema ≡ no_schema) × IsNew db) ⊎ ((s.now.schema ≡ first_schema) × IsTakenOver s.now.trees db)

-- There are other tables; or these say that they are of another version, or don't say it; or they are of the
-- first version, and hold no world.
abbrev pub IsDamaged : State → Type 0
IsDamaged s =
    (s.now.schema ≢ no_schema)
    × (s.now.schema ≡ store_schema → MetaShows s.now.trees → SaysStore s.now.trees → ⊥)
    × (s.now.schema ≡ first_schema → IsFirst s.now.trees → ⊥)
