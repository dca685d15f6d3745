use Rattle.std.proofs.Common.{take}
use denote.Text.{Utf8}
use denote.Shadow.{shadow}
use Rattle.imap_listing.proofs.Hierarchy.{AllLevels, HasLevelsOf}
use Rattle.imap_listing.proofs.levels.levels_of.Given as goal

abbrev pub invariant-loop-name : goal.invariant-loop-name
invariant-loop-name l = record {
  utf8 : shadow (Utf8 l.before);
  before : HasLevelsOf l.levels.items l.before;
  levels : AllLevels l.levels.items (take l.name-index l.names);
}
