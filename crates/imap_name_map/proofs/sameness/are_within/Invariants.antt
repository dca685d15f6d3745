use Rattle.std.proofs.Common.{◌≡◌, drop}
use Rattle.imap_name_map.proofs.Kept.{IsWalked}
use Rattle.imap_name_map.proofs.sameness.are_within.Given as goal

abbrev pub invariant-loop-name : goal.invariant-loop-name
invariant-loop-name g l = record {
  place : l.place ≡ l.name-index;
  walked : IsWalked g.V.Part.kept l.entries l.others (drop l.name-index l.entries);
}
