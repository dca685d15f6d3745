use Rattle.std.proofs.Common.{◌≡◌, ◌++◌, map, take}
use Rattle.std.specs.List.{list_any}
use Rattle.imap_rev1_frames.specs.Names.{has_other, name_for}
use Rattle.imap_rev1_frames.proofs.names.push_names.Given as goal

abbrev pub invariant-loop-name : goal.invariant-loop-name
invariant-loop-name l =
    (l.texts.items ≡ l.fn.texts.items ++ map name_for (take l.name-index l.names))
    × (l.any ≡ list_any has_other (take l.name-index l.names))
