use Rattle.std.proofs.Common.{◌≡◌, take}
use Rattle.std.specs.List.{flat_map}
use Rattle.imap_list.specs.ListCommand.{pattern_of}
use Rattle.imap_list.proofs.list_arguments.read_each.Given as goal

abbrev pub invariant-loop-text : goal.invariant-loop-text
invariant-loop-text l = l.patterns.items ≡ flat_map (pattern_of l.reference) (take l.text-index l.texts)
