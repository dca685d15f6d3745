use Rattle.std.proofs.Common.{◌≡◌, take}
use Rattle.std.specs.Prelude.{flat_map}
use Rattle.imap_list.specs.ListCommand.{status_items_of}
use Rattle.imap_list.proofs.list_arguments.status_items_in.Given as goal

abbrev pub invariant-loop-option : goal.invariant-loop-option
invariant-loop-option l = l.items.items ≡ flat_map status_items_of (take l.option-index l.options)
