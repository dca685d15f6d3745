use Rattle.std.proofs.Common.{◌≡◌, ◌++◌, drop, flat_map}
use Rattle.imap_mime.specs.Strings.{address_text}
use Rattle.imap_mime.proofs.strings.push_each.Given as goal

abbrev pub invariant-loop-address : goal.invariant-loop-address
invariant-loop-address l =
    l.out.items ++ flat_map address_text (drop l.address-index l.addresses) ≡ l.initial.out.items ++ flat_map address_text l.addresses
