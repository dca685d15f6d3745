use Rattle.std.proofs.Common.{◌≡◌, ◌++◌, drop, flat_map}
use Rattle.imap_syntax.specs.Written.{escaped}
use Rattle.imap_syntax.proofs.write_strings.push_quoted.Given as goal

abbrev pub invariant-loop-octet : goal.invariant-loop-octet
invariant-loop-octet l = l.out.items ++ flat_map escaped (drop l.octet-index l.octets) ≡ l.initial.out.items ++ flat_map escaped l.octets
