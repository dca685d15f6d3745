use Rattle.std.proofs.Common.{◌≡◌, ◌++◌, drop}
use Rattle.std.specs.Prelude.{filter}
use Rattle.imap_mime.specs.Values.{is_kept}
use Rattle.imap_mime.proofs.values.value_of.Given as goal

abbrev pub invariant-loop-octet : goal.invariant-loop-octet
invariant-loop-octet l = l.value ++ filter is_kept (drop l.octet-index l.octets) ≡ filter is_kept l.octets
