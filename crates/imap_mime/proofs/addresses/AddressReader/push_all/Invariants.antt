use Rattle.std.proofs.Common.{◌≡◌, ◌++◌, drop}
use Rattle.imap_mime.specs.Addresses.{addresses_from}
use Rattle.imap_mime.proofs.addresses.AddressReader.push_all.Given as goal

abbrev pub invariant-loop-octet : goal.invariant-loop-octet
invariant-loop-octet l = l.done.items ++ addresses_from l.self (drop l.octet-index l.value) ≡ l.initial.done.items ++ addresses_from l.fn.self l.value
