use Rattle.std.proofs.Common.{◌≡◌, ◌++◌, drop}
use Rattle.imap_structure.specs.MediaReader.{params_from, reader_after}
use Rattle.imap_structure.proofs.media_reader.MediaReader.push_all.Given as goal

abbrev pub invariant-loop-octet : goal.invariant-loop-octet
invariant-loop-octet l = record {
  state : reader_after l.self (drop l.octet-index l.value) ≡ reader_after l.fn.self l.value;
  params : l.params.items ++ params_from l.self (drop l.octet-index l.value) ≡ l.initial.params.items ++ params_from l.fn.self l.value;
}
